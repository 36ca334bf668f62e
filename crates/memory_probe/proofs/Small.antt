-- Tables and shares with small rows, and what holds of a call that was refused, or was not.
use Rattle.std.proofs.Common.{◌≡◌, ℕ, true, false, Result, Ok, Err, arith, refl, sym, subst}
use Rattle.std.specs.Result.{is_err, OnOk, OnErr}
use Rattle.spp_dag.specs.declared.row.Row.{Row}
use Rattle.spp_dag.specs.Shares.{plus}
use Rattle.spp_site.specs.Rows.{Fits}
use Rattle.spp_site.specs.Table.{Sums, row_at, empty, IsAdded, IsSum}
use Rattle.spp_site.proofs.Small.{AreAtMost, small_empty, small_added, small_fits, small_thirty}

-- the first row of a table
abbrev pub ten : Row
ten = record { count = 1; local = 10; site_count = 0; site_work = 0; site_span = 0; caller_count = 0; caller_work = 0; caller_span = 0 }

pub ten_fits : (t : Sums) (site : ℕ) → t ≡ empty → Fits (plus (row_at t site) ten)
ten_fits t site e = small_fits 0 30 (row_at t site) ten (omega arith) (small_empty t e site) (small_thirty ten refl)

pub with_ten : (old new : Sums) (site : ℕ) → old ≡ empty → IsAdded old new site ten → AreAtMost 30 new
with_ten old new site e a = small_added 0 30 old new site ten (small_empty old e) (small_thirty ten refl) a

pub same_small : (t u : Sums) → u ≡ t → AreAtMost 30 t → AreAtMost 30 u
same_small t u e h = subst (λ (x : Sums). AreAtMost 30 x) (sym e) h

pub both_fit : (t u : Sums) → AreAtMost 30 t → AreAtMost 30 u → (s : ℕ) → Fits (plus (row_at t s) (row_at u s))
both_fit t u h i s = small_fits 30 30 (row_at t s) (row_at u s) (omega arith) (h s) (i s)

pub sum_fits : (t u sum : Sums) → AreAtMost 30 t → AreAtMost 30 u → IsSum t u sum → (s : ℕ) → Fits (row_at sum s)
sum_fits t u sum h i is s = subst (λ (r : Row). Fits r) (sym (is.sites s)) (both_fit t u h i s)

pub when_refused : {X E : Type 0} {P : Type 0} (r : Result X E) → is_err r ≡ true → OnErr r P → P
when_refused (Ok x) h p = cc
when_refused (Err e) h p = p

pub when_done : {X E : Type 0} {P : Type 0} (r : Result X E) → is_err r ≡ false → OnOk r P → P
when_done (Ok x) h p = p
when_done (Err e) h p = cc
