-- Rows of keys: those of a site, and that of the root frame.
use Rattle.std.proofs.Common.{◌≡◌, ℕ, cond, nat_eq, Option, Some, None, Result, Ok, Err, OnOk, OnErr, refl, sym, ap, subst, ◌∙◌, arith}
use Rattle.std.proofs.lemmas.Bool.{eq-eqb}
use Rattle.spp_dag.specs.declared.row.Row.{Row}
use Rattle.spp_dag.specs.Shares.{plus, zero_row}
use Rattle.spp_site.specs.Rows.{Fits}
use Rattle.spp_site.specs.Table.{Sums, row_at, empty, IsAdded, IsSum}
use Rattle.spp_site.specs.Profiles.{key_row}
use Rattle.spp_site.specs.NarrowRows.{at_site}
use Rattle.spp_site.proofs.Rows.{plus-zero, plus-assoc, plus-cond}
use Rattle.spp_site.proofs.Small.{empty_row}

turned : (a b : ℕ) → nat_eq a b ≡ nat_eq b a
turned a b = grind arith

-- what a row adds to that of its own site
pub own_row : (site : ℕ) (r : Row) → at_site site r (Some site) ≡ r
own_row site r = ap (λ b. cond b r zero_row) (eq-eqb site site refl)

-- and to any
pub added_key : (t u : Sums) (site : ℕ) (r : Row) → IsAdded t u site r → (key : Option ℕ) → key_row u key ≡ plus (key_row t key) (at_site site r key)
added_key t u site r h None = h.root ∙ sym (plus-zero t.root)
added_key t u site r h (Some s) = h.sites s ∙ sym (plus-cond (nat_eq s site) (row_at t s) r) ∙ ap (λ b. plus (row_at t s) (cond b r zero_row)) (turned s site)

-- a row was added where it was at all keys
pub key_added : (t u : Sums) (site : ℕ) (r : Row) → ((key : Option ℕ) → key_row u key ≡ plus (key_row t key) (at_site site r key)) → IsAdded t u site r
key_added t u site r h = record {
  root = h None ∙ plus-zero t.root;
  sites = λ s. h (Some s) ∙ ap (λ b. plus (row_at t s) (cond b r zero_row)) (turned site s) ∙ plus-cond (nat_eq s site) (row_at t s) r;
}

-- to another table with the same rows
pub added_from : (old mid new : Sums) (site : ℕ) (r : Row) → ((key : Option ℕ) → key_row mid key ≡ key_row old key) → IsAdded mid new site r → IsAdded old new site r
added_from old mid new site r same h = key_added old new site r (λ key. added_key mid new site r h key ∙ ap (λ x. plus x (at_site site r key)) (same key))

-- a table that was just made
pub empty_key : (key : Option ℕ) → key_row empty key ≡ zero_row
empty_key None = refl
empty_key (Some s) = empty_row s

-- the sum of two tables
pub sum_key : (a b t : Sums) → IsSum a b t → (key : Option ℕ) → key_row t key ≡ plus (key_row a key) (key_row b key)
sum_key a b t h None = h.root
sum_key a b t h (Some s) = h.sites s

-- ---- parts of what fits

pub left_fits : (a b : Row) → Fits (plus a b) → Fits a
left_fits a b f = record {
  count = omega (arith, f.count);
  local = omega (arith, f.local);
  site_count = omega (arith, f.site_count);
  site_work = omega (arith, f.site_work);
  site_span = omega (arith, f.site_span);
  caller_count = omega (arith, f.caller_count);
  caller_work = omega (arith, f.caller_work);
  caller_span = omega (arith, f.caller_span);
}

pub row_fits : (r s q : Row) → plus r s ≡ q → Fits q → Fits r
row_fits r s q e f = left_fits r s (subst Fits (sym e) f)

pub first_two_fit : (a b c : Row) → Fits (plus a (plus b c)) → Fits (plus a b)
first_two_fit a b c f = left_fits (plus a b) c (subst Fits (sym (plus-assoc a b c)) f)

-- ---- what holds where it went well, and where not

pub ok_more : {X E : Type 0} (P Q : Type 0) → (P → Q) → (r : Result X E) → OnOk r P → OnOk r Q
ok_more P Q f (Ok x) h = f h
ok_more P Q f (Err e) h = h

pub err_more : {X E : Type 0} (P Q : Type 0) → (P → Q) → (r : Result X E) → OnErr r P → OnErr r Q
err_more P Q f (Ok x) h = h
err_more P Q f (Err e) h = f h

pub on_err : {X E : Type 0} (P : Type 0) → P → (r : Result X E) → OnErr r P
on_err P h (Ok x) = tt
on_err P h (Err e) = h
