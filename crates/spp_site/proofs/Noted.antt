-- Narrow rows whose sites are noted.
use Rattle.std.proofs.Common.{◌≡◌, ℕ, zero, suc, ◌+◌, ◌<◌, ◌≤◌, Bool, true, false, ◌||◌, cond, nat_eq, List, [], ◌∷◌, ◌++◌, length, get_or, set, Option, Some, None, drop, refl, sym, ap, ap₂, subst, ◌∙◌, inl, inr, arith}
use Rattle.std.proofs.lemmas.Bool.{eq-eqb}
use Rattle.std.proofs.lemmas.Bool.Decides.{eqb_tells}
use Rattle.std.proofs.lemmas.List.{get_or-set_same, get_or-set_other, drop_all}
use Rattle.std.proofs.Math.Seq.{drop-cons}
use Rattle.spp_dag.specs.Shares.{plus, zero_row}
use Rattle.spp_site.specs.declared.narrow_row.KnownRow.{KnownRow}
use Rattle.spp_site.specs.declared.narrow_row.NarrowRow.{NarrowRow}
use Rattle.spp_site.specs.Table.{Sums, empty}
use Rattle.spp_site.specs.Profiles.{key_row}
use Rattle.spp_site.specs.NarrowRows.{narrow_row, zero_narrow, narrow_at, at_site, known_rows, is_noted, AreNoted}
use Rattle.spp_site.specs.NarrowTables.{narrow_sums, with_known}
use Rattle.spp_site.proofs.Rows.{plus-zero, zero-plus}
use Rattle.spp_site.proofs.Keys.{empty_key}
use Rattle.spp_site.proofs.NarrowTables.{known_key, narrow_key}

or_true : (a : Bool) → a || true ≡ true
or_true false = refl
or_true true = refl

-- ---- one more is noted

pub noted_same : (ns : List ℕ) (old new : List NarrowRow) → ((key : Option ℕ) → narrow_at new key ≡ narrow_at old key) → AreNoted ns old → AreNoted ns new
noted_same ns old new same h s none = same (Some s) ∙ h s none

part_false : (b x y : Bool) → (x ≡ false → y ≡ false) → b || x ≡ false → b || y ≡ false
part_false true x y f e = e
part_false false x y f e = f e

fewer : (ns : List ℕ) (n s : ℕ) → is_noted (ns ++ n ∷ []) s ≡ false → is_noted ns s ≡ false
fewer [] n s none = refl
fewer (m ∷ ns) n s none = part_false (nat_eq m s) (is_noted (ns ++ n ∷ []) s) (is_noted ns s) (fewer ns n s) none

pub noted_more : (ns : List ℕ) (n : ℕ) (rows : List NarrowRow) → AreNoted ns rows → AreNoted (ns ++ n ∷ []) rows
noted_more ns n rows h s none = h s (fewer ns n s none)

pub one_noted : (ns : List ℕ) (n : ℕ) → is_noted (ns ++ n ∷ []) n ≡ true
one_noted [] n = ap (λ b. b || false) (eq-eqb n n refl)
one_noted (m ∷ ns) n = ap (λ b. nat_eq m n || b) (one_noted ns n) ∙ or_true (nat_eq m n)

-- ---- rows are taken out

pub next_noted : (ns : List ℕ) (k d : ℕ) (rows : List NarrowRow) → k < length ns → AreNoted (drop k ns) rows → AreNoted (get_or ns k d ∷ drop (k + 1) ns) rows
next_noted ns k d rows lt h =
    let next : suc k ≡ k + 1 = omega arith in
    subst (λ (l : List ℕ). AreNoted l rows) (drop-cons ns k d lt ∙ ap (λ n. get_or ns k d ∷ drop n ns) next) h

pub noted_taken : (ns : List ℕ) (n : ℕ) (rows : List NarrowRow) → n < length rows → AreNoted (n ∷ ns) rows → AreNoted ns (set rows n zero_narrow)
noted_taken ns n rows lt h s none =
    elim (eqb_tells n s) [
      | inl e ↦ ap narrow_row (ap (λ k. get_or (set rows n zero_narrow) k zero_narrow) (sym e.1) ∙ get_or-set_same rows n zero_narrow zero_narrow lt)
      | inr e ↦ ap narrow_row (get_or-set_other rows n s zero_narrow zero_narrow (λ q. e.1 (sym q))) ∙ h s (ap (λ b. b || is_noted ns s) e.0 ∙ none)
    ]

past : (rows : List NarrowRow) (n : ℕ) → length rows ≤ n → get_or rows n zero_narrow ≡ zero_narrow
past [] n le = refl
past (y ∷ ys) zero le = absurd (omega arith)
past (y ∷ ys) (suc n) le = past ys n (omega arith)

pub noted_past : (ns : List ℕ) (n : ℕ) (rows : List NarrowRow) → length rows ≤ n → AreNoted (n ∷ ns) rows → AreNoted ns rows
noted_past ns n rows le h s none =
    elim (eqb_tells n s) [
      | inl e ↦ ap narrow_row (past rows s (subst (λ k. length rows ≤ k) e.1 le))
      | inr e ↦ h s (ap (λ b. b || is_noted ns s) e.0 ∙ none)
    ]

pub noted_none : (ns : List ℕ) (k : ℕ) (rows : List NarrowRow) → length ns ≤ k → AreNoted (drop k ns) rows → (key : Option ℕ) → narrow_at rows key ≡ zero_row
noted_none ns k rows le h None = refl
noted_none ns k rows le h (Some s) = h s (ap (λ (l : List ℕ). is_noted l s) (drop_all k ns le))

pub taken_one : (rows : List NarrowRow) (n : ℕ) (x : NarrowRow) → n < length rows → x ≡ get_or rows n zero_narrow
    → (key : Option ℕ) → plus (at_site n (narrow_row x) key) (narrow_at (set rows n zero_narrow) key) ≡ narrow_at rows key
taken_one rows n x lt is None = plus-zero zero_row
taken_one rows n x lt is (Some s) =
    elim (eqb_tells n s) [
      | inl e ↦
          ap₂ plus (ap (λ b. cond b (narrow_row x) zero_row) e.0)
          (ap narrow_row (ap (λ k. get_or (set rows n zero_narrow) k zero_narrow) (sym e.1) ∙ get_or-set_same rows n zero_narrow zero_narrow lt))
          ∙ plus-zero (narrow_row x) ∙ ap narrow_row (is ∙ ap (λ k. get_or rows k zero_narrow) e.1)
      | inr e ↦
          ap₂ plus (ap (λ b. cond b (narrow_row x) zero_row) e.0) (ap narrow_row (get_or-set_other rows n s zero_narrow zero_narrow (λ q. e.1 (sym q))))
          ∙ zero-plus (narrow_row (get_or rows s zero_narrow))
    ]

-- ---- what contracts see of it

pub taken_list : (wide : Sums) (rows : List NarrowRow) (list : List KnownRow) → ((key : Option ℕ) → known_rows list key ≡ narrow_at rows key)
    → (key : Option ℕ) → key_row (with_known wide list) key ≡ key_row (narrow_sums wide rows) key
taken_list wide rows list h key = known_key wide list key ∙ ap (plus (key_row wide key)) (h key) ∙ sym (narrow_key wide rows key)

pub left_none : (wide : Sums) (rows : List NarrowRow) → wide ≡ empty → ((key : Option ℕ) → narrow_at rows key ≡ zero_row) → (key : Option ℕ) → key_row (narrow_sums wide rows) key ≡ zero_row
left_none wide rows e h key = narrow_key wide rows key ∙ ap₂ plus (ap (λ (t : Sums). key_row t key) e ∙ empty_key key) (h key)
