-- Tables of narrow rows.
use Rattle.std.proofs.Common.{◌≡◌, ℕ, zero, suc, ◌+◌, ◌<◌, ◌≤◌, Bool, true, false, ◌&&◌, cond, nat_eq, List, [], ◌∷◌, ◌++◌, length, get_or, set, replicate, Option, Some, None, take, drop, refl, sym, ap, ap₂, subst, ◌∙◌, inl, inr, arith}
use Rattle.std.proofs.lemmas.Bool.{and_parts, eqb-true}
use Rattle.std.proofs.lemmas.Bool.Decides.{eqb_tells}
use Rattle.std.proofs.lemmas.List.{get_or-set_same, get_or-set_other, length-take-le, take_all, drop_all}
use Rattle.std.proofs.Math.Dec.{eqb-zero-suc, eqb-suc-zero, eqb-suc-suc}
use Rattle.std.proofs.Math.Seq.{take-suc, drop-cons}
use Rattle.spp_dag.specs.declared.row.Row.{Row}
use Rattle.spp_dag.specs.Shares.{plus, zero_row}
use Rattle.spp_dag.specs.Steps.{same_key}
use Rattle.spp_site.specs.Rows.{Fits}
use Rattle.spp_site.specs.Table.{Sums, row_at, IsAdded}
use Rattle.spp_site.specs.Profiles.{key_row}
use Rattle.spp_site.proofs.Rows.{plus-zero, zero-plus, plus-assoc, plus-swap}
use Rattle.spp_site.specs.declared.narrow_row.KnownRow.{KnownRow}
use Rattle.spp_site.specs.declared.narrow_row.NarrowRow.{NarrowRow}
use Rattle.spp_site.specs.NarrowRows.{narrow_row, zero_narrow, narrow_at, at_site, known_rows}
use Rattle.spp_site.proofs.Keys.{added_key, row_fits}

-- a row in its place, with some more
pub set_at : (rows : List NarrowRow) (k : ℕ) (x r : NarrowRow) (more : Row) → k < length rows → x ≡ get_or rows k zero_narrow → narrow_row r ≡ plus (narrow_row x) more
    → (key : Option ℕ) → narrow_at (set rows k r) key ≡ plus (narrow_at rows key) (cond (same_key (Some k) key) more zero_row)
set_at rows k x r more lt is sum None = refl
set_at rows k x r more lt is sum (Some s) =
    elim (eqb_tells k s) [
      | inl h ↦
          ap narrow_row (ap (λ n. get_or (set rows k r) n zero_narrow) (sym h.1) ∙ get_or-set_same rows k r zero_narrow lt)
          ∙ sum ∙ ap (λ (z : NarrowRow). plus (narrow_row z) more) (is ∙ ap (λ n. get_or rows n zero_narrow) h.1) ∙ ap (λ b. plus (narrow_row (get_or rows s zero_narrow)) (cond b more zero_row)) (sym h.0)
      | inr h ↦
          ap narrow_row (get_or-set_other rows k s r zero_narrow (λ e. h.1 (sym e))) ∙ sym (plus-zero (narrow_row (get_or rows s zero_narrow)))
          ∙ ap (λ b. plus (narrow_row (get_or rows s zero_narrow)) (cond b more zero_row)) (sym h.0)
    ]

-- rows of no frames behind the others
blank : (n s : ℕ) → get_or (replicate n zero_narrow) s zero_narrow ≡ zero_narrow
blank zero s = refl
blank (suc n) zero = refl
blank (suc n) (suc s) = blank n s

pub longer : (rows : List NarrowRow) (n : ℕ) (key : Option ℕ) → narrow_at (rows ++ replicate n zero_narrow) key ≡ narrow_at rows key
longer rows n None = refl
longer [] n (Some s) = ap narrow_row (blank n s)
longer (y ∷ ys) n (Some zero) = refl
longer (y ∷ ys) n (Some (suc s)) = longer ys n (Some s)

-- ---- rows of which all is known

-- in place of a row where there is none
abbrev pub no_known : KnownRow
no_known = record { row = zero_narrow; site = 0 }

pub known_more : (ks : List KnownRow) (k : KnownRow) (key : Option ℕ) → known_rows (ks ++ k ∷ []) key ≡ plus (known_rows ks key) (at_site k.site (narrow_row k.row) key)
known_more [] k key = refl
known_more (x ∷ ks) k key =
    ap (λ r. plus r (at_site x.site (narrow_row x.row) key)) (known_more ks k key) ∙ plus-swap (known_rows ks key) (at_site k.site (narrow_row k.row) key) (at_site x.site (narrow_row x.row) key)

-- rows, with those that they lack
abbrev pub LacksKnown : (Option ℕ → Row) → List KnownRow → (Option ℕ → Row) → Type 0
LacksKnown now ks whole = (key : Option ℕ) → plus (now key) (known_rows ks key) ≡ whole key

pub known_at : (now : Option ℕ → Row) (ks : List KnownRow) (k : ℕ) (d : KnownRow) (whole : Option ℕ → Row) → k < length ks → LacksKnown now (drop k ks) whole → LacksKnown now (get_or ks k d ∷ drop (k + 1) ks) whole
known_at now ks k d whole lt h =
    let next : suc k ≡ k + 1 = omega arith in
    subst (λ l. LacksKnown now l whole) (drop-cons ks k d lt ∙ ap (λ n. get_or ks k d ∷ drop n ks) next) h

known_less : (now : Option ℕ → Row) (x : KnownRow) (ks : List KnownRow) (whole : Option ℕ → Row) → LacksKnown now (x ∷ ks) whole → (key : Option ℕ)
    → plus (plus (now key) (at_site x.site (narrow_row x.row) key)) (known_rows ks key) ≡ whole key
known_less now x ks whole h key =
    let r : Row = at_site x.site (narrow_row x.row) key in
    plus-swap (now key) r (known_rows ks key) ∙ plus-assoc (now key) (known_rows ks key) r ∙ h key

pub known_fits : (now : Option ℕ → Row) (x : KnownRow) (ks : List KnownRow) (whole : Option ℕ → Row) → LacksKnown now (x ∷ ks) whole → ((key : Option ℕ) → Fits (whole key))
    → (key : Option ℕ) → Fits (plus (now key) (at_site x.site (narrow_row x.row) key))
known_fits now x ks whole h fits key = row_fits (plus (now key) (at_site x.site (narrow_row x.row) key)) (known_rows ks key) (whole key) (known_less now x ks whole h key) (fits key)

pub known_added : (now then : Option ℕ → Row) (x : KnownRow) (ks : List KnownRow) (whole : Option ℕ → Row) → LacksKnown now (x ∷ ks) whole
    → ((key : Option ℕ) → then key ≡ plus (now key) (at_site x.site (narrow_row x.row) key)) → LacksKnown then ks whole
known_added now then x ks whole h added key = ap (λ r. plus r (known_rows ks key)) (added key) ∙ known_less now x ks whole h key

pub known_none : (now : Option ℕ → Row) (ks : List KnownRow) (k : ℕ) (whole : Option ℕ → Row) → length ks ≤ k → LacksKnown now (drop k ks) whole → (key : Option ℕ) → now key ≡ whole key
known_none now ks k whole le h key = sym (plus-zero (now key)) ∙ ap (λ l. plus (now key) (known_rows l key)) (sym (drop_all k ks le)) ∙ h key

-- a row in its place
pub found_at : (rows : List NarrowRow) (k : ℕ) (x : NarrowRow) → k < length rows → x ≡ get_or rows k x → x ≡ get_or rows k zero_narrow
found_at [] k x lt is = absurd (omega arith)
found_at (y ∷ ys) zero x lt is = is
found_at (y ∷ ys) (suc k) x lt is = found_at ys k x (omega arith) is

-- ---- no frames

pub is_none : (x : NarrowRow)
    → (nat_eq x.local 0 && (nat_eq x.site_work 0 && (nat_eq x.site_span 0 && (nat_eq x.caller_work 0 && (nat_eq x.caller_span 0 && (nat_eq x.count 0 && (nat_eq x.site_count 0 && nat_eq x.caller_count 0))))))) ≡ true
    → x ≡ zero_narrow
is_none x h =
    let a = and_parts _ _ h in
    let b = and_parts _ _ a.1 in
    let c = and_parts _ _ b.1 in
    let d = and_parts _ _ c.1 in
    let e = and_parts _ _ d.1 in
    let f = and_parts _ _ e.1 in
    let g = and_parts _ _ f.1 in
    λ j. record {
      local = eqb-true x.local 0 a.0 j;
      site_work = eqb-true x.site_work 0 b.0 j;
      site_span = eqb-true x.site_span 0 c.0 j;
      caller_work = eqb-true x.caller_work 0 d.0 j;
      caller_span = eqb-true x.caller_span 0 e.0 j;
      count = eqb-true x.count 0 f.0 j;
      site_count = eqb-true x.site_count 0 g.0 j;
      caller_count = eqb-true x.caller_count 0 g.1 j;
    }

pub none_narrow : (key : Option ℕ) → narrow_at [] key ≡ zero_row
none_narrow None = refl
none_narrow (Some s) = refl

-- ---- the rows of the first sites

-- with another one
snoc_at : (xs : List NarrowRow) (x : NarrowRow) (s : ℕ) → narrow_row (get_or (xs ++ x ∷ []) s zero_narrow) ≡ plus (narrow_row (get_or xs s zero_narrow)) (cond (nat_eq (length xs) s) (narrow_row x) zero_row)
snoc_at [] x zero = sym (zero-plus (narrow_row x))
snoc_at [] x (suc s) = ap (λ b. plus zero_row (cond b (narrow_row x) zero_row)) (sym (eqb-zero-suc s))
snoc_at (y ∷ ys) x zero = sym (plus-zero (narrow_row y)) ∙ ap (λ b. plus (narrow_row y) (cond b (narrow_row x) zero_row)) (sym (eqb-suc-zero (length ys)))
snoc_at (y ∷ ys) x (suc s) = snoc_at ys x s ∙ ap (λ b. plus (narrow_row (get_or ys s zero_narrow)) (cond b (narrow_row x) zero_row)) (sym (eqb-suc-suc (length ys) s))

next_at : (rows : List NarrowRow) (k : ℕ) → k < length rows → (key : Option ℕ)
    → narrow_at (take (k + 1) rows) key ≡ plus (narrow_at (take k rows) key) (cond (same_key (Some k) key) (narrow_row (get_or rows k zero_narrow)) zero_row)
next_at rows k lt None = refl
next_at rows k lt (Some s) =
    let next : k + 1 ≡ suc k = omega arith in
    let x : NarrowRow = get_or rows k zero_narrow in
    ap (λ (l : List NarrowRow). narrow_row (get_or l s zero_narrow)) (ap (λ n. take n rows) next ∙ take-suc rows k zero_narrow lt) ∙ snoc_at (take k rows) x s
    ∙ ap (λ n. plus (narrow_row (get_or (take k rows) s zero_narrow)) (cond (nat_eq n s) (narrow_row x) zero_row)) (length-take-le k rows (omega (arith, lt)))

past : (rows : List NarrowRow) (k : ℕ) → get_or (take k rows) k zero_narrow ≡ zero_narrow
past [] zero = refl
past [] (suc k) = refl
past (y ∷ ys) zero = refl
past (y ∷ ys) (suc k) = past ys k

-- a table that has these rows of keys, and the narrow ones of the sites below k
abbrev pub HasUpTo : (Option ℕ → Row) → List NarrowRow → ℕ → Sums → Type 0
HasUpTo base rows k t = (key : Option ℕ) → key_row t key ≡ plus (base key) (narrow_at (take k rows) key)

pub up_to_none : (base : Option ℕ → Row) (t : Sums) (rows : List NarrowRow) → ((key : Option ℕ) → key_row t key ≡ base key) → HasUpTo base rows 0 t
up_to_none base t rows h key = h key ∙ sym (plus-zero (base key)) ∙ ap (plus (base key)) (sym (none_narrow key))

pub site_fits : (base : Option ℕ → Row) (t : Sums) (rows : List NarrowRow) (k : ℕ) (r : Row) → HasUpTo base rows k t → r ≡ narrow_row (get_or rows k zero_narrow)
    → ((key : Option ℕ) → Fits (plus (base key) (narrow_at rows key))) → Fits (plus (row_at t k) r)
site_fits base t rows k r h is fits =
    let b : Row = base (Some k) in
    subst Fits (sym (ap₂ plus (h (Some k) ∙ ap (λ (x : NarrowRow). plus b (narrow_row x)) (past rows k) ∙ plus-zero b) is)) (fits (Some k))

pub next_up_to : (base : Option ℕ → Row) (t u : Sums) (rows : List NarrowRow) (k : ℕ) (r : Row) → k < length rows → HasUpTo base rows k t → r ≡ narrow_row (get_or rows k zero_narrow) → IsAdded t u k r
    → HasUpTo base rows (k + 1) u
next_up_to base t u rows k r lt h is added key =
    let one : Row = cond (same_key (Some k) key) (narrow_row (get_or rows k zero_narrow)) zero_row in
    added_key t u k r added key ∙ ap₂ plus (h key) (ap (λ x. cond (same_key (Some k) key) x zero_row) is) ∙ plus-assoc (base key) (narrow_at (take k rows) key) one ∙ ap (plus (base key)) (sym (next_at rows k lt key))

-- no row for a site
pub skip_up_to : (base : Option ℕ → Row) (t : Sums) (rows : List NarrowRow) (k : ℕ) → k < length rows → HasUpTo base rows k t → get_or rows k zero_narrow ≡ zero_narrow → HasUpTo base rows (k + 1) t
skip_up_to base t rows k lt h none key =
    h key ∙ ap (plus (base key)) (sym (by (same_key (Some k) key)) ∙ sym (next_at rows k lt key))
  where
    by : (b : Bool) → plus (narrow_at (take k rows) key) (cond b (narrow_row (get_or rows k zero_narrow)) zero_row) ≡ narrow_at (take k rows) key
    by true = ap (λ (x : NarrowRow). plus (narrow_at (take k rows) key) (narrow_row x)) none ∙ plus-zero (narrow_at (take k rows) key)
    by false = plus-zero (narrow_at (take k rows) key)

pub all_up_to : (base : Option ℕ → Row) (t : Sums) (rows : List NarrowRow) (k : ℕ) → length rows ≤ k → HasUpTo base rows k t → (key : Option ℕ) → key_row t key ≡ plus (base key) (narrow_at rows key)
all_up_to base t rows k le h key = h key ∙ ap (λ (l : List NarrowRow). plus (base key) (narrow_at l key)) (take_all k rows le)
