-- Two ways that are walked together, one on the path without burdens and one on that under them.
use Rattle.std.proofs.Common.{◌≡◌, ℕ, suc, ◌+◌, ◌≤◌, ◌<◌, Bool, true, false, cond, nat_eq, List, [], ◌∷◌, ◌++◌, length, reverse, get_or, Option, refl, sym, ap, ap₂, subst, inl, inr, ◌∙◌, arith}
use Rattle.std.proofs.lemmas.Bool.{eqb-true}
use Rattle.std.proofs.lemmas.Bool.Decides.{nat_tests, eqb_tells}
use Rattle.spp_dag.specs.declared.row.Row.{Row}
use Rattle.spp_dag.specs.Shares.{plus, zero_row}
use Rattle.spp_site.proofs.Rows.{plus-zero, zero-plus, plus-assoc, plus-over}
use Rattle.spp_ways.specs.declared.log.LogRow.{LogRow}
use Rattle.spp_ways.specs.declared.both_ways.BothWays.{BothWays}
use Rattle.spp_ways.specs.Logs.{way_row, row_on, before_on, within_on, AreLinked}
use Rattle.spp_ways.specs.PathSums.{way_of, last_of, ends, ended_row, left_before, left_within, put_ways}
use Rattle.spp_ways.proofs.Staying.{rows_none}
use Rattle.spp_ways.proofs.Summing.{all_rows, way_count, all_count, count_older, AllIn, all_rows-append, count-append, in-append, in-put, split, split_count, before_in, within_in}

-- ---- the pairs that are left

-- their ways on one path
abbrev pub ways_on : Bool → List BothWays → List ℕ
ways_on on [] = []
ways_on on (w ∷ ws) = way_of on w ∷ ways_on on ws

pub ways-append : (on : Bool) (ws : List BothWays) (w : BothWays) → ways_on on (ws ++ (w ∷ [])) ≡ ways_on on ws ++ (way_of on w ∷ [])
ways-append on [] w = refl
ways-append on (v ∷ ws) w = ap (λ (l : List ℕ). way_of on v ∷ l) (ways-append on ws w)

-- what the turns that are left are counted by: the rows of all these ways
abbrev pub turns : List LogRow → List BothWays → ℕ
turns log ws = all_count false log (ways_on false ws) + all_count true log (ways_on true ws)

-- each enters a row on one path at least
abbrev pub AllSome : List BothWays → Type 0
AllSome [] = Unit {0}
AllSome (w ∷ ws) = (0 < last_of w) × AllSome ws

-- the pair that is taken
pub pair_in : (n : ℕ) (on : Bool) (ws : List BothWays) (w : BothWays) → AllIn n (ways_on on (ws ++ (w ∷ []))) → AllIn n (ways_on on ws) × (way_of on w ≤ n)
pair_in n on ws w h = in-append n (ways_on on ws) (way_of on w) (subst (AllIn n) (ways-append on ws w) h)

pub pair_some : (ws : List BothWays) (w : BothWays) → AllSome (ws ++ (w ∷ [])) → AllSome ws × (0 < last_of w)
pair_some [] w h = (tt, h.0)
pair_some (v ∷ ws) w h = let r = pair_some ws w h.1 in ((h.0, r.0), r.1)

rows-append : (on : Bool) (log : List LogRow) (ws : List BothWays) (w : BothWays) (key : Option ℕ)
    → all_rows on log (ways_on on (ws ++ (w ∷ []))) key ≡ plus (all_rows on log (ways_on on ws) key) (way_row on log (way_of on w) key)
rows-append on log ws w key =
    ap (λ (l : List ℕ). all_rows on log l key) (ways-append on ws w) ∙ all_rows-append on log (ways_on on ws) (way_of on w) key

counts-append : (on : Bool) (log : List LogRow) (ws : List BothWays) (w : BothWays)
    → all_count on log (ways_on on (ws ++ (w ∷ []))) ≡ all_count on log (ways_on on ws) + way_count on log (way_of on w)
counts-append on log ws w = ap (all_count on log) (ways-append on ws w) ∙ count-append on log (ways_on on ws) (way_of on w)

count_none : (on : Bool) (log : List LogRow) → way_count on log 0 ≡ 0
count_none on [] = refl
count_none on (r ∷ rs) = count_older on r rs 0 (omega arith) ∙ count_none on rs

-- ---- a pair is put there

-- where neither enters a row, both ways are 0
pub none_on : (w : BothWays) → last_of w ≡ 0 → (on : Bool) → way_of on w ≡ 0
none_on w h false = omega (arith, h)
none_on w h true = omega (arith, h)

in_put : (n : ℕ) (on : Bool) (ws : List BothWays) (w : BothWays) → AllIn n (ways_on on ws) → way_of on w ≤ n → AllIn n (ways_on on (put_ways ws w))
in_put n on ws w h l = by (nat_eq (last_of w) 0)
  where
    by : (b : Bool) → AllIn n (ways_on on (cond b ws (ws ++ (w ∷ []))))
    by true = h
    by false = subst (AllIn n) (sym (ways-append on ws w)) (in-put n (ways_on on ws) (way_of on w) h l)

some-put : (ws : List BothWays) (w : BothWays) → AllSome ws → 0 < last_of w → AllSome (ws ++ (w ∷ []))
some-put [] w h l = (l, tt)
some-put (v ∷ ws) w h l = (h.0, some-put ws w h.1 l)

some_put : (ws : List BothWays) (w : BothWays) → AllSome ws → AllSome (put_ways ws w)
some_put ws w h = elim (eqb_tells (last_of w) 0) [
  | inl is ↦ subst (λ (b : Bool). AllSome (cond b ws (ws ++ (w ∷ [])))) (sym is.0) h
  | inr not ↦ subst (λ (b : Bool). AllSome (cond b ws (ws ++ (w ∷ [])))) (sym not.0) (some-put ws w h (let z = not.1 in omega arith))
]

rows_put : (on : Bool) (log : List LogRow) (ws : List BothWays) (w : BothWays) (key : Option ℕ)
    → all_rows on log (ways_on on (put_ways ws w)) key ≡ plus (all_rows on log (ways_on on ws) key) (way_row on log (way_of on w) key)
rows_put on log ws w key = by (nat_eq (last_of w) 0) (eqb-true (last_of w) 0)
  where
    by : (b : Bool) → (b ≡ true → last_of w ≡ 0)
        → all_rows on log (ways_on on (cond b ws (ws ++ (w ∷ [])))) key ≡ plus (all_rows on log (ways_on on ws) key) (way_row on log (way_of on w) key)
    by true h =
        sym (ap (plus (all_rows on log (ways_on on ws) key)) (ap (λ (n : ℕ). way_row on log n key) (none_on w (h refl) on) ∙ rows_none on log key)
        ∙ plus-zero (all_rows on log (ways_on on ws) key))
    by false h = rows-append on log ws w key

counts_put : (on : Bool) (log : List LogRow) (ws : List BothWays) (w : BothWays)
    → all_count on log (ways_on on (put_ways ws w)) ≡ all_count on log (ways_on on ws) + way_count on log (way_of on w)
counts_put on log ws w = by (nat_eq (last_of w) 0) (eqb-true (last_of w) 0)
  where
    by : (b : Bool) → (b ≡ true → last_of w ≡ 0)
        → all_count on log (ways_on on (cond b ws (ws ++ (w ∷ [])))) ≡ all_count on log (ways_on on ws) + way_count on log (way_of on w)
    by true h = let z : way_count on log (way_of on w) ≡ 0 = ap (way_count on log) (none_on w (h refl) on) ∙ count_none on log in omega arith
    by false h = counts-append on log ws w

-- the pair with which the walk begins
pub first_in : (n : ℕ) (on : Bool) (w : BothWays) → way_of on w ≤ n → AllIn n (ways_on on (put_ways [] w))
first_in n on w l = in_put n on [] w tt l

pub first_some : (w : BothWays) → AllSome (put_ways [] w)
first_some w = some_put [] w tt

pub first_rows : (on : Bool) (log : List LogRow) (w : BothWays) (key : Option ℕ) → all_rows on log (ways_on on (put_ways [] w)) key ≡ way_row on log (way_of on w) key
first_rows on log w key = rows_put on log [] w key ∙ zero-plus (way_row on log (way_of on w) key)

-- ---- a pair is taken: the row with which its longer way ends is that behind the first j, and two pairs are put there

-- one path ends with it at least
pub ended : (w : BothWays) → 1 ≤ cond (ends false w) 1 0 + cond (ends true w) 1 0
ended w = grind (arith, nat_tests)

module _ (items : List LogRow) (linked : AreLinked (reverse items)) (ws : List BothWays) (d : LogRow) (w : BothWays) (j : ℕ) (last : last_of w ≡ suc j) (lt : j < length items) where
  abbrev log : List LogRow
  log = reverse items

  abbrev pub row : LogRow
  row = get_or items j d

  abbrev pub next : List BothWays
  next = put_ways (put_ways ws (left_before row w)) (left_within row w)

  before_is : (on : Bool) → way_of on (left_before row w) ≡ cond (ends on w) (before_on on row) (way_of on w)
  before_is false = refl
  before_is true = refl

  within_is : (on : Bool) → way_of on (left_within row w) ≡ cond (ends on w) (within_on on row) 0
  within_is false = refl
  within_is true = refl

  at : (on : Bool) → ends on w ≡ true → way_of on w ≡ suc j
  at on e = eqb-true _ _ e ∙ last

  rows_by : (on t : Bool) (k : ℕ) → (t ≡ true → k ≡ suc j) → (key : Option ℕ)
      → way_row on log k key ≡ plus (way_row on log (cond t (before_on on row) k) key) (plus (way_row on log (cond t (within_on on row) 0) key) (cond t (row_on on row key) zero_row))
  rows_by on true k e key =
      ap (λ (n : ℕ). way_row on log n key) (e refl) ∙ split items linked d j lt on (before_in items linked d j lt on) (within_in items linked d j lt on) key
  rows_by on false k e key =
      sym (ap (plus (way_row on log k key)) (plus-zero (way_row on log 0 key) ∙ rows_none on log key) ∙ plus-zero (way_row on log k key))

  counts_by : (on t : Bool) (k : ℕ) → (t ≡ true → k ≡ suc j)
      → way_count on log k ≡ cond t 1 0 + (way_count on log (cond t (before_on on row) k) + way_count on log (cond t (within_on on row) 0))
  counts_by on true k e =
      let s = split_count items linked d j lt on (before_in items linked d j lt on) (within_in items linked d j lt on) in
      ap (way_count on log) (e refl) ∙ omega arith
  counts_by on false k e =
      let z = count_none on log in
      omega arith

  in_by : (on t : Bool) (k : ℕ) → k ≤ length items → (cond t (before_on on row) k ≤ length items) × (cond t (within_on on row) 0 ≤ length items)
  in_by on true k l =
      let b = before_in items linked d j lt on in
      let v = within_in items linked d j lt on in
      (omega arith, omega arith)
  in_by on false k l = (l, omega arith)

  pub next_in : (on : Bool) → way_of on w ≤ length items → AllIn (length items) (ways_on on ws) → AllIn (length items) (ways_on on next)
  next_in on l h =
      let i = in_by on (ends on w) (way_of on w) l in
      in_put (length items) on (put_ways ws (left_before row w)) (left_within row w)
      (in_put (length items) on ws (left_before row w) h (subst (λ (n : ℕ). n ≤ length items) (sym (before_is on)) i.0))
      (subst (λ (n : ℕ). n ≤ length items) (sym (within_is on)) i.1)

  pub next_some : AllSome ws → AllSome next
  next_some h = some_put (put_ways ws (left_before row w)) (left_within row w) (some_put ws (left_before row w) h)

  counts : (on : Bool) → all_count on log (ways_on on (ws ++ (w ∷ []))) ≡ cond (ends on w) 1 0 + all_count on log (ways_on on next)
  counts on =
      let a = counts-append on log ws w in
      let b = counts_put on log ws (left_before row w) in
      let c = counts_put on log (put_ways ws (left_before row w)) (left_within row w) in
      let e : way_count on log (way_of on (left_before row w)) ≡ way_count on log (cond (ends on w) (before_on on row) (way_of on w)) = ap (way_count on log) (before_is on) in
      let f : way_count on log (way_of on (left_within row w)) ≡ way_count on log (cond (ends on w) (within_on on row) 0) = ap (way_count on log) (within_is on) in
      let s = counts_by on (ends on w) (way_of on w) (at on) in
      omega arith

  pub next_fewer : turns log next < turns log (ws ++ (w ∷ []))
  next_fewer =
      let a = counts false in
      let b = counts true in
      let e = ended w in
      omega arith

  pub next_sums : (on : Bool) (key : Option ℕ) → all_rows on log (ways_on on (ws ++ (w ∷ []))) key ≡ plus (ended_row on row w key) (all_rows on log (ways_on on next) key)
  next_sums on key =
      let r : Row = all_rows on log (ways_on on ws) key in
      let b : Row = way_row on log (way_of on (left_before row w)) key in
      let v : Row = way_row on log (way_of on (left_within row w)) key in
      let l : Row = ended_row on row w key in
      let e : way_row on log (cond (ends on w) (before_on on row) (way_of on w)) key ≡ b = ap (λ (n : ℕ). way_row on log n key) (sym (before_is on)) in
      let f : way_row on log (cond (ends on w) (within_on on row) 0) key ≡ v = ap (λ (n : ℕ). way_row on log n key) (sym (within_is on)) in
      let left : all_rows on log (ways_on on (ws ++ (w ∷ []))) key ≡ plus r (plus b (plus v l)) =
      rows-append on log ws w key ∙ ap (plus r) (rows_by on (ends on w) (way_of on w) (at on) key ∙ ap₂ (λ (x y : Row). plus x (plus y l)) e f) in
      let right : all_rows on log (ways_on on next) key ≡ plus (plus r b) v =
      rows_put on log (put_ways ws (left_before row w)) (left_within row w) key ∙ ap (λ x. plus x v) (rows_put on log ws (left_before row w) key) in
      left ∙ sym (plus-assoc r b (plus v l)) ∙ sym (plus-assoc (plus r b) v l) ∙ plus-comm (plus (plus r b) v) l ∙ ap (plus l) (sym right)
    where
      plus-comm : (a b : Row) → plus a b ≡ plus b a
      plus-comm a b = ap (plus a) (sym (plus-zero b)) ∙ plus-over a b zero_row ∙ ap (plus b) (plus-zero a)
