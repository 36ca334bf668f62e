-- The rows of a way, as they are added up.
use Rattle.std.proofs.Common.{◌≡◌, ℕ, suc, ◌+◌, ◌*◌, ◌≤◌, ◌<◌, Bool, true, false, cond, nat_eq, List, [], ◌∷◌, ◌++◌, length, reverse, take, get_or, Option, Result, Ok, Err, IfOk, refl, sym, ap, ap₂, subst, ◌∙◌, arith}
use Rattle.std.proofs.lemmas.Bool.{ne_eqb, eq-eqb}
use Rattle.std.proofs.lemmas.List.{length-append, reverse-append}
use Rattle.std.proofs.Math.Seq.{take-suc}
use Rattle.spp_dag.specs.declared.row.Row.{Row}
use Rattle.spp_dag.specs.Shares.{plus, zero_row}
use Rattle.spp_site.proofs.Rows.{plus-zero, zero-plus, plus-assoc, plus-over}
use Rattle.spp_ways.specs.declared.log.LogRow.{LogRow}
use Rattle.spp_ways.specs.Logs.{way_row, row_on, before_on, within_on, IsLinked, AreLinked}
use Rattle.spp_ways.proofs.Staying.{rows_stay, rows_last, Cut, cut, linked_less}

-- what holds of a value that was made
pub if_made : {X E : Type 0} (P Q : X → Type 0) → ((x : X) → P x → Q x) → (r : Result X E) → IfOk r P → IfOk r Q
if_made P Q f (Ok x) h = f x h
if_made P Q f (Err e) h = h

-- ---- the ways that are left

-- what all these ways add to the row of a key
abbrev pub all_rows : Bool → List LogRow → List ℕ → Option ℕ → Row
all_rows on log [] key = zero_row
all_rows on log (k ∷ ks) key = plus (way_row on log k key) (all_rows on log ks key)

-- how many rows a way has, and all these have
abbrev pub way_count : Bool → List LogRow → ℕ → ℕ
way_count on [] k = 0
way_count on (r ∷ rs) k = cond (nat_eq k (suc (length rs))) (suc (way_count on rs (before_on on r) + way_count on rs (within_on on r))) (way_count on rs k)

abbrev pub all_count : Bool → List LogRow → List ℕ → ℕ
all_count on log [] = 0
all_count on log (k ∷ ks) = way_count on log k + all_count on log ks

-- each ends within the first n rows
abbrev pub AllIn : ℕ → List ℕ → Type 0
AllIn n [] = Unit {0}
AllIn n (k ∷ ks) = (k ≤ n) × AllIn n ks

pub all_rows-append : (on : Bool) (log : List LogRow) (ks : List ℕ) (k : ℕ) (key : Option ℕ)
    → all_rows on log (ks ++ (k ∷ [])) key ≡ plus (all_rows on log ks key) (way_row on log k key)
all_rows-append on log [] k key = plus-zero (way_row on log k key) ∙ sym (zero-plus (way_row on log k key))
all_rows-append on log (j ∷ ks) k key =
    ap (plus (way_row on log j key)) (all_rows-append on log ks k key) ∙ sym (plus-assoc (way_row on log j key) (all_rows on log ks key) (way_row on log k key))

pub count-append : (on : Bool) (log : List LogRow) (ks : List ℕ) (k : ℕ) → all_count on log (ks ++ (k ∷ [])) ≡ all_count on log ks + way_count on log k
count-append on log [] k = omega arith
count-append on log (j ∷ ks) k = let c = count-append on log ks k in omega arith

pub count_older : (on : Bool) (r : LogRow) (rs : List LogRow) (k : ℕ) → k ≤ length rs → way_count on (r ∷ rs) k ≡ way_count on rs k
count_older on r rs k l =
    let e : nat_eq k (suc (length rs)) ≡ false = ne_eqb _ _ (λ q. omega arith) in
    rw (e, way_count)

count_stays : (on : Bool) (xs rs : List LogRow) (k : ℕ) → k ≤ length rs → way_count on (xs ++ rs) k ≡ way_count on rs k
count_stays on [] rs k l = refl
count_stays on (x ∷ xs) rs k l = count_older on x (xs ++ rs) k (let n = length-append xs rs in omega arith) ∙ count_stays on xs rs k l

count_last : (on : Bool) (r : LogRow) (rs : List LogRow) → way_count on (r ∷ rs) (suc (length rs)) ≡ suc (way_count on rs (before_on on r) + way_count on rs (within_on on r))
count_last on r rs =
    let e : nat_eq (suc (length rs)) (suc (length rs)) ≡ true = eq-eqb _ _ refl in
    rw (e, way_count)

pub in-append : (n : ℕ) (ks : List ℕ) (k : ℕ) → AllIn n (ks ++ (k ∷ [])) → AllIn n ks × (k ≤ n)
in-append n [] k h = (tt, h.0)
in-append n (j ∷ ks) k h = let r = in-append n ks k h.1 in ((h.0, r.0), r.1)

pub in-put : (n : ℕ) (ks : List ℕ) (k : ℕ) → AllIn n ks → k ≤ n → AllIn n (ks ++ (k ∷ []))
in-put n [] k h l = (l, tt)
in-put n (j ∷ ks) k h l = (h.0, in-put n ks k h.1 l)

-- ---- the way that ends with a row

module _ (items : List LogRow) (linked : AreLinked (reverse items)) (d : LogRow) (j : ℕ) (lt : j < length items) where
  abbrev pub at : LogRow
  at = get_or items j d

  taken : take (suc j) items ≡ take j items ++ (at ∷ [])
  taken = take-suc items j d lt

  pub last : reverse (take (suc j) items) ≡ at ∷ reverse (take j items)
  last = ap reverse taken ∙ reverse-append (take j items) (at ∷ [])

  pub below : length (reverse (take j items)) ≡ j
  below = (cut items j (omega arith)).count

  whole : Cut items (suc j)
  whole = cut items (suc j) lt

  part : Cut items j
  part = cut items j (omega arith)

  pub link : IsLinked j at
  link =
      let l : AreLinked (at ∷ reverse (take j items)) = subst AreLinked last (linked_less whole.off (reverse (take (suc j) items)) (subst AreLinked whole.is linked)) in
      subst (λ n. IsLinked n at) below l.0

  stays : (on : Bool) (k : ℕ) → k ≤ j → (key : Option ℕ) → way_row on (reverse (take j items)) k key ≡ way_row on (reverse items) k key
  stays on k l key =
      sym (rows_stay on part.off (reverse (take j items)) k (let z : k ≤ length (reverse (take j items)) = omega (arith, below) in z) key) ∙ ap (λ (x : List LogRow). way_row on x k key) (sym part.is)

  counts : (on : Bool) (k : ℕ) → k ≤ j → way_count on (reverse (take j items)) k ≡ way_count on (reverse items) k
  counts on k l =
      sym (count_stays on part.off (reverse (take j items)) k (let z : k ≤ length (reverse (take j items)) = omega (arith, below) in z)) ∙ ap (λ (x : List LogRow). way_count on x k) (sym part.is)

  pub split : (on : Bool) → before_on on at ≤ j → within_on on at ≤ j → (key : Option ℕ)
      → way_row on (reverse items) (suc j) key ≡ plus (way_row on (reverse items) (before_on on at) key) (plus (way_row on (reverse items) (within_on on at) key) (row_on on at key))
  split on b w key =
      let up : way_row on (reverse items) (suc j) key ≡ way_row on (reverse (take (suc j) items)) (suc j) key =
      ap (λ (x : List LogRow). way_row on x (suc j) key) whole.is
      ∙ rows_stay on whole.off (reverse (take (suc j) items)) (suc j) (let z : suc j ≤ length (reverse (take (suc j) items)) = omega (arith, whole.count) in z) key in
      let top : way_row on (reverse (take (suc j) items)) (suc j) key ≡ way_row on (at ∷ reverse (take j items)) (suc (length (reverse (take j items)))) key =
      ap₂ (λ (x : List LogRow) (k : ℕ). way_row on x k key) last (let z : suc j ≡ suc (length (reverse (take j items))) = omega (arith, below) in z) in
      up ∙ top ∙ rows_last on at (reverse (take j items)) key
      ∙ ap₂ (λ (x y : Row). plus x (plus y (row_on on at key))) (stays on (before_on on at) b key) (stays on (within_on on at) w key)

  pub split_count : (on : Bool) → before_on on at ≤ j → within_on on at ≤ j
      → way_count on (reverse items) (suc j) ≡ suc (way_count on (reverse items) (before_on on at) + way_count on (reverse items) (within_on on at))
  split_count on b w =
      let up : way_count on (reverse items) (suc j) ≡ way_count on (reverse (take (suc j) items)) (suc j) =
      ap (λ (x : List LogRow). way_count on x (suc j)) whole.is
      ∙ count_stays on whole.off (reverse (take (suc j) items)) (suc j) (let z : suc j ≤ length (reverse (take (suc j) items)) = omega (arith, whole.count) in z) in
      let top : way_count on (reverse (take (suc j) items)) (suc j) ≡ way_count on (at ∷ reverse (take j items)) (suc (length (reverse (take j items)))) =
      ap₂ (λ (x : List LogRow) (k : ℕ). way_count on x k) last (let z : suc j ≡ suc (length (reverse (take j items))) = omega (arith, below) in z) in
      up ∙ top ∙ count_last on at (reverse (take j items))
      ∙ ap₂ (λ (x y : ℕ). suc (x + y)) (counts on (before_on on at) b) (counts on (within_on on at) w)

  pub before_in : (on : Bool) → before_on on at ≤ j
  before_in false = link.before
  before_in true = link.burdened_before

  pub within_in : (on : Bool) → within_on on at ≤ j
  within_in false = link.within
  within_in true = link.burdened_within

-- ---- one turn

-- a way is taken from the ways that are left, and the two ways that it leads on to are put there
module _ (on : Bool) (items : List LogRow) (linked : AreLinked (reverse items)) (ks : List ℕ) (d : LogRow) (j : ℕ) (lt : j < length items) where
  abbrev log : List LogRow
  log = reverse items

  abbrev pub row : LogRow
  row = get_or items j d

  abbrev pub next : List ℕ
  next = (ks ++ (before_on on row ∷ [])) ++ (within_on on row ∷ [])

  pub next_in : AllIn (length items) ks → AllIn (length items) next
  next_in h =
      let b = before_in items linked d j lt on in
      let w = within_in items linked d j lt on in
      in-put (length items) (ks ++ (before_on on row ∷ [])) (within_on on row) (in-put (length items) ks (before_on on row) h (omega arith)) (omega arith)

  pub next_fewer : 2 * all_count on log next + length next < 2 * all_count on log (ks ++ (suc j ∷ [])) + length (ks ++ (suc j ∷ []))
  next_fewer =
      let a = count-append on log (ks ++ (before_on on row ∷ [])) (within_on on row) in
      let b = count-append on log ks (before_on on row) in
      let c = count-append on log ks (suc j) in
      let e = split_count items linked d j lt on (before_in items linked d j lt on) (within_in items linked d j lt on) in
      let l1 = length-append (ks ++ (before_on on row ∷ [])) (within_on on row ∷ []) in
      let l2 = length-append ks (before_on on row ∷ []) in
      let l3 = length-append ks (suc j ∷ []) in
      omega arith

  pub next_sums : (key : Option ℕ) → all_rows on log (ks ++ (suc j ∷ [])) key ≡ plus (row_on on row key) (all_rows on log next key)
  next_sums key =
      let r : Row = all_rows on log ks key in
      let b : Row = way_row on log (before_on on row) key in
      let w : Row = way_row on log (within_on on row) key in
      let l : Row = row_on on row key in
      let left : all_rows on log (ks ++ (suc j ∷ [])) key ≡ plus r (plus b (plus w l)) =
      all_rows-append on log ks (suc j) key ∙ ap (plus r) (split items linked d j lt on (before_in items linked d j lt on) (within_in items linked d j lt on) key) in
      let right : all_rows on log next key ≡ plus (plus r b) w =
      all_rows-append on log (ks ++ (before_on on row ∷ [])) (within_on on row) key ∙ ap (λ x. plus x w) (all_rows-append on log ks (before_on on row) key) in
      left ∙ sym (plus-assoc r b (plus w l)) ∙ sym (plus-assoc (plus r b) w l) ∙ plus-comm (plus (plus r b) w) l ∙ ap (plus l) (sym right)
    where
      plus-comm : (a b : Row) → plus a b ≡ plus b a
      plus-comm a b = ap (plus a) (sym (plus-zero b)) ∙ plus-over a b zero_row ∙ ap (plus b) (plus-zero a)
