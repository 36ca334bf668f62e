-- A way that leads to another, and what it has besides.
use Rattle.std.proofs.Common.{◌≡◌, ℕ, zero, suc, ◌+◌, ◌≤◌, ◌<◌, Bool, true, false, cond, nat_eq, List, [], ◌∷◌, ◌++◌, length, reverse, take, get_or, Option, refl, sym, ap, ap₂, subst, inl, inr, ◌∙◌, arith}
use Rattle.std.proofs.lemmas.Bool.{ne_eqb, eq-eqb, eqb-true}
use Rattle.std.proofs.lemmas.Bool.Decides.{eqb_tells}
use Rattle.std.proofs.lemmas.List.{length-append}
use Rattle.spp_dag.specs.declared.row.Row.{Row}
use Rattle.spp_dag.specs.Shares.{plus, zero_row}
use Rattle.spp_dag.proofs.Shares.{same_rows}
use Rattle.spp_site.proofs.Rows.{plus-zero, zero-plus, plus-assoc}
use Rattle.spp_ways.specs.declared.log.LogRow.{LogRow}
use Rattle.spp_ways.specs.declared.both_ways.BothWays.{BothWays}
use Rattle.spp_ways.specs.Logs.{way_row, row_on, before_on, within_on, AreLinked, before_at, led, HasPrefix, rest_row}
use Rattle.spp_ways.specs.Stretches.{outer_row}
use Rattle.spp_ways.specs.PathSums.{way_of, last_of, ends, ended_row, left_before, left_within, unless_at}
use Rattle.spp_ways.proofs.Staying.{rows_older, rows_none, cut}
use Rattle.spp_ways.proofs.Summing.{below, last, split, before_in, within_in}
use Rattle.spp_ways.proofs.Pairs.{ended}

-- ---- what a log tells of a way by the rows up to its last one alone

module _ {X : Type 0} (f : List LogRow → ℕ → X) (older : (r : LogRow) (rs : List LogRow) (k : ℕ) → k ≤ length rs → f (r ∷ rs) k ≡ f rs k) where
  stay : (xs rs : List LogRow) (k : ℕ) → k ≤ length rs → f (xs ++ rs) k ≡ f rs k
  stay [] rs k l = refl
  stay (x ∷ xs) rs k l = older x (xs ++ rs) k (let n = length-append xs rs in omega arith) ∙ stay xs rs k l

  told_below : (items : List LogRow) (j k : ℕ) → j ≤ length items → k ≤ j → f (reverse (take j items)) k ≡ f (reverse items) k
  told_below items j k l m =
      let c = cut items j l in
      sym (ap (λ (x : List LogRow). f x k) c.is ∙ stay c.off (reverse (take j items)) k (let z = c.count in omega arith))

  told_last : (items : List LogRow) (linked : AreLinked (reverse items)) (d : LogRow) (j : ℕ) (lt : j < length items)
      → f (reverse items) (suc j) ≡ f (get_or items j d ∷ reverse (take j items)) (suc (length (reverse (take j items))))
  told_last items linked d j lt =
      sym (told_below items (suc j) (suc j) lt (omega arith))
      ∙ ap₂ (λ (x : List LogRow) (k : ℕ). f x k) (last items linked d j lt) (let z = below items linked d j lt in let y : suc j ≡ suc (length (reverse (take j items))) = omega arith in y)

-- ---- the way before the last row of one

before_older : (on : Bool) (r : LogRow) (rs : List LogRow) (k : ℕ) → k ≤ length rs → before_at on (r ∷ rs) k ≡ before_at on rs k
before_older on r rs k l =
    let e : nat_eq k (suc (length rs)) ≡ false = ne_eqb _ _ (λ q. omega arith) in
    rw (e, before_at)

before_last : (on : Bool) (r : LogRow) (rs : List LogRow) → before_at on (r ∷ rs) (suc (length rs)) ≡ before_on on r
before_last on r rs =
    let e : nat_eq (suc (length rs)) (suc (length rs)) ≡ true = eq-eqb _ _ refl in
    rw (e, before_at)

before_none : (on : Bool) (rs : List LogRow) → before_at on rs 0 ≡ 0
before_none on [] = refl
before_none on (r ∷ rs) = before_older on r rs 0 (omega arith) ∙ before_none on rs

pub before_is : (on : Bool) (items : List LogRow) (linked : AreLinked (reverse items)) (d : LogRow) (j : ℕ) → j < length items → before_at on (reverse items) (suc j) ≡ before_on on (get_or items j d)
before_is on items linked d j lt =
    told_last (before_at on) (before_older on) items linked d j lt ∙ before_last on (get_or items j d) (reverse (take j items))

led_none : (on : Bool) (log : List LogRow) (n : ℕ) → led on log n 0 ≡ 0
led_none on log zero = refl
led_none on log (suc n) = ap (before_at on log) (led_none on log n) ∙ before_none on log

led_more : (on : Bool) (log : List LogRow) (n m k : ℕ) → led on log m (led on log n k) ≡ led on log (m + n) k
led_more on log n zero k = let e : n ≡ 0 + n = omega arith in ap (λ (x : ℕ). led on log x k) e
led_more on log n (suc m) k =
    let e : suc (m + n) ≡ suc m + n = omega arith in
    ap (before_at on log) (led_more on log n m k) ∙ ap (λ (x : ℕ). led on log x k) e

led_first : (on : Bool) (log : List LogRow) (n k : ℕ) → led on log (suc n) k ≡ led on log n (before_at on log k)
led_first on log zero k = refl
led_first on log (suc n) k = ap (before_at on log) (led_first on log n k)

pub leads_same : (on : Bool) (log : List LogRow) (k p : ℕ) → k ≡ p → HasPrefix on log k p
leads_same on log k p e = (0, e)

pub leads_before : (on : Bool) (log : List LogRow) (k p : ℕ) → before_at on log k ≡ p → HasPrefix on log k p
leads_before on log k p e = (1, e)

pub leads_on : (on : Bool) (log : List LogRow) (k p q : ℕ) → HasPrefix on log k p → HasPrefix on log p q → HasPrefix on log k q
leads_on on log k p q a b = (b.0 + a.0, sym (led_more on log a.0 b.0 k) ∙ ap (led on log b.0) a.1 ∙ b.1)

-- ---- what a way has besides another

rest_older : (on : Bool) (p : ℕ) (key : Option ℕ) (r : LogRow) (rs : List LogRow) (k : ℕ) → k ≤ length rs → rest_row on (r ∷ rs) k p key ≡ rest_row on rs k p key
rest_older on p key r rs k l =
    let e : nat_eq k (suc (length rs)) ≡ false = ne_eqb _ _ (λ q. omega arith) in
    rw (e, rest_row)

rest_last : (on : Bool) (p : ℕ) (key : Option ℕ) (r : LogRow) (rs : List LogRow) → nat_eq (suc (length rs)) p ≡ false
    → rest_row on (r ∷ rs) (suc (length rs)) p key ≡ plus (rest_row on rs (before_on on r) p key) (plus (way_row on rs (within_on on r) key) (row_on on r key))
rest_last on p key r rs n =
    let e : nat_eq (suc (length rs)) (suc (length rs)) ≡ true = eq-eqb _ _ refl in
    rw (e, n, rest_row)

pub rest_none : (on : Bool) (rs : List LogRow) (p : ℕ) (key : Option ℕ) → rest_row on rs 0 p key ≡ zero_row
rest_none on [] p key = refl
rest_none on (r ∷ rs) p key = rest_older on p key r rs 0 (omega arith) ∙ rest_none on rs p key

pub rest_same : (on : Bool) (rs : List LogRow) (p : ℕ) (key : Option ℕ) → rest_row on rs p p key ≡ zero_row
rest_same on [] p key = refl
rest_same on (r ∷ rs) p key =
    let e : nat_eq p p ≡ true = eq-eqb _ _ refl in
    by (nat_eq p p) e (nat_eq p (suc (length rs))) (rest_same on rs p key)
  where
    by : (a : Bool) → a ≡ true → (b : Bool) → rest_row on rs p p key ≡ zero_row
        → cond b (cond a zero_row (plus (rest_row on rs (before_on on r) p key) (plus (way_row on rs (within_on on r) key) (row_on on r key)))) (rest_row on rs p p key) ≡ zero_row
    by true e true h = refl
    by true e false h = h
    by false e b h = absurd (let z : false ≡ true = e in cc)

-- besides the way that enters nothing it has all
pub rest_whole : (on : Bool) (rs : List LogRow) (k : ℕ) (key : Option ℕ) → rest_row on rs k 0 key ≡ way_row on rs k key
rest_whole on [] k key = refl
rest_whole on (r ∷ rs) k key = elim (eqb_tells k (suc (length rs))) [
  | inl is ↦
      let n : nat_eq (suc (length rs)) 0 ≡ false = ne_eqb _ _ (λ q. omega arith) in
      let e : k ≡ suc (length rs) = is.1 in
      let same : nat_eq (suc (length rs)) (suc (length rs)) ≡ true = eq-eqb _ _ refl in
      let x : Row = plus (way_row on rs (within_on on r) key) (row_on on r key) in
      let w : way_row on (r ∷ rs) (suc (length rs)) key ≡ plus (way_row on rs (before_on on r) key) x = rw (same, way_row) in
      ap (λ (m : ℕ). rest_row on (r ∷ rs) m 0 key) e ∙ rest_last on 0 key r rs n
      ∙ ap (λ (b : Row). plus b x) (rest_whole on rs (before_on on r) key) ∙ sym w ∙ ap (λ (m : ℕ). way_row on (r ∷ rs) m key) (sym e)
  | inr not ↦
      let e : nat_eq k (suc (length rs)) ≡ false = not.0 in
      let a : rest_row on (r ∷ rs) k 0 key ≡ rest_row on rs k 0 key = rw (e, rest_row) in
      let b : way_row on (r ∷ rs) k key ≡ way_row on rs k key = rw (e, way_row) in
      a ∙ rest_whole on rs k key ∙ sym b
]

split_rest : (on : Bool) (items : List LogRow) (linked : AreLinked (reverse items)) (d : LogRow) (j : ℕ) (lt : j < length items) (p : ℕ) (key : Option ℕ) → nat_eq (suc j) p ≡ false
    → rest_row on (reverse items) (suc j) p key
    ≡ plus (rest_row on (reverse items) (before_on on (get_or items j d)) p key) (plus (way_row on (reverse items) (within_on on (get_or items j d)) key) (row_on on (get_or items j d) key))
split_rest on items linked d j lt p key n =
    let row : LogRow = get_or items j d in
    let low : List LogRow = reverse (take j items) in
    let count : suc j ≡ suc (length low) = (let z = below items linked d j lt in omega arith) in
    let b : before_on on row ≤ j = before_in items linked d j lt on in
    let w : within_on on row ≤ j = within_in items linked d j lt on in
    let le : j ≤ length items = omega arith in
    told_last (λ (l : List LogRow) (k : ℕ). rest_row on l k p key) (λ r rs k l. rest_older on p key r rs k l) items linked d j lt
    ∙ rest_last on p key row low (subst (λ (k : ℕ). nat_eq k p ≡ false) count n)
    ∙ ap₂ (λ (x y : Row). plus x (plus y (row_on on row key)))
    (told_below (λ (l : List LogRow) (k : ℕ). rest_row on l k p key) (λ r rs k l. rest_older on p key r rs k l) items j (before_on on row) le b)
    (told_below (λ (l : List LogRow) (k : ℕ). way_row on l k key) (λ r rs k l. rows_older on r rs k l key) items j (within_on on row) le w)

-- a way is that to which it leads, and what it has besides
there : (on : Bool) (log : List LogRow) (p : ℕ) (key : Option ℕ) (k : ℕ) → k ≡ p → way_row on log k key ≡ plus (way_row on log p key) (rest_row on log k p key)
there on log p key k e =
    ap (λ (m : ℕ). way_row on log m key) e ∙ sym (plus-zero (way_row on log p key))
    ∙ ap (plus (way_row on log p key)) (sym (rest_same on log p key) ∙ ap (λ (m : ℕ). rest_row on log m p key) (sym e))

leads_by : (on : Bool) (items : List LogRow) (linked : AreLinked (reverse items)) (p : ℕ) (key : Option ℕ) (n k : ℕ) → k ≤ length items → led on (reverse items) n k ≡ p
    → way_row on (reverse items) k key ≡ plus (way_row on (reverse items) p key) (rest_row on (reverse items) k p key)
leads_by on items linked p key zero k l e = there on (reverse items) p key k e
leads_by on items linked p key (suc n) zero l e = there on (reverse items) p key 0 (sym (led_none on (reverse items) (suc n)) ∙ e)
leads_by on items linked p key (suc n) (suc j) l e = elim (eqb_tells (suc j) p) [
  | inl is ↦ there on (reverse items) p key (suc j) is.1
  | inr not ↦
      let log : List LogRow = reverse items in
      let lt : j < length items = omega (arith, l) in
      let row : LogRow = get_or items j outer_row in
      let b : before_on on row ≤ j = before_in items linked outer_row j lt on in
      let w : within_on on row ≤ j = within_in items linked outer_row j lt on in
      let x : Row = plus (way_row on log (within_on on row) key) (row_on on row key) in
      let next : led on log n (before_on on row) ≡ p = ap (led on log n) (sym (before_is on items linked outer_row j lt)) ∙ sym (led_first on log n (suc j)) ∙ e in
      let is : way_row on log (before_on on row) key ≡ plus (way_row on log p key) (rest_row on log (before_on on row) p key) =
      leads_by on items linked p key n (before_on on row) (omega arith) next in
      split items linked outer_row j lt on b w key ∙ ap (λ (y : Row). plus y x) is
      ∙ plus-assoc (way_row on log p key) (rest_row on log (before_on on row) p key) x
      ∙ ap (plus (way_row on log p key)) (sym (split_rest on items linked outer_row j lt p key not.0))
]

pub leads_rest : (on : Bool) (items : List LogRow) (linked : AreLinked (reverse items)) (k p : ℕ) → k ≤ length items → HasPrefix on (reverse items) k p → (key : Option ℕ)
    → way_row on (reverse items) k key ≡ plus (way_row on (reverse items) p key) (rest_row on (reverse items) k p key)
leads_rest on items linked k p l h key = leads_by on items linked p key h.0 k l h.1

-- ---- one turn: the row with which the longer of two ways ends is that behind the first j, and neither is at its stop

unless_at_is : (on : Bool) (stops w : BothWays) → way_of on (unless_at stops w) ≡ cond (nat_eq (way_of on w) (way_of on stops)) 0 (way_of on w)
unless_at_is false stops w = refl
unless_at_is true stops w = refl

pub unless_at_rest : (on : Bool) (log : List LogRow) (stops w : BothWays) (key : Option ℕ) → rest_row on log (way_of on (unless_at stops w)) (way_of on stops) key ≡ rest_row on log (way_of on w) (way_of on stops) key
unless_at_rest on log stops w key =
    ap (λ (k : ℕ). rest_row on log k (way_of on stops) key) (unless_at_is on stops w) ∙ by (way_of on w) (way_of on stops) (nat_eq (way_of on w) (way_of on stops)) (eqb-true (way_of on w) (way_of on stops))
  where
    by : (k p : ℕ) (b : Bool) → (b ≡ true → k ≡ p) → rest_row on log (cond b 0 k) p key ≡ rest_row on log k p key
    by k p true e = rest_none on log p key ∙ sym (rest_same on log p key) ∙ ap (λ (m : ℕ). rest_row on log m p key) (sym (e refl))
    by k p false e = refl

pub unless_at_apart : (on : Bool) (stops w : BothWays) → way_of on (unless_at stops w) ≡ way_of on stops → way_of on (unless_at stops w) ≡ 0
unless_at_apart on stops w h = elim (eqb_tells (way_of on w) (way_of on stops)) [
  | inl is ↦ unless_at_is on stops w ∙ ap (λ (b : Bool). cond b 0 (way_of on w)) is.0
  | inr not ↦ absurd (not.1 (sym (unless_at_is on stops w ∙ ap (λ (b : Bool). cond b 0 (way_of on w)) not.0) ∙ h))
]

pub unless_at_less : (on : Bool) (stops w : BothWays) → way_of on (unless_at stops w) ≤ way_of on w
unless_at_less on stops w = subst (λ (k : ℕ). k ≤ way_of on w) (sym (unless_at_is on stops w)) (by (nat_eq (way_of on w) (way_of on stops)))
  where
    by : (b : Bool) → cond b 0 (way_of on w) ≤ way_of on w
    by true = omega arith
    by false = omega arith

module _ (items : List LogRow) (linked : AreLinked (reverse items)) (d : LogRow) (w stops : BothWays) (j : ℕ) (last : last_of w ≡ suc j) (lt : j < length items) where
  abbrev log : List LogRow
  log = reverse items

  abbrev row : LogRow
  row = get_or items j d

  abbrev pub turned : BothWays
  turned = unless_at stops (left_before row w)

  left_is : (on : Bool) → way_of on (left_before row w) ≡ cond (ends on w) (before_on on row) (way_of on w)
  left_is false = refl
  left_is true = refl

  within_is : (on : Bool) → way_of on (left_within row w) ≡ cond (ends on w) (within_on on row) 0
  within_is false = refl
  within_is true = refl

  at_last : (on : Bool) → ends on w ≡ true → way_of on w ≡ suc j
  at_last on e = eqb-true _ _ e ∙ last

  pub within_less : (on : Bool) → way_of on (left_within row w) ≤ length items
  within_less on = subst (λ (k : ℕ). k ≤ length items) (sym (within_is on)) (by (ends on w))
    where
      by : (b : Bool) → cond b (within_on on row) 0 ≤ length items
      by true = let z : within_on on row ≤ j = within_in items linked d j lt on in omega arith
      by false = omega arith

  left_less : (on : Bool) → way_of on (left_before row w) + cond (ends on w) 1 0 ≤ way_of on w
  left_less on = subst (λ (k : ℕ). k + cond (ends on w) 1 0 ≤ way_of on w) (sym (left_is on)) (by (ends on w) (way_of on w) (at_last on))
    where
      by : (b : Bool) (k : ℕ) → (b ≡ true → k ≡ suc j) → cond b (before_on on row) k + cond b 1 0 ≤ k
      by true k e = let z : before_on on row ≤ j = before_in items linked d j lt on in let y : k ≡ suc j = e refl in omega arith
      by false k e = omega arith

  pub turned_less : turned.plain + turned.burdened < w.plain + w.burdened
  turned_less =
      let a : turned.plain ≤ (left_before row w).plain = unless_at_less false stops (left_before row w) in
      let b : turned.burdened ≤ (left_before row w).burdened = unless_at_less true stops (left_before row w) in
      let x : (left_before row w).plain + cond (ends false w) 1 0 ≤ w.plain = left_less false in
      let y : (left_before row w).burdened + cond (ends true w) 1 0 ≤ w.burdened = left_less true in
      let e = ended w in
      omega arith

  pub turned_in : (on : Bool) → way_of on w ≤ length items → way_of on turned ≤ length items
  turned_in on h = let a = unless_at_less on stops (left_before row w) in let x = left_less on in omega arith

  pub turned_sums : (on : Bool) → (way_of on w ≡ way_of on stops → way_of on w ≡ 0) → (key : Option ℕ)
      → rest_row on log (way_of on w) (way_of on stops) key
      ≡ plus (ended_row on row w key) (plus (way_row on log (way_of on (left_within row w)) key) (rest_row on log (way_of on turned) (way_of on stops) key))
  turned_sums on apart key =
      by (ends on w) (way_of on w) (at_last on) apart
      ∙ ap₂ (λ (x y : Row). plus (ended_row on row w key) (plus x y))
      (ap (λ (k : ℕ). way_row on log k key) (sym (within_is on)))
      (ap (λ (k : ℕ). rest_row on log k (way_of on stops) key) (sym (left_is on)) ∙ sym (unless_at_rest on log stops (left_before row w) key))
    where
      turn : (b v l : Row) → plus b (plus v l) ≡ plus l (plus v b)
      turn b v l =
          same_rows (plus b (plus v l)) (plus l (plus v b)) (omega arith) (omega arith) (omega arith) (omega arith) (omega arith) (omega arith) (omega arith) (omega arith)

      by : (t : Bool) (k : ℕ) → (t ≡ true → k ≡ suc j) → (k ≡ way_of on stops → k ≡ 0)
          → rest_row on log k (way_of on stops) key
          ≡ plus (cond t (row_on on row key) zero_row) (plus (way_row on log (cond t (within_on on row) 0) key) (rest_row on log (cond t (before_on on row) k) (way_of on stops) key))
      by true k e apart =
          let is : k ≡ suc j = e refl in
          let n : nat_eq (suc j) (way_of on stops) ≡ false = ne_eqb _ _ (λ q. let z : k ≡ 0 = apart (is ∙ q) in omega arith) in
          ap (λ (m : ℕ). rest_row on log m (way_of on stops) key) is ∙ split_rest on items linked d j lt (way_of on stops) key n
          ∙ turn (rest_row on log (before_on on row) (way_of on stops) key) (way_row on log (within_on on row) key) (row_on on row key)
      by false k e apart =
          sym (zero-plus (plus (way_row on log 0 key) (rest_row on log k (way_of on stops) key))
          ∙ ap (λ (x : Row). plus x (rest_row on log k (way_of on stops) key)) (rows_none on log key) ∙ zero-plus (rest_row on log k (way_of on stops) key))
