-- Where items begin and end.
use Rattle.std.proofs.Common.{◌≡◌, ℕ, zero, suc, ◌+◌, ◌-◌, ◌<◌, ◌≤◌, ◌⊎◌, Bool, true, false, nat_le, if◌then◌else◌, List, [], ◌∷◌, ◌++◌, length, take, drop, get_or, slice_get, Some, refl, sym, ap, subst, ◌∙◌, arith, inl, inr}
use Rattle.std.specs.List.{AllByRecursion}
use Rattle.std.proofs.lemmas.Bool.{cases_lt, le-leb, lt-leb}
use Rattle.std.proofs.lemmas.List.{get_or-drop, length-drop, take-append-drop, get_or_past}
use Rattle.std.proofs.Math.ListN.{drop_of_length-le}
use Rattle.spp_event.specs.Items.{in_front, items}
use Rattle.spp_event.specs.Places.{GoesOn, IsItemPlace, IsItemBetween}
use Rattle.spp_event.specs.Recordings.{item}
use Rattle.spp_event.proofs.ItemNumbers.{drop_more, take_more}

-- ---- one item in front of others

-- the items of bytes, of which there is one: the first begins with the first byte
pub record Starts (b : ℕ) (its : List (List ℕ)) : Type 0 where
  pub first : List ℕ
  pub others : List (List ℕ)
  pub are : its ≡ first ∷ others
  pub begins : get_or first 0 0 ≡ b

pub starts_by : (b : ℕ) (its : List (List ℕ)) → Starts b (in_front b its)
starts_by b [] = record { first = b ∷ []; others = []; are = refl; begins = refl }
starts_by b (x ∷ xs) = by (nat_le 128 (get_or x 0 0))
  where
    by : (t : Bool) → Starts b (if t then (b ∷ []) ∷ x ∷ xs else (b ∷ x) ∷ xs)
    by true = record { first = b ∷ []; others = x ∷ xs; are = refl; begins = refl }
    by false = record { first = b ∷ x; others = xs; are = refl; begins = refl }

abbrev AreLow : List ℕ → Type 0
AreLow bs = AllByRecursion (λ b. b < 128) bs

pub in_front_high : (b : ℕ) (x : List ℕ) (xs : List (List ℕ)) → 128 ≤ get_or x 0 0 → in_front b (x ∷ xs) ≡ (b ∷ []) ∷ x ∷ xs
in_front_high b x xs h = ap (λ (t : Bool). if t then (b ∷ []) ∷ x ∷ xs else (b ∷ x) ∷ xs) (le-leb 128 (get_or x 0 0) h)

pub in_front_low : (b : ℕ) (x : List ℕ) (xs : List (List ℕ)) → get_or x 0 0 < 128 → in_front b (x ∷ xs) ≡ (b ∷ x) ∷ xs
in_front_low b x xs h = ap (λ (t : Bool). if t then (b ∷ []) ∷ x ∷ xs else (b ∷ x) ∷ xs) (lt-leb 128 (get_or x 0 0) h)

pub one_item : (b : ℕ) (tail rest : List ℕ) → AllByRecursion (λ b. b < 128) tail → GoesOn rest → items (b ∷ (tail ++ rest)) ≡ (b ∷ tail) ∷ items rest
one_item b [] [] low on = refl
one_item b [] (c ∷ rest) low on =
    let s = starts_by c (items rest) in
    let high : 128 ≤ get_or s.first 0 0 = omega (arith, s.begins, on) in
    ap (in_front b) s.are ∙ in_front_high b s.first s.others high ∙ ap (λ (l : List (List ℕ)). (b ∷ []) ∷ l) (sym s.are)
one_item b (t ∷ tail) rest low on = ap (in_front b) (one_item t tail rest low.1 on) ∙ in_front_low b (t ∷ tail) (items rest) low.0

-- ---- an item in a body

pub low_more : (xs : List ℕ) (b : ℕ) → AllByRecursion (λ b. b < 128) xs → b < 128 → AllByRecursion (λ b. b < 128) (xs ++ b ∷ [])
low_more [] b h low = (low, tt)
low_more (x ∷ xs) b h low = (h.0, low_more xs b h.1 low)

-- the bytes behind a place up to another
abbrev pub behind : List ℕ → ℕ → ℕ → List ℕ
behind body place k = take (k - (place + 1)) (drop (place + 1) body)

pub behind_more : (body : List ℕ) (place k : ℕ) → place + 1 ≤ k → k < length body → behind body place (k + 1) ≡ behind body place k ++ get_or body k 0 ∷ []
behind_more body place k le h =
    let rest = drop (place + 1) body in
    let n = k - (place + 1) in
    let long = length-drop (place + 1) body in
    let is : get_or rest n 0 ≡ get_or body k 0 = get_or-drop (place + 1) body n 0 ∙ ap (λ (j : ℕ). get_or body j 0) (let s : place + 1 + n ≡ k = omega arith in s) in
    ap (λ (j : ℕ). take j rest) (let s : k + 1 - (place + 1) ≡ n + 1 = omega arith in s) ∙ take_more rest n (get_or body k 0) (omega arith) is

pub dropped : (n m k : ℕ) (xs : List ℕ) → k ≡ n + m → drop m (drop n xs) ≡ drop k xs
dropped zero m k xs e = ap (λ (j : ℕ). drop j xs) (let z : m ≡ k = omega arith in z)
dropped (suc n) m k [] e = drop_of_length-le [] (omega arith) ∙ sym (drop_of_length-le [] (omega arith))
dropped (suc n) m zero (x ∷ xs) e = absurd (omega arith)
dropped (suc n) m (suc k) (x ∷ xs) e = dropped n m k xs (omega arith)

-- the item that begins at a place, where the bytes behind it up to another are low, and then the bytes end or go on with an item
pub item_between : (body : List ℕ) (place k : ℕ) → place < k → k ≤ length body → AllByRecursion (λ b. b < 128) (behind body place k) → GoesOn (drop k body) → IsItemBetween body place k
item_between body place k more h low on =
    let b = get_or body place 0 in
    let rest = drop (place + 1) body in
    let n = k - (place + 1) in
    let at : drop place body ≡ b ∷ rest = drop_more body place b (omega arith) refl in
    let parted : rest ≡ behind body place k ++ drop k body = sym (take-append-drop n rest) ∙ ap (λ (l : List ℕ). take n rest ++ l) (dropped (place + 1) n k body (omega arith)) in
    let taken : take (k - place) (drop place body) ≡ b ∷ behind body place k = ap (λ (j : ℕ). take j (drop place body)) (let s : k - place ≡ suc n = omega arith in s) ∙ ap (take (suc n)) at in
    record {
      some = more;
      within = h;
      is = ap items (at ∙ ap (λ (l : List ℕ). b ∷ l) parted) ∙ one_item b (behind body place k) (drop k body) low on ∙ ap (λ (l : List ℕ). l ∷ items (drop k body)) (sym taken);
    }

pub on_high : (body : List ℕ) (k : ℕ) → k < length body → 128 ≤ get_or body k 0 → GoesOn (drop k body)
on_high body k h high = subst GoesOn (sym (drop_more body k (get_or body k 0) h refl)) high

pub on_end : (body : List ℕ) (k : ℕ) → length body ≤ k → GoesOn (drop k body)
on_end body k h = subst GoesOn (sym (drop_of_length-le body h)) tt

-- ---- places of items

drop_cell : (xs : List (List ℕ)) (i : ℕ) (y : List ℕ) (ys : List (List ℕ)) → drop i xs ≡ y ∷ ys → (drop (suc i) xs ≡ ys) × (get_or xs i [] ≡ y) × (i < length xs)
drop_cell [] zero y ys e = absurd cc
drop_cell [] (suc i) y ys e = absurd cc
drop_cell (x ∷ xs) zero y ys e = (cc, cc, omega arith)
drop_cell (x ∷ xs) (suc i) y ys e = let h = drop_cell xs i y ys e in (h.0, h.1, omega (arith, h.2))

drop_end : (xs : List (List ℕ)) (i : ℕ) → drop i xs ≡ [] → length xs ≤ i
drop_end [] i e = omega arith
drop_end (x ∷ xs) zero e = absurd cc
drop_end (x ∷ xs) (suc i) e = let h = drop_end xs i e in omega arith

pub first_place : (body : List ℕ) → IsItemPlace body 0 0
first_place body = record { within = omega arith; rest = refl }

pub next_place : (body : List ℕ) (i place next : ℕ) → IsItemPlace body i place → IsItemBetween body place next → IsItemPlace body (i + 1) next
next_place body i place next h b = record { within = b.within; rest = ap (λ (j : ℕ). drop j (items body)) (let s : i + 1 ≡ suc i = omega arith in s) ∙ (drop_cell (items body) i _ _ (h.rest ∙ b.is)).0 }

pub item_is : (body : List ℕ) (i place next : ℕ) → IsItemPlace body i place → IsItemBetween body place next → item body i ≡ take (next - place) (drop place body)
item_is body i place next h b = (drop_cell (items body) i _ _ (h.rest ∙ b.is)).1

-- an item stands at the place
pub is_item : (body : List ℕ) (i place next : ℕ) → IsItemPlace body i place → IsItemBetween body place next → i < length (items body)
is_item body i place next h b = (drop_cell (items body) i _ _ (h.rest ∙ b.is)).2

-- none does at the end
pub no_items : (body : List ℕ) (i place : ℕ) → IsItemPlace body i place → length body ≤ place → length (items body) ≤ i
no_items body i place h e = drop_end (items body) i (h.rest ∙ ap items (drop_of_length-le body e))

pub item_is_none : (body : List ℕ) (i place : ℕ) → IsItemPlace body i place → length body ≤ place → item body i ≡ []
item_is_none body i place h e = get_or_past (items body) i [] (no_items body i place h e)

pub end_place : (body : List ℕ) (i place : ℕ) → place ≡ length body → length (items body) ≤ i → IsItemPlace body i place
end_place body i place e h = record { within = omega arith; rest = drop_of_length-le (items body) h ∙ sym (ap items (drop_of_length-le body (let s : length body ≤ place = omega arith in s))) }

-- bytes stand at a place where an item does
pub more_items : (body : List ℕ) (i place : ℕ) → IsItemPlace body i place → place < length body → i < length (items body)
more_items body i place h l = elim (cases_lt i (length (items body))) [
  | inl is ↦ is
  | inr not ↦
      let s = starts_by (get_or body place 0) (items (drop (place + 1) body)) in
      let none : items (drop place body) ≡ [] = sym h.rest ∙ drop_of_length-le (items body) not in
      let some : items (drop place body) ≡ s.first ∷ s.others = ap items (drop_more body place (get_or body place 0) l refl) ∙ s.are in
      absurd (let z : s.first ∷ s.others ≡ [] = sym some ∙ none in cc)
]

-- ---- samples

pub slice_get_last : (xs : List ℕ) (x y : ℕ) (j : ℕ) → slice_get (xs ++ x ∷ []) j ≡ Some y → (slice_get xs j ≡ Some y) ⊎ ((j ≡ length xs) × (y ≡ x))
slice_get_last [] x y zero e = inr (refl, cc)
slice_get_last [] x y (suc j) e = absurd cc
slice_get_last (b ∷ xs) x y zero e = inl e
slice_get_last (b ∷ xs) x y (suc j) e = elim (slice_get_last xs x y j e) [ inl h ↦ inl h | inr h ↦ inr (let k = h.0 in omega arith, h.1) ]
