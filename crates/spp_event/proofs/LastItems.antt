-- The last item of bytes, behind whose first byte all are low.
use Rattle.std.proofs.Common.{◌≡◌, ℕ, ◌+◌, ◌-◌, ◌<◌, ◌≤◌, List, [], ◌∷◌, length, drop, get_or, sym, refl, ap, subst, ◌∙◌, append-nil, arith}
use Rattle.std.specs.List.{AllByRecursion}
use Rattle.std.proofs.Math.ListN.{drop_of_length-le}
use Rattle.spp_event.specs.Items.{items}
use Rattle.spp_event.proofs.ItemNumbers.{drop_more}
use Rattle.spp_event.proofs.ItemPlaces.{one_item}

abbrev AreLow : List ℕ → Type 0
AreLow bs = AllByRecursion (λ b. b < 128) bs

-- a byte and low ones are one item
only_item : (b : ℕ) (bs : List ℕ) → AreLow bs → length (items (b ∷ bs)) ≤ 1
only_item b bs low =
    let is : items (b ∷ bs) ≡ (b ∷ bs) ∷ [] = ap (λ (l : List ℕ). items (b ∷ l)) (sym (append-nil bs)) ∙ one_item b bs [] low tt in
    omega (arith, ap (λ (l : List (List ℕ)). length l) is)

pub low_items : (bs : List ℕ) → AreLow bs → length (items bs) ≤ 1
low_items [] low = omega arith
low_items (b ∷ bs) low = only_item b bs low.1

pub low_at_end : (bs : List ℕ) → AreLow (drop (length bs) bs)
low_at_end bs = subst AreLow (sym (drop_of_length-le bs (omega arith))) tt

-- one byte before
at : (bs : List ℕ) (k : ℕ) → 0 < k → k ≤ length bs → drop (k - 1) bs ≡ get_or bs (k - 1) 0 ∷ drop k bs
at bs k some le =
    drop_more bs (k - 1) (get_or bs (k - 1) 0) (omega arith) refl ∙ ap (λ (j : ℕ). get_or bs (k - 1) 0 ∷ drop j bs) (let s : k - 1 + 1 ≡ k = omega arith in s)

pub low_before : (bs : List ℕ) (k : ℕ) → 0 < k → k ≤ length bs → get_or bs (k - 1) 0 < 128 → AreLow (drop k bs) → AreLow (drop (k - 1) bs)
low_before bs k some le is low = subst AreLow (sym (at bs k some le)) (is, low)

pub last_at : (bs : List ℕ) (k : ℕ) → 0 < k → k ≤ length bs → AreLow (drop k bs) → length (items (drop (k - 1) bs)) ≤ 1
last_at bs k some le low = subst (λ (l : List ℕ). length (items l) ≤ 1) (sym (at bs k some le)) (only_item (get_or bs (k - 1) 0) (drop k bs) low)
