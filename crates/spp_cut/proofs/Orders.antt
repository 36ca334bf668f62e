-- Positions that don't fall from one to the next.
use Rattle.std.proofs.Common.{◌≡◌, ℕ, zero, suc, ◌+◌, ◌-◌, ◌<◌, ◌≤◌, List, [], ◌∷◌, ◌++◌, length, map, take, drop, get_or, refl, sym, ap, subst, ◌∙◌, arith}
use Rattle.std.proofs.lemmas.List.{map-append, take_more, take-take}
use Rattle.std.proofs.Math.Seq.{take-length}
use Rattle.spp_event.specs.Items.{items}
use Rattle.spp_event.specs.Recordings.{Recording}
use Rattle.spp_event.proofs.ItemNumbers.{drop_more}
use Rattle.spp_event.proofs.ItemCounts.{fewer_in_front}
use Rattle.spp_cut.specs.Cuts.{AreInOrder, AreGoodTo, IsInRange, IsRising, events_before}

pub below : (from end : ℕ) (xs : List ℕ) → AreInOrder from xs end → from ≤ end
below from end [] h = h
below from end (x ∷ xs) h = let l = below x end xs h.1 in omega (arith, h.0)

-- the next one, and those behind it
pub in_turn : (from end n : ℕ) (xs : List ℕ) → n < length xs → AreInOrder from (drop n xs) end
    → (from ≤ get_or xs n 0) × AreInOrder (get_or xs n 0) (drop (n + 1) xs) end
in_turn from end n xs lt h = subst (λ (l : List ℕ). AreInOrder from l end) (drop_more xs n (get_or xs n 0) lt refl) h

pub next_within : (from end n : ℕ) (xs : List ℕ) → n < length xs → AreInOrder from (drop n xs) end → get_or xs n 0 ≤ end
next_within from end n xs lt h = below (get_or xs n 0) end (drop (n + 1) xs) (in_turn from end n xs lt h).1

-- good cuts are in order
good_behind : (end c : ℕ) (cuts : List ℕ) → AreGoodTo end (c ∷ cuts) (suc (length cuts)) → (j : ℕ) → j < length cuts → IsInRange end cuts j × IsRising cuts j
good_behind end c cuts good zero lt = ((good 1 (omega arith)).0, λ pos. absurd (omega arith))
good_behind end c cuts good (suc j) lt =
    let g = good (suc (suc j)) (omega arith) in
    (g.0, λ pos. subst (λ (k : ℕ). get_or (c ∷ cuts) k 0 < get_or cuts (suc j) 0) (let s : suc (suc j) - 1 ≡ suc (suc j - 1) = omega arith in s) (g.1 (omega arith)))

good_from : (from end : ℕ) (cuts : List ℕ) → from ≤ end → (0 < length cuts → from ≤ get_or cuts 0 0) → AreGoodTo end cuts (length cuts) → AreInOrder from cuts end
good_from from end [] le first good = le
good_from from end (c ∷ cuts) le first good =
    let behind = good_behind end c cuts good in (
      first (omega arith),
      good_from c end cuts (good 0 (omega arith)).0
          (λ some. let rise : c < get_or cuts 0 0 = (good 1 (omega arith)).1 (omega arith) in omega arith) behind,
    )

pub good_in_order : (end : ℕ) (cuts : List ℕ) → AreGoodTo end cuts (length cuts) → AreInOrder 0 cuts end
good_in_order end cuts good = good_from 0 end cuts (omega arith) (λ some. omega arith) good

-- what doesn't fall at them is in order as well
moved : (f : ℕ → ℕ) (from end most : ℕ) (xs : List ℕ) → ((a b : ℕ) → a ≤ b → f a ≤ f b) → f end ≤ most → AreInOrder from xs end → AreInOrder (f from) (map f xs) most
moved f from end most [] up le h = let u = up from end h in omega arith
moved f from end most (x ∷ xs) up le h = (up from x h.0, moved f x end most xs up le h.1)

before_later : (t : Recording) (a b : ℕ) → a ≤ b → events_before t a ≤ events_before t b
before_later t a b le = subst (λ (l : List ℕ). length (items l) ≤ length (items (take b t.body))) (take-take a b t.body le) (fewer_in_front (take b t.body) a)

-- no more items begin in front of an offset than there are
pub few_before : (t : Recording) (offset : ℕ) → events_before t offset ≤ length (items t.body)
few_before t offset = fewer_in_front t.body offset

-- the positions of the events behind offsets
pub positions_in_order : (t : Recording) (offsets : List ℕ) → length (items t.body) ≤ length t.records → AreInOrder 0 offsets (length t.body)
    → AreInOrder 0 (map (events_before t) offsets) (length t.records)
positions_in_order t offsets few h = moved (events_before t) 0 (length t.body) (length t.records) offsets (before_later t)
    (subst (λ (l : List ℕ). length (items l) ≤ length t.records) (sym (take-length t.body)) few) h

-- what is made of the numbers so far, with one more
pub mapped_more : (f : ℕ → ℕ) (n y : ℕ) (xs ys zs : List ℕ) → n < length xs → ys ≡ map f (take n xs) → y ≡ f (get_or xs n 0) → zs ≡ ys ++ y ∷ []
    → zs ≡ map f (take (n + 1) xs)
mapped_more f n y xs ys zs lt are is more =
    more ∙ ap (λ l. l ++ y ∷ []) are ∙ ap (λ k. map f (take n xs) ++ k ∷ []) is ∙ sym (map-append f (take n xs) (get_or xs n 0 ∷ []))
    ∙ ap (map f) (sym (take_more xs n 0 lt))
