-- Numbers in decimal.
use Rattle.std.proofs.Common.{◌≡◌, ℕ, zero, suc, ◌+◌, ◌-◌, ◌*◌, ◌≤◌, ◌<◌, true, List, [], ◌∷◌, length, get_or, drop, arith}
use Rattle.std.specs.List.{list_all}
use Rattle.std.proofs.lemmas.Bool.{and_parts, leb-true}
use Rattle.std.proofs.lemmas.List.{at_drop_more}
use Rattle.spp_text.specs.Reading.{is_digit, value_from}

pub value_grows : (n : ℕ) (bs : List ℕ) → n ≤ value_from n bs
value_grows n [] = omega arith
value_grows n (b ∷ bs) = let more = value_grows (n * 10 + (b - 48)) bs in omega arith

pub digit_at : (word : List ℕ) (i : ℕ) → list_all is_digit word ≡ true → i < length word → 48 ≤ get_or word i 0
digit_at [] i e lt = absurd (omega arith)
digit_at (b ∷ bs) zero e lt = leb-true 48 b (and_parts _ _ (and_parts (is_digit b) (list_all is_digit bs) e).0).0
digit_at (b ∷ bs) (suc i) e lt = digit_at bs i (and_parts (is_digit b) (list_all is_digit bs) e).1 (omega arith)

-- one digit more
pub value_more : (n : ℕ) (word : List ℕ) (i : ℕ) → i < length word → value_from n (drop i word) ≡ value_from (n * 10 + (get_or word i 0 - 48)) (drop (i + 1) word)
value_more n word i lt = at_drop_more (value_from n) word i 0 lt
