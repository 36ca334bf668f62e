-- How many bytes items have.
use Rattle.std.proofs.Common.{ℕ, ◌+◌, ◌/◌, ◌^◌, ◌<◌, ◌≤◌, ◌∷◌, ◌++◌, length, arith, length-append}
use Rattle.std.proofs.lemmas.Int.Digits.{length-digits_of-le}
use Rattle.spp_event.specs.declared.records.Event.TheVariants.{Strand, Call, Spawn, Ret, Sync}
use Rattle.spp_event.specs.Items.{operand}
use Rattle.spp_event.specs.Laws.{ItemsAreShort, ItemsOfTracesAreShorter}

-- an operand has one byte more than its number has digits in front of the last
operand_short : (n k : ℕ) → n / 64 < 64 ^ k → length (operand n) ≤ k + 1
operand_short n k h = simp length-append (omega (arith, length-digits_of-le 64 k (n / 64) (omega arith) h))

long_number : (n : ℕ) → n < 2 ^ 64 → length (operand n) ≤ 11
long_number n h = operand_short n 10 (omega arith)

word_number : (n : ℕ) → n < 2 ^ 32 → length (operand n) ≤ 6
word_number n h = operand_short n 5 (omega arith)

small_number : (n : ℕ) → n < 65536 → length (operand n) ≤ 3
small_number n h = operand_short n 2 (omega arith)

-- a tag and two numbers
two_numbers : (tag n m k : ℕ) → length (operand n) ≤ k → length (operand m) ≤ k → length (tag ∷ operand n ++ operand m) ≤ k + k + 1
two_numbers tag n m k h i = omega (arith, length-append (operand n) (operand m))

pub items_are_short : ItemsAreShort
items_are_short (Strand count) h = omega (arith, long_number count h)
items_are_short (Call site func) h = two_numbers 129 site func 6 (word_number site h.0) (word_number func h.1)
items_are_short (Spawn site func) h = two_numbers 130 site func 6 (word_number site h.0) (word_number func h.1)
items_are_short Ret h = omega arith
items_are_short Sync h = omega arith

pub items_of_traces_are_shorter : ItemsOfTracesAreShorter
items_of_traces_are_shorter sites funcs (Strand count) s f h = omega (arith, long_number count h)
items_of_traces_are_shorter sites funcs (Call site func) s f h =
    omega (arith, two_numbers 129 site func 3 (small_number site (omega (arith, h.0))) (small_number func (omega (arith, h.1))))
items_of_traces_are_shorter sites funcs (Spawn site func) s f h =
    omega (arith, two_numbers 130 site func 3 (small_number site (omega (arith, h.0))) (small_number func (omega (arith, h.1))))
items_of_traces_are_shorter sites funcs Ret s f h = omega arith
items_of_traces_are_shorter sites funcs Sync s f h = omega arith
