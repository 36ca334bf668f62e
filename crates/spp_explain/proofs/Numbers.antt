-- A number at the front of a text.
use Rattle.std.proofs.Common.{◌≡◌, ◌∙◌, ◌≢◌, ◌<◌, ◌^◌, ◌++◌, ◌∷◌, ℕ, List, Option, append_assoc, arith, codes, length, get_or, decimal}
use Rattle.std.specs.Option.{MatchOption}
use Rattle.std.specs.Str.Parse.{AllDigits, digits_value}
use Rattle.std.proofs.lemmas.Fmt.{digits_decimal}
use Rattle.std.proofs.lemmas.Str.Parse.{IsNumeralModel, not_in_digits, numerals_by_value, tells_digits}
use Rattle.std.proofs.lemmas.Str.Pattern.{IsSplitOnceResult, split_after}
use denote.Ref.{Bor}

digits : IsNumeralModel (AllDigits 10) (digits_value 10)
digits = numerals_by_value (AllDigits 10) tells_digits

no_colon : (n : ℕ) → n < 2 ^ 64 → (i : ℕ) → i < length (decimal n) → get_or (decimal n) i 0 ≢ 58
no_colon n small = not_in_digits digits (decimal n) 58 (digits_decimal digits n small) (λ within. omega (arith, within.1))

-- a text is parted at the colon behind a number
pub parted : (n : ℕ) (rest text : List ℕ) (r : Option (Bor (List ℕ) × Bor (List ℕ))) → n < 2 ^ 32 → text ≡ decimal n ++ codes ": " ++ rest
    → IsSplitOnceResult 58 text r → MatchOption r ⊥ (λ x. (x.0.now ≡ decimal n) × (x.1.now ≡ 32 ∷ rest))
parted n rest text r small is cut =
    split_after 58 text (decimal n) (32 ∷ rest) r cut (omega arith) (is ∙ append_assoc (decimal n) (codes ": ") rest) (no_colon n (omega (arith, small)))
