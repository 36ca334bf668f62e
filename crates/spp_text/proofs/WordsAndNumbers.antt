-- The words of a line that has one blank between two words, and numbers in decimal.
use Rattle.std.proofs.Common.{◌≡◌, ℕ, zero, suc, ◌≤◌, ◌<◌, ◌^◌, Bool, true, false, not, nat_eq, nat_lt, nat_le, Some, List, [], ◌∷◌, ◌++◌, length, get_or, decimal, filter, refl, ap, ◌∙◌, arith, rules}
use Rattle.std.specs.List.{list_all}
use Rattle.std.specs.Int.{is_in_range}
use Rattle.std.proofs.lemmas.Bool.{and_parts, and_from, leb-true, le-leb, lt-ltb, ne_eqb, or_from, not-true}
use Rattle.std.proofs.lemmas.Fmt.{digits_decimal, digits_value-decimal, decimal_nonempty}
use Rattle.std.proofs.lemmas.List.Splits.{slice_split_at, slice_split_none}
use Rattle.std.proofs.lemmas.Str.Parse.{IsNumeralModel, numerals_by_fold}
use Rattle.spp_event.specs.Checks.{is_printable}
use Rattle.spp_text.specs.Reading.{is_blank, words, is_digit, value_from, number_in}

-- ---- words

-- bytes of which none is a blank
abbrev pub is_solid : List ℕ → Bool
is_solid word = list_all (λ b. not (is_blank b)) word

solid_at : (word : List ℕ) (i d : ℕ) → is_solid word ≡ true → i < length word → is_blank (get_or word i d) ≡ false
solid_at [] i d e lt = absurd (omega arith)
solid_at (b ∷ bs) zero d e lt = not-true (is_blank b) (and_parts (not (is_blank b)) (is_solid bs) e).0
solid_at (b ∷ bs) (suc i) d e lt = solid_at bs i d (and_parts (not (is_blank b)) (is_solid bs) e).1 (omega arith)

pub first_word : (word rest : List ℕ) → is_solid word ≡ true → 0 < length word → words (word ++ 32 ∷ rest) ≡ word ∷ words rest
first_word word rest e pos =
    ap (filter (λ (w : List ℕ). not (nat_eq (length w) 0))) (slice_split_at is_blank word 32 rest (λ k d lt. solid_at word k d e lt) refl)
    ∙ rw (ne_eqb (length word) 0 (λ h. omega arith)) refl

pub only_word : (word : List ℕ) → is_solid word ≡ true → 0 < length word → words word ≡ word ∷ []
only_word word e pos =
    ap (filter (λ (w : List ℕ). not (nat_eq (length w) 0))) (slice_split_none is_blank word (λ k d lt. solid_at word k d e lt))
    ∙ rw (ne_eqb (length word) 0 (λ h. omega arith)) refl

-- ---- numbers

abbrev pub AreDigits : List ℕ → Type 0
AreDigits word = list_all is_digit word ≡ true

numerals : IsNumeralModel AreDigits (value_from 0)
numerals = numerals_by_fold AreDigits (search rules) value_from (search rules)

pub digits_printable : (word : List ℕ) → AreDigits word → is_printable word ≡ true
digits_printable [] e = refl
digits_printable (b ∷ bs) e =
    let p = and_parts (is_digit b) (list_all is_digit bs) e in
    let q = and_parts (nat_le 48 b) (nat_le b 57) p.0 in
    let low = leb-true 48 b q.0 in let high = leb-true b 57 q.1 in
    and_from (is_in_range 32 126 b) (is_printable bs) (and_from (nat_le 32 b) (nat_le b 126) (le-leb 32 b (omega arith)) (le-leb b 126 (omega arith))) (digits_printable bs p.1)

pub digits_solid : (word : List ℕ) → AreDigits word → is_solid word ≡ true
digits_solid [] e = refl
digits_solid (b ∷ bs) e =
    let p = and_parts (is_digit b) (list_all is_digit bs) e in
    let low = leb-true 48 b (and_parts (nat_le 48 b) (nat_le b 57) p.0).0 in
    let no_blank : is_blank b ≡ false = or_from (nat_eq b 32) (nat_eq b 9) (ne_eqb b 32 (λ h. omega arith)) (ne_eqb b 9 (λ h. omega arith)) in
    and_from (not (is_blank b)) (is_solid bs) (rw no_blank refl) (digits_solid bs p.1)

pub decimal_printable : (n : ℕ) → n < 2 ^ 64 → is_printable (decimal n) ≡ true
decimal_printable n h = digits_printable (decimal n) (digits_decimal numerals n h)

pub decimal_solid : (n : ℕ) → n < 2 ^ 64 → is_solid (decimal n) ≡ true
decimal_solid n h = digits_solid (decimal n) (digits_decimal numerals n h)

-- the number that the decimal of n is
pub number_of_decimal : (most n : ℕ) → n < 2 ^ 64 → n ≤ most → number_in most (decimal n) ≡ Some n
unfolding number_in
number_of_decimal most n h le =
    let some : nat_lt 0 (length (decimal n)) ≡ true = lt-ltb 0 (length (decimal n)) (decimal_nonempty n h) in
    rw (some, digits_decimal numerals n h, digits_value-decimal numerals n h, le-leb n most le) refl

-- the number that digits are
pub number_of_digits : (most : ℕ) (digits : List ℕ) → AreDigits digits → 0 < length digits → value_from 0 digits ≤ most → number_in most digits ≡ Some (value_from 0 digits)
unfolding number_in
number_of_digits most digits e pos le = rw (lt-ltb 0 (length digits) pos, e, le-leb (value_from 0 digits) most le) refl

-- the words of a line of a word and the digits of one number, or of two
pub last_digits : (word digits : List ℕ) → is_solid word ≡ true → 0 < length word → AreDigits digits → 0 < length digits → words (word ++ 32 ∷ digits) ≡ word ∷ digits ∷ []
last_digits word digits e pos d some = first_word word digits e pos ∙ ap (λ (ws : List (List ℕ)). word ∷ ws) (only_word digits (digits_solid digits d) some)

pub two_of_digits : (word first second : List ℕ) → is_solid word ≡ true → 0 < length word → AreDigits first → 0 < length first → AreDigits second → 0 < length second
    → words (word ++ 32 ∷ (first ++ 32 ∷ second)) ≡ word ∷ first ∷ second ∷ []
two_of_digits word first second e pos d some f more =
    first_word word (first ++ 32 ∷ second) e pos ∙ ap (λ (ws : List (List ℕ)). word ∷ ws) (last_digits first second (digits_solid first d) some f more)

-- the words of a line of a word and one number, or two
pub last_number : (word : List ℕ) (n : ℕ) → is_solid word ≡ true → 0 < length word → n < 2 ^ 64 → words (word ++ 32 ∷ decimal n) ≡ word ∷ decimal n ∷ []
last_number word n e pos h = last_digits word (decimal n) e pos (digits_decimal numerals n h) (decimal_nonempty n h)

pub two_numbers : (word : List ℕ) (m n : ℕ) → is_solid word ≡ true → 0 < length word → m < 2 ^ 64 → n < 2 ^ 64 → words (word ++ 32 ∷ (decimal m ++ 32 ∷ decimal n)) ≡ word ∷ decimal m ∷ decimal n ∷ []
two_numbers word m n e pos h k = two_of_digits word (decimal m) (decimal n) e pos (digits_decimal numerals m h) (decimal_nonempty m h) (digits_decimal numerals n k) (decimal_nonempty n k)
