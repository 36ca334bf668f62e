-- The numbers that the digits of an item write.
use Rattle.std.proofs.Common.{◌≡◌, ℕ, suc, ◌+◌, ◌*◌, ◌-◌, ◌/◌, ◌%◌, ◌^◌, ◌<◌, ◌≤◌, if◌then◌else◌, List, [], ◌∷◌, ◌++◌, length, take, drop, get_or, refl, sym, ap, subst, ◌∙◌, arith, inl, inr}
use Rattle.std.specs.Int.Digits.{digits_of, number_from_digits, number_from_digits_after, AllBelowBase}
use Rattle.std.proofs.lemmas.Bool.{cases_lt, lt-ltb, le-ltb}
use Rattle.std.proofs.lemmas.Int.Digits.{all_below_base_digits_of, first_digits_of, number_digits_of, digits_of_step}
use Rattle.std.proofs.lemmas.List.{append_assoc, append_cancel_left, take-append-drop}
use Rattle.std.proofs.Math.Seq.{take-suc, drop-cons}
use Rattle.std.proofs.Math.ListN.{drop_of_length-le}
use Rattle.std.proofs.lemmas.Nat.{div-add-mod'}
use Rattle.spp_event.specs.Items.{operand, numbers}

pub numbers_low : (n b : ℕ) (bs : List ℕ) → b < 64 → numbers n (b ∷ bs) ≡ numbers (n * 64 + b) bs
numbers_low n b bs h = ap (λ t. if t then numbers (n * 64 + b) bs else (n * 64 + (b - 64)) ∷ numbers 0 bs) (lt-ltb b 64 h)

pub numbers_high : (n b : ℕ) (bs : List ℕ) → 64 ≤ b → numbers n (b ∷ bs) ≡ (n * 64 + (b - 64)) ∷ numbers 0 bs
numbers_high n b bs h = ap (λ t. if t then numbers (n * 64 + b) bs else (n * 64 + (b - 64)) ∷ numbers 0 bs) (le-ltb b 64 h)

-- digits that end no number
pub numbers_digits : (n : ℕ) (ds bs : List ℕ) → AllBelowBase 64 ds → numbers n (ds ++ bs) ≡ numbers (number_from_digits_after 64 n ds) bs
numbers_digits n [] bs h = refl
numbers_digits n (d ∷ ds) bs h = numbers_low n d (ds ++ bs) h.0 ∙ numbers_digits (n * 64 + d) ds bs h.1

-- the number that an operand writes
pub numbers_operand : (n : ℕ) (bs : List ℕ) → numbers 0 (operand n ++ bs) ≡ n ∷ numbers 0 bs
numbers_operand n bs =
    let q = n / 64 in
    let last = 64 + n % 64 in
    let whole : number_from_digits 64 (digits_of 64 q) ≡ q = number_digits_of 64 q (omega arith) in
    let is : q * 64 + (last - 64) ≡ n = omega (arith, div-add-mod' n 64) in
    ap (λ (l : List ℕ). numbers 0 l) (append_assoc (digits_of 64 q) (last ∷ []) bs)
    ∙ numbers_digits 0 (digits_of 64 q) (last ∷ bs) (all_below_base_digits_of 64 q (omega arith))
    ∙ ap (λ (k : ℕ). numbers k (last ∷ bs)) whole
    ∙ numbers_high q last bs (omega arith)
    ∙ ap (λ (k : ℕ). k ∷ numbers 0 bs) is

-- the first number is at least 64 times what came before
pub numbers_more : (n m : ℕ) (bs ms : List ℕ) → numbers n bs ≡ m ∷ ms → n * 64 ≤ m
numbers_more n m [] ms e = absurd cc
numbers_more n m (b ∷ bs) ms e = elim (cases_lt b 64) [
  | inl low ↦ let h = numbers_more (n * 64 + b) m bs ms (sym (numbers_low n b bs low) ∙ e) in omega arith
  | inr high ↦ let h : (n * 64 + (b - 64)) ∷ numbers 0 bs ≡ m ∷ ms = sym (numbers_high n b bs high) ∙ e in let k : n * 64 + (b - 64) ≡ m = cc in omega arith
]

-- no number begins with the digit 0
pub operand_first : (n : ℕ) (bs : List ℕ) → 0 < get_or (operand n ++ bs) 0 0
operand_first n bs = elim (cases_lt 0 (n / 64)) [
  | inl some ↦ first_in (digits_of 64 (n / 64)) ((64 + n % 64) ∷ []) bs (first_digits_of 64 (n / 64) (omega arith) some)
  | inr none ↦ let z : n / 64 ≡ 0 = omega arith in subst (λ (k : ℕ). 0 < get_or ((digits_of 64 k ++ (64 + n % 64) ∷ []) ++ bs) 0 0) (sym z) (omega arith)
]
  where
    first_in : (ds last rest : List ℕ) → 0 < get_or ds 0 0 → 0 < get_or ((ds ++ last) ++ rest) 0 0
    first_in [] last rest h = absurd (omega arith)
    first_in (d ∷ ds) last rest h = h

-- ---- digits, one more at a time

back : (n d : ℕ) → d < 64 → ((n * 64 + d) / 64 ≡ n) × ((n * 64 + d) % 64 ≡ d)
back n d h = (omega arith, omega arith)

-- the digits with one more
pub digits_more : (n d : ℕ) → d < 64 → 0 < n * 64 + d → digits_of 64 n ++ d ∷ [] ≡ digits_of 64 (n * 64 + d)
digits_more n d h some = sym (digits_of_step 64 (n * 64 + d) (omega arith) some
    ∙ ap (λ (k : ℕ). digits_of 64 k ++ ((n * 64 + d) % 64) ∷ []) (back n d h).0
    ∙ ap (λ (k : ℕ). digits_of 64 n ++ k ∷ []) (back n d h).1)

-- the number that they and a last digit write
pub operand_ends : (n d : ℕ) → d < 64 → digits_of 64 n ++ (64 + d) ∷ [] ≡ operand (n * 64 + d)
operand_ends n d h =
    ap (λ (k : ℕ). digits_of 64 k ++ (64 + d) ∷ []) (sym (back n d h).0)
    ∙ ap (λ (k : ℕ). digits_of 64 ((n * 64 + d) / 64) ++ (64 + k) ∷ []) (sym (back n d h).1)

-- a number of two digits in front
pub two_digits : (a b n : ℕ) (rest : List ℕ) → 0 < a → a < 64 → 64 ≤ b → b < 128 → n ≡ a * 64 + (b - 64) → a ∷ b ∷ rest ≡ operand n ++ rest
two_digits a b n rest some small last end is =
    let d : digits_of 64 a ≡ a ∷ [] = sym (digits_more 0 a small (omega arith) ∙ ap (λ (k : ℕ). digits_of 64 k) (let s : 0 * 64 + a ≡ a = omega arith in s)) in
    ap (λ (k : ℕ). a ∷ k ∷ rest) (let s : b ≡ 64 + (b - 64) = omega arith in s)
    ∙ ap (λ (l : List ℕ). (l ++ (64 + (b - 64)) ∷ []) ++ rest) (sym d)
    ∙ ap (λ (l : List ℕ). l ++ rest) (operand_ends a (b - 64) (omega arith) ∙ ap operand (sym is))

-- and one of three
pub three_digits : (a b c n : ℕ) (rest : List ℕ) → 0 < a → a < 64 → b < 64 → 64 ≤ c → c < 128 → n ≡ (a * 64 + b) * 64 + (c - 64) → a ∷ b ∷ c ∷ rest ≡ operand n ++ rest
three_digits a b c n rest some small middle last end is =
    let d : digits_of 64 a ≡ a ∷ [] = sym (digits_more 0 a small (omega arith) ∙ ap (λ (k : ℕ). digits_of 64 k) (let s : 0 * 64 + a ≡ a = omega arith in s)) in
    let e : digits_of 64 (a * 64 + b) ≡ a ∷ b ∷ [] = sym (digits_more a b middle (omega arith)) ∙ ap (λ (l : List ℕ). l ++ b ∷ []) d in
    ap (λ (k : ℕ). a ∷ b ∷ k ∷ rest) (let s : c ≡ 64 + (c - 64) = omega arith in s)
    ∙ ap (λ (l : List ℕ). (l ++ (64 + (c - 64)) ∷ []) ++ rest) (sym e)
    ∙ ap (λ (l : List ℕ). l ++ rest) (operand_ends (a * 64 + b) (c - 64) (omega arith) ∙ ap operand (sym is))

-- three digits that go on
pub digits_three : (a b c n : ℕ) → 0 < a → a < 64 → b < 64 → c < 64 → n ≡ (a * 64 + b) * 64 + c → digits_of 64 n ≡ a ∷ b ∷ c ∷ []
digits_three a b c n some small middle last is =
    let one : digits_of 64 a ≡ a ∷ [] = sym (digits_more 0 a small (omega arith) ∙ ap (λ (k : ℕ). digits_of 64 k) (let s : 0 * 64 + a ≡ a = omega arith in s)) in
    ap (λ (k : ℕ). digits_of 64 k) is
    ∙ sym (digits_more (a * 64 + b) c last (omega arith))
    ∙ ap (λ (l : List ℕ). l ++ c ∷ []) (sym (digits_more a b middle (omega arith)) ∙ ap (λ (l : List ℕ). l ++ b ∷ []) one)

pub take_more : (bytes : List ℕ) (k b : ℕ) → k < length bytes → get_or bytes k 0 ≡ b → take (k + 1) bytes ≡ take k bytes ++ b ∷ []
take_more bytes k b h e = ap (λ (j : ℕ). take j bytes) (let s : k + 1 ≡ suc k = omega arith in s) ∙ take-suc bytes k 0 h ∙ ap (λ (x : ℕ). take k bytes ++ x ∷ []) e

pub drop_more : (bytes : List ℕ) (k b : ℕ) → k < length bytes → get_or bytes k 0 ≡ b → drop k bytes ≡ b ∷ drop (k + 1) bytes
drop_more bytes k b h e = drop-cons bytes k 0 h ∙ ap (λ (x : ℕ). x ∷ drop (suc k) bytes) e ∙ ap (λ (j : ℕ). b ∷ drop j bytes) (let s : suc k ≡ k + 1 = omega arith in s)

-- ---- bytes that no number stands at the front of

-- what the bytes say from place k on, where the digits before are worth n
pub record Reading (bytes : List ℕ) (k n : ℕ) : Type 0 where
  pub digits : take k bytes ≡ digits_of 64 n
  pub rest : numbers n (drop k bytes) ≡ numbers 0 bytes
  pub some : 0 < k → 0 < n

-- the numbers that the bytes write, where they begin with that of an operand
begun : (bytes rest : List ℕ) (m : ℕ) → bytes ≡ operand m ++ rest → numbers 0 bytes ≡ m ∷ numbers 0 rest
begun bytes rest m e = ap (λ (l : List ℕ). numbers 0 l) e ∙ numbers_operand m rest

-- they go on beyond 64 bits
pub too_large : (bytes rest : List ℕ) (k n m : ℕ) → Reading bytes k n → 2 ^ 58 ≤ n → m < 2 ^ 64 → bytes ≡ operand m ++ rest → ⊥
too_large bytes rest k n m r large small e =
    let h = numbers_more n m (drop k bytes) (numbers 0 rest) (r.rest ∙ begun bytes rest m e) in
    absurd (omega arith)

-- they end within a number
pub unended : (bytes rest : List ℕ) (k n m : ℕ) → Reading bytes k n → length bytes ≤ k → bytes ≡ operand m ++ rest → ⊥
unended bytes rest k n m r end e =
    let none : drop k bytes ≡ [] = drop_of_length-le bytes end in
    let h : numbers n [] ≡ m ∷ numbers 0 rest = sym (ap (λ (l : List ℕ). numbers n l) none) ∙ r.rest ∙ begun bytes rest m e in
    absurd cc

-- a digit in front is 0
pub zero_first : (bytes rest : List ℕ) (k m : ℕ) → k ≡ 0 → get_or bytes k 0 ≡ 0 → bytes ≡ operand m ++ rest → ⊥
zero_first bytes rest k m at z e = let h = operand_first m rest in let g : get_or bytes 0 0 ≡ get_or (operand m ++ rest) 0 0 = ap (λ (l : List ℕ). get_or l 0 0) e in let f : get_or bytes 0 0 ≡ 0 = sym (ap (λ (j : ℕ). get_or bytes j 0) at) ∙ z in absurd (omega arith)

-- behind digits a byte of 128 or more
seam : (ds es bs rest : List ℕ) (b last : ℕ) → AllBelowBase 64 ds → AllBelowBase 64 es → 64 ≤ last → last < 128 → ds ++ b ∷ bs ≡ es ++ last ∷ rest → b < 128
seam [] [] bs rest b last p q low high e = let h : b ≡ last = cc in omega arith
seam [] (x ∷ es) bs rest b last p q low high e = let h : b ≡ x = cc in let k = q.0 in omega arith
seam (d ∷ ds) [] bs rest b last p q low high e = let h : d ≡ last = cc in let k = p.0 in absurd (omega arith)
seam (d ∷ ds) (x ∷ es) bs rest b last p q low high e = let h : ds ++ b ∷ bs ≡ es ++ last ∷ rest = cc in seam ds es bs rest b last p.1 q.1 low high h

pub too_high : (bytes rest : List ℕ) (k n m : ℕ) → Reading bytes k n → k < length bytes → 128 ≤ get_or bytes k 0 → bytes ≡ operand m ++ rest → ⊥
too_high bytes rest k n m r in_bytes high e =
    let b = get_or bytes k 0 in
    let same : digits_of 64 n ++ b ∷ drop (k + 1) bytes ≡ digits_of 64 (m / 64) ++ (64 + m % 64) ∷ rest =
    ap (λ (l : List ℕ). l ++ b ∷ drop (k + 1) bytes) (sym r.digits)
    ∙ ap (λ (l : List ℕ). take k bytes ++ l) (sym (drop_more bytes k b in_bytes refl))
    ∙ take-append-drop k bytes ∙ e ∙ append_assoc (digits_of 64 (m / 64)) ((64 + m % 64) ∷ []) rest in
    let small : b < 128 = seam (digits_of 64 n) (digits_of 64 (m / 64)) (drop (k + 1) bytes) rest b (64 + m % 64)
    (all_below_base_digits_of 64 n (omega arith)) (all_below_base_digits_of 64 (m / 64) (omega arith)) (omega arith) (omega arith) same in
    absurd (omega arith)

-- ---- a number whose first digits were read before

-- the digits of n are those of the number in front and the bytes before place k
pub record Behind (front : ℕ) (bytes : List ℕ) (k n : ℕ) : Type 0 where
  pub digits : digits_of 64 front ++ take k bytes ≡ digits_of 64 n
  pub some : 0 < n

pub behind_more : (front : ℕ) (bytes : List ℕ) (k n d : ℕ) → Behind front bytes k n → k < length bytes → get_or bytes k 0 ≡ d → d < 64 → Behind front bytes (k + 1) (n * 64 + d)
behind_more front bytes k n d r within is low = record {
  digits = ap (λ (l : List ℕ). digits_of 64 front ++ l) (take_more bytes k d within is)
      ∙ sym (append_assoc (digits_of 64 front) (take k bytes) (d ∷ []))
      ∙ ap (λ (l : List ℕ). l ++ d ∷ []) r.digits
      ∙ digits_more n d low (let s = r.some in omega arith);
  some = let s = r.some in omega arith;
}

-- ---- two readings of one list

pub same_number : (n m : ℕ) (r s : List ℕ) → operand n ++ r ≡ operand m ++ s → n ≡ m
same_number n m r s e = let h : n ∷ numbers 0 r ≡ m ∷ numbers 0 s = sym (numbers_operand n r) ∙ ap (λ (l : List ℕ). numbers 0 l) e ∙ numbers_operand m s in cc

pub same_rest : (n m : ℕ) (r s : List ℕ) → operand n ++ r ≡ operand m ++ s → r ≡ s
same_rest n m r s e = append_cancel_left (operand n) r s (e ∙ ap (λ (k : ℕ). operand k ++ s) (sym (same_number n m r s e)))
