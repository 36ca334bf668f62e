-- A text that begins with a word is known by the number that its first eight bytes are.
use Rattle.std.proofs.Common.{◌≡◌, ℕ, zero, suc, ◌/◌, ◌^◌, ◌%◌, ◌≤◌, ◌++◌, List, ◌∷◌, length, take, drop, refl, sym, ap, ◌∙◌, arith}
use Rattle.std.specs.Int.{byte_at, bytes_high_first, to_be_bytes, from_be_bytes, w64}
use Rattle.std.proofs.Math.Nat.{div-div-eq-div-mul, pow-succ'}
use Rattle.std.proofs.lemmas.Nat.{be_bytes_8}
use Rattle.std.proofs.lemmas.List.{length-take, take-take, take-append-drop}
use Rattle.spp_event.proofs.TakenFromFront.{IsBytes, IsBytes-take}

-- the bytes above the lowest one are those of what is above it
byte_above : (i n : ℕ) → byte_at (suc i) n ≡ byte_at i (n / 256)
byte_above zero n = refl
byte_above (suc i) n = ap (λ (p : ℕ). n / p % 256) (pow-succ' 256 (suc i)) ∙ ap (λ (q : ℕ). q % 256) (sym (div-div-eq-div-mul n 256 (256 ^ suc i)))

pub bytes_above : (k n : ℕ) → take k (bytes_high_first (suc k) n) ≡ bytes_high_first k (n / 256)
bytes_above zero n = refl
bytes_above (suc k) n = ap (λ (b : ℕ). b ∷ take k (bytes_high_first (suc k) n)) (byte_above k n) ∙ ap (λ (bs : List ℕ). byte_at k (n / 256) ∷ bs) (bytes_above k n)

-- these are the first eight bytes of the text, as a number
pub record IsHead (text : List ℕ) (n : ℕ) : Type 0 where
  pub long : 8 ≤ length text
  pub bytes : to_be_bytes w64 n ≡ take 8 text

pub is_head : (text : List ℕ) (n : ℕ) → IsBytes text → 8 ≤ length text → n ≡ from_be_bytes w64 (take 8 text) → IsHead text n
is_head text n bytes long is = record { long = long; bytes = be_bytes_8 (take 8 text) n (omega (arith, length-take 8 text)) (IsBytes-take 8 text bytes) is }

-- so many of them, where they are the bytes of a number
begun : (text front : List ℕ) (k n : ℕ) → IsHead text n → k ≤ 8 → take k (to_be_bytes w64 n) ≡ front → text ≡ front ++ drop k text
begun text front k n h le is =
    let same : take k text ≡ front = sym (take-take k 8 text le) ∙ ap (take k) (sym h.bytes) ∙ is in
    sym (take-append-drop k text) ∙ ap (λ (t : List ℕ). t ++ drop k text) same

above_two : (n : ℕ) → take 6 (to_be_bytes w64 n) ≡ bytes_high_first 6 (n / 65536)
above_two n = ap (take 6) (bytes_above 7 n) ∙ bytes_above 6 (n / 256) ∙ ap (bytes_high_first 6) (div-div-eq-div-mul n 256 256)

above_three : (n : ℕ) → take 5 (to_be_bytes w64 n) ≡ bytes_high_first 5 (n / 16777216)
above_three n = ap (take 5) (above_two n) ∙ bytes_above 5 (n / 65536) ∙ ap (bytes_high_first 5) (div-div-eq-div-mul n 65536 256)

pub begins_with_seven : (text : List ℕ) (n word : ℕ) → IsHead text n → n / 256 ≡ word → text ≡ bytes_high_first 7 word ++ drop 7 text
begins_with_seven text n word h is = begun text (bytes_high_first 7 word) 7 n h (omega arith) (bytes_above 7 n ∙ ap (bytes_high_first 7) is)

pub begins_with_six : (text : List ℕ) (n word : ℕ) → IsHead text n → n / 65536 ≡ word → text ≡ bytes_high_first 6 word ++ drop 6 text
begins_with_six text n word h is = begun text (bytes_high_first 6 word) 6 n h (omega arith) (above_two n ∙ ap (bytes_high_first 6) is)

pub begins_with_five : (text : List ℕ) (n word : ℕ) → IsHead text n → n / 16777216 ≡ word → text ≡ bytes_high_first 5 word ++ drop 5 text
begins_with_five text n word h is = begun text (bytes_high_first 5 word) 5 n h (omega arith) (above_three n ∙ ap (bytes_high_first 5) is)

pub begins_with_eight : (text : List ℕ) (n word : ℕ) → IsHead text n → n ≡ word → text ≡ bytes_high_first 8 word ++ drop 8 text
begins_with_eight text n word h is = begun text (bytes_high_first 8 word) 8 n h (omega arith) (ap (to_be_bytes w64) is)
