-- Numbers that are read digit by digit from the front of a text.
use Rattle.std.proofs.Common.{◌≡◌, ℕ, ◌+◌, ◌-◌, ◌*◌, ◌%◌, ◌^◌, ◌≤◌, ◌<◌, true, List, [], ◌∷◌, ◌++◌, length, get_or, take, drop, add-one, refl, sym, ap, ◌∙◌, arith}
use Rattle.std.specs.List.{list_all}
use Rattle.std.proofs.Math.Nat.{pow-suc, pow-le-pow_right}
use Rattle.std.proofs.lemmas.Bool.{le-leb}
use Rattle.std.proofs.lemmas.List.{take_more, take-append-drop, length-take}
use Rattle.std.proofs.lemmas.List.Folds.{list_all-append}
use Rattle.spp_text.specs.Reading.{is_digit, value_from}
use Rattle.spp_text.specs.Usual.{IsNumberFront}

-- the first i bytes of the text are the digits of n
pub record ReadSoFar (text : List ℕ) (i n : ℕ) : Type 0 where
  pub value : value_from 0 (take i text) ≡ n
  pub each : list_all is_digit (take i text) ≡ true
  pub small : n < 10 ^ i

value_last : (n : ℕ) (ds : List ℕ) (b : ℕ) → value_from n (ds ++ b ∷ []) ≡ value_from n ds * 10 + (b - 48)
value_last n [] b = refl
value_last n (d ∷ ds) b = value_last (n * 10 + (d - 48)) ds b

-- one digit more
pub digit_more : (text : List ℕ) (i n b d : ℕ) → ReadSoFar text i n → i < length text → get_or text i 0 ≡ b → b < 256 → d ≡ (b + 208) % 256 → d ≤ 9 → ReadSoFar text (i + 1) (n * 10 + d)
digit_more text i n b d r lt is byte wraps small =
    let low : 48 ≤ b = omega arith in
    let high : b ≤ 57 = omega arith in
    let same : d ≡ b - 48 = omega arith in
    let more : take (i + 1) text ≡ take i text ++ b ∷ [] = take_more text i 0 lt ∙ ap (λ (x : ℕ). take i text ++ x ∷ []) is in
    let below = r.small in
    let power = pow-suc 10 i in
    record {
      value = ap (value_from 0) more ∙ value_last 0 (take i text) b ∙ ap (λ (m : ℕ). m * 10 + (b - 48)) r.value ∙ ap (λ (x : ℕ). n * 10 + x) (sym same);
      each = ap (list_all is_digit) more ∙ list_all-append is_digit (take i text) (b ∷ []) ∙ rw (r.each, le-leb 48 b low, le-leb b 57 high) refl;
      small = rw add-one (omega (arith, power));
    }

-- there is room for one more
pub room_for_digit : (text : List ℕ) (i n : ℕ) → ReadSoFar text i n → i ≤ 18 → n < 1000000000000000000
room_for_digit text i n r le =
    let most = pow-le-pow_right {n = 10} (omega arith) le in
    let below = r.small in
    omega arith

-- what was read, where something follows
pub number_read : (text : List ℕ) (i n : ℕ) → ReadSoFar text i n → n < 2 ^ 64 → 0 < i → i ≤ length text → IsNumberFront text n (drop i text)
number_read text i n r fits some le = (take i text, record { some = omega (arith, length-take i text); each = r.each; value = r.value; fits = fits }, sym (take-append-drop i text))
