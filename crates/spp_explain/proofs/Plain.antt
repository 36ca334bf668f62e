-- A text as one line.
use Rattle.std.proofs.Common.{◌≡◌, ◌∙◌, ◌++◌, ◌∷◌, [], ℕ, Bool, List, true, false, ap, append-nil, cond, map, refl, sym}
use Rattle.std.specs.Char.{encode_utf8, is_control}
use Rattle.std.specs.Str.{NonePass, chars, encode_utf8_all}
use Rattle.std.proofs.lemmas.List.{map-append, map-id}
use Rattle.std.proofs.lemmas.Str.{encodes-append}
use Rattle.spp_explain.specs.Lines.{IsOneLine, one_line, shown_char}

shown_plain : (c : ℕ) → is_control (shown_char c) ≡ false
shown_plain c = go (is_control c) refl
  where
    go : (b : Bool) → is_control c ≡ b → is_control (cond b 63 c) ≡ false
    go true is = refl
    go false is = is

all_plain : (cs : List ℕ) → NonePass is_control (map shown_char cs)
all_plain [] = tt
all_plain (c ∷ cs) = (shown_plain c, all_plain cs)

pub plain : (text : List ℕ) → IsOneLine (one_line text)
plain text = (map shown_char (chars text), refl, all_plain (chars text))

-- what is shown of characters and of one more behind them
pub pushed : (cs line longer : List ℕ) (c d : ℕ) → line ≡ encode_utf8_all (map shown_char cs) → d ≡ shown_char c → longer ≡ line ++ encode_utf8 d
    → longer ≡ encode_utf8_all (map shown_char (cs ++ (c ∷ [])))
pushed cs line longer c d before one is =
    let more : encode_utf8_all (map shown_char (cs ++ (c ∷ []))) ≡ encode_utf8_all (map shown_char cs) ++ encode_utf8_all (shown_char c ∷ []) =
    ap encode_utf8_all (map-append shown_char cs (c ∷ [])) ∙ encodes-append (map shown_char cs) (shown_char c ∷ []) in
    rw (is, before, one, more, append-nil (encode_utf8 (shown_char c))) refl

-- what is shown of all characters of a text
pub all_read : (cs text line : List ℕ) → line ≡ encode_utf8_all (map shown_char cs) → map (λ c. c) cs ≡ chars text → line ≡ one_line text
all_read cs text line is all = is ∙ ap (λ l. encode_utf8_all (map shown_char l)) (sym (map-id cs) ∙ all)
