-- What the front of a text says, where it is a line as printing writes it, or one with blanks in front or a carriage
-- return at its end.
use Rattle.std.specs.Prelude.{◌≡◌, ◌⊎◌, ℕ, ◌≤◌, ◌<◌, ◌^◌, Bool, true, ◌||◌, nat_eq, nat_le, List, ◌∷◌, ◌++◌, length, Result, Ok, Some, IfOk}
use Rattle.std.specs.List.{list_all}
use Rattle.std.specs.Str.Lines.{lines}
use Rattle.spp_event.specs.declared.records.Event.{Event}
use Rattle.spp_event.specs.Records.{IsEvent}
use Rattle.spp_text.specs.declared.fault.TextWhy.{TextWhy}
use Rattle.spp_text.specs.Parsed.{Reads}
use Rattle.spp_text.specs.Reading.{Said, is_digit, value_from, words, read_line, read_words, read_event}
use Rattle.spp_text.specs.LineKinds.{is_in_words}
use denote.Ref.{Bor}

-- these are the digits of the number, which has at most 64 bits
pub record AreDigitsOf (digits : List ℕ) (n : ℕ) : Type 0 where
  pub some : 0 < length digits
  pub each : list_all is_digit digits ≡ true
  pub value : value_from 0 digits ≡ n
  pub fits : n < 2 ^ 64

-- the text begins with the digits of the number, and the rest follows
abbrev pub IsNumberFront : List ℕ → ℕ → List ℕ → Type 0
IsNumberFront text n rest = (digits : List ℕ) × AreDigitsOf digits n × (text ≡ digits ++ rest)

-- the text begins with the end of a line: a line feed, or a carriage return and a line feed
abbrev pub IsLineEnd : List ℕ → List ℕ → Type 0
IsLineEnd text rest = (text ≡ 10 ∷ rest) ⊎ (text ≡ 13 ∷ 10 ∷ rest)

-- those digits end a line
abbrev pub IsNumberLine : List ℕ → ℕ → List ℕ → Type 0
IsNumberLine text n rest = (end : List ℕ) × IsNumberFront text n end × IsLineEnd end rest

-- the digits of two numbers of 32 bits, with a space between them, end a line
pub record AreNumbersLine (text : List ℕ) (m n : ℕ) (rest : List ℕ) : Type 0 where
  pub others : List ℕ
  pub first : IsNumberFront text m (32 ∷ others)
  pub second : IsNumberLine others n rest
  pub few : m ≤ 4294967295
  pub less : n ≤ 4294967295

-- no byte that ends a line, nor another one of control
abbrev pub is_plain : ℕ → Bool
is_plain b = nat_eq b 9 || nat_le 32 b

-- the text begins with a line of words, and these are read as the event; the rest follows the end of the line
pub record IsEventFront (text : List ℕ) (event : Event) (rest : List ℕ) : Type 0 where
  pub line : List ℕ
  pub end : List ℕ
  pub parts : text ≡ line ++ end
  pub ends : IsLineEnd end rest
  pub plain : list_all is_plain line ≡ true
  pub in_words : is_in_words line ≡ true
  pub read : (s : Said) → read_words s (words line) ≡ read_event s (Some (Ok event))
  pub fits : IsEvent event

-- the first line of the text is read as the event, whatever has been said, and the rest follows its line feed
pub record IsEventLine (text : List ℕ) (event : Event) (rest : List ℕ) : Type 0 where
  pub line : List ℕ
  pub first : lines text ≡ line ∷ lines rest
  pub behind : (front : List ℕ) × (text ≡ front ++ 10 ∷ rest)
  pub read : (s : Said) → read_line s line ≡ read_event s (Some (Ok event))
  pub fits : IsEvent event

-- the first line of the text was read, where old had been said, and the rest of it is to come
abbrev pub ReadsFirst : Result (Bor (List ℕ)) TextWhy → List ℕ → Said → Said → Type 0
ReadsFirst result text old new =
    (line : List ℕ) × (rest : List ℕ) × (lines text ≡ line ∷ lines rest) × (length rest < length text)
    × Reads result (read_line old line) new × IfOk result (λ r. r.now ≡ rest)
