-- What a line says by itself, whatever stands before it.
use Rattle.std.specs.Prelude.{ℕ, Bool, ◌||◌, not, if◌then◌else◌, List, [], ◌∷◌, drop, codes, Option, Some, None, Result, Ok, Err}
use Rattle.std.specs.Str.{bytes_eq}
use Rattle.spp_event.specs.declared.records.Event.{Event}
use Rattle.spp_text.specs.declared.fault.TextWhy.{TextWhy}
use Rattle.spp_text.specs.Reading.{begins_with, words, number_in, event_in}

-- the name that a line declares for a function, if it does
abbrev pub func_on : List ℕ → Option (List ℕ)
func_on line = if begins_with (codes "func ") line then Some (drop 5 line) else None

-- the name that a line declares for a site, if it does
abbrev pub site_on : List ℕ → Option (List ℕ)
site_on line = if begins_with (codes "site ") line then Some (drop 5 line) else None

-- whether a line is read word by word: it declares no name and is no comment
abbrev pub is_in_words : List ℕ → Bool
is_in_words line = not (begins_with (codes "func ") line || begins_with (codes "site ") line || begins_with (codes "#") line)

-- the number behind `root`, where these are two words and the second is a number of 32 bits
abbrev pub root_in : List (List ℕ) → Option ℕ
root_in [] = None
root_in (word ∷ []) = None
root_in (word ∷ n ∷ []) = if bytes_eq word (codes "root") then number_in 4294967295 n else None
root_in (word ∷ n ∷ m ∷ more) = None

-- the number that a line gives the root, if it does
abbrev pub root_on : List ℕ → Option ℕ
root_on line = if is_in_words line then root_in (words line) else None

abbrev pub good_event : Option (Result Event TextWhy) → Option Event
good_event (Some (Ok e)) = Some e
good_event (Some (Err why)) = None
good_event None = None

-- the event that words spell, where there are neither too few nor too many and each number is one
abbrev pub event_spelled : List (List ℕ) → Option Event
event_spelled [] = None
event_spelled (word ∷ ws) = good_event (event_in word ws)

-- the event that a line says, if it does
abbrev pub event_on : List ℕ → Option Event
event_on line = if is_in_words line then event_spelled (words line) else None
