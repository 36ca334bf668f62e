-- What the steps of the code answer.
use Rattle.std.specs.Prelude.{◌≡◌, ℕ, true, false, List, length, drop, Option, Some, None, Result, Ok, Err}
use Rattle.spp_event.specs.declared.records.Event.{Event}
use Rattle.spp_text.specs.Reading.{begins_with}
use denote.Ref.{Bor}
use Rattle.spp_text.specs.declared.fault.TextWhy.{TextWhy}

-- the event that opens a frame at that site, of that function
abbrev pub spelled : (ℕ → ℕ → Event) → Result (ℕ × ℕ) TextWhy → Result Event TextWhy
spelled event (Ok p) = Ok (event p.0 p.1)
spelled event (Err why) = Err why

-- what follows the front of a line, where it begins with that
abbrev pub AfterFront : List ℕ → List ℕ → Option (Bor (List ℕ)) → Type 0
AfterFront front line None = begins_with front line ≡ false
AfterFront front line (Some rest) = (begins_with front line ≡ true) × (rest.now ≡ drop (length front) line)
