-- Which inputs of a run were read, and what is told where one could not be.
use Rattle.std.specs.Prelude.{◌≡◌, ◌⊎◌, ℕ, List, [], ◌∷◌, ◌++◌}
use Rattle.std.specs.String.{string_bytes}
use Rattle.spp_shell.specs.Compare.{IsGoodTrace}
use Rattle.spp_shell.specs.Devices.{Giving, Inputs, WasBegun, WasRead}
use Rattle.spp_shell.specs.declared.place.Place.{Place}
use Rattle.spp_shell.specs.declared.place.Place.TheVariants.{Only, Before, After}
use Rattle.spp_shell.specs.declared.reading.ReadFault.{ReadFault}
use Rattle.spp_shell.specs.declared.reading.ReadFault.TheVariants.{Device, TooLong, Memory}
use Rattle.spp_shell.specs.declared.refusal.Refusal.{Refusal}
use Rattle.spp_shell.specs.declared.refusal.Refusal.TheVariants as refusal
use Rattle.spp_shell.specs.declared.trouble.Trouble.{Trouble}
use Rattle.spp_shell.specs.declared.trouble.Trouble.TheVariants as trouble
use Rattle.spp_request.specs.declared.request.Command.{Command}
use Rattle.spp_request.specs.declared.request.Command.TheVariants.{Compare}

-- how a line of fault names the first input
abbrev pub first_place : Command → Place
first_place Compare = Before
first_place _ = Only

-- the trouble of an input that could not be read whole, for another reason than memory
abbrev pub IsTroubleOf : Place → ReadFault → Trouble → Type 0
IsTroubleOf place Device told = told ≡ trouble.CannotRead place
IsTroubleOf place TooLong told = told ≡ trouble.TooLong place
IsTroubleOf place Memory told = ⊥

-- what a run is refused with whose input could not be read whole
abbrev pub TellsRead : Place → ReadFault → Refusal → Type 0
TellsRead place Memory told = told ≡ refusal.Memory
TellsRead place fault told = (trouble : Trouble) × (told ≡ refusal.Unread trouble) × IsTroubleOf place fault trouble

-- the line is foreseen: the input began with bytes that have it whatever follows them, and no more was read
abbrev pub IsForeseen : Giving → (List ℕ → List ℕ → Type 0) → List ℕ → Type 0
IsForeseen input LineFor told = (front : List ℕ) × input.Began front × ((more : List ℕ) → LineFor (front ++ more) told)

-- the line is that for the bytes of the input, which was read whole, or it is foreseen
abbrev pub IsLineOfInput : Giving → (List ℕ → List ℕ → Type 0) → List ℕ → Type 0
IsLineOfInput input LineFor told = ((bytes : List ℕ) × input.Gave bytes × LineFor bytes told) ⊎ IsForeseen input LineFor told

-- the line is that for the bytes of the inputs that were read, or it is foreseen: the last of them began with bytes that have
-- it whatever follows them
abbrev pub IsLineOf : Inputs → (List (List ℕ) → List ℕ → Type 0) → List ℕ → Type 0
IsLineOf d LineFor told =
    ((inputs : List (List ℕ)) × WasRead d inputs × LineFor inputs told)
    ⊎ ((whole : List (List ℕ)) × (front : List ℕ) × WasBegun d whole front × ((more : List ℕ) → LineFor (whole ++ (front ++ more) ∷ []) told))

-- why one input has no answer, where LineFor gives the lines of fault for bytes that are refused
abbrev pub IsInputRefused : Giving → Place → (List ℕ → List ℕ → Type 0) → Refusal → Type 0
IsInputRefused input place LineFor (refusal.Line told) = IsLineOfInput input LineFor (string_bytes told)
IsInputRefused input place LineFor (refusal.Unread told) = (fault : ReadFault) × IsTroubleOf place fault told × input.Refused fault
IsInputRefused input place LineFor refusal.Memory = input.Within

-- no bytes are refused
abbrev pub NoLine : List ℕ → List ℕ → Type 0
NoLine bytes line = ⊥

-- `compare` alone reads its second input, whose first is the run before, and only where the first is good
module _ (d : Inputs) (first : Place) where
  -- there is a second input to read: the first gave these bytes, and they are a good trace
  abbrev pub FirstIsGood : Type 0
  FirstIsGood = (first ≡ Before) × ((bytes : List ℕ) × d.first.Gave bytes × IsGoodTrace bytes)

  -- an input could not be read whole, and this is why
  abbrev pub IsUnread : Trouble → Type 0
  IsUnread told =
      ((fault : ReadFault) × IsTroubleOf first fault told × d.first.Refused fault × d.second.Untouched)
      ⊎ ((fault : ReadFault) × IsTroubleOf After fault told × FirstIsGood × d.second.Refused fault)

  -- what was read stayed within the bounds
  abbrev pub StayedWithin : Type 0
  StayedWithin = (d.first.Within × d.second.Untouched) ⊎ (FirstIsGood × d.second.Within)

  -- why there is no answer, where LineFor gives the lines of fault for bytes that are refused
  abbrev pub IsRefusedBy : (List (List ℕ) → List ℕ → Type 0) → Refusal → Type 0
  IsRefusedBy LineFor (refusal.Line told) = IsLineOf d LineFor (string_bytes told)
  IsRefusedBy LineFor (refusal.Unread told) = IsUnread told
  IsRefusedBy LineFor refusal.Memory = StayedWithin
