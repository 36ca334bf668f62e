-- What `compare` answers: two runs beside each other, or the line of the first fault of the first input that has one.
use Rattle.std.specs.Prelude.{◌≡◌, ◌⊎◌, ℕ, List, [], ◌∷◌, ◌++◌}
use Rattle.spp_event.specs.Recordings.{Recording}
use Rattle.spp_event.specs.Header.{IsTraceOf}
use Rattle.spp_frame.specs.Nesting.{IsWellFormed}
use Rattle.spp_maxplus.specs.declared.state.Burdens.{Burdens}
use Rattle.spp_site.specs.declared.profile.Profile.{Profile}
use Rattle.spp_site.specs.Profiles.{IsProfileOf}
use Rattle.spp_report.specs.Comparison.{Told, compare_text, told_of}
use Rattle.spp_shell.specs.Check.{TellsHeader, TellsEvent}
use Rattle.spp_shell.specs.Places.{place_words}
use Rattle.spp_shell.specs.declared.place.Place.{Place}
use Rattle.spp_shell.specs.declared.place.Place.TheVariants.{Before, After}

-- the bytes are those of a well-formed trace
abbrev pub IsGoodTrace : List ℕ → Type 0
IsGoodTrace bytes = (t : Recording) × IsTraceOf bytes t × IsWellFormed t.records

-- the bytes are those of a trace, and this is what is compared of its run
abbrev pub IsToldOf : Burdens → List ℕ → Told → Type 0
IsToldOf burdens bytes told =
    (t : Recording) × (p : Profile) × IsTraceOf bytes t × IsProfileOf t burdens p × (told ≡ told_of t p)

-- the bytes are refused, and the line tells their first fault
abbrev pub TellsFault : List ℕ → List ℕ → Type 0
TellsFault bytes line = TellsHeader bytes line ⊎ TellsEvent bytes line

-- the same, with the words before it that name the input
abbrev pub TellsFaultAt : Place → List ℕ → List ℕ → Type 0
TellsFaultAt place bytes line = (told : List ℕ) × TellsFault bytes told × (line ≡ place_words place ++ told)

-- the text for two inputs
abbrev pub IsCompareText : Burdens → List (List ℕ) → List ℕ → Type 0
IsCompareText burdens inputs text =
    (before after : List ℕ) × (b a : Told) × (inputs ≡ before ∷ after ∷ []) × IsToldOf burdens before b × IsToldOf burdens after a × (text ≡ compare_text b a)

-- the line for inputs that are refused: the first is bad, and the second wasn't read; or the first is good, and the second
-- is bad
abbrev pub IsCompareLine : List (List ℕ) → List ℕ → Type 0
IsCompareLine inputs line =
    ((before : List ℕ) × (inputs ≡ before ∷ []) × TellsFaultAt Before before line)
    ⊎ ((before after : List ℕ) × (inputs ≡ before ∷ after ∷ []) × IsGoodTrace before × TellsFaultAt After after line)
