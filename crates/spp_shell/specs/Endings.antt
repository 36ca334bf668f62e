-- What a run may end with, by its status.
use Rattle.std.specs.Prelude.{◌≡◌, ℕ, ◌⊎◌, Bool, List}
use Rattle.std.specs.String.{string_bytes}
use Rattle.spp_request.specs.declared.advise_options.AdviseOptions.{AdviseOptions}
use Rattle.spp_request.specs.declared.request.Request.{Request}
use Rattle.spp_shell.specs.declared.place.Place.{Place}
use Rattle.spp_shell.specs.declared.place.Place.TheVariants.{Only}
use Rattle.spp_shell.specs.declared.refusal.Refusal.{Refusal}
use Rattle.spp_shell.specs.declared.refusal.Refusal.TheVariants as refusal
use Rattle.spp_shell.specs.declared.trouble.Trouble.{Trouble}
use Rattle.spp_shell.specs.declared.trouble.Trouble.TheVariants.{CannotWrite, NoMemory}
use Rattle.spp_maxplus.specs.declared.state.Burdens.{Burdens}
use Rattle.spp_shell.specs.Advise.{IsAdviseLine, IsAdviseText}
use Rattle.spp_shell.specs.Devices.{Taking, Devices, TookWhole, TookPart, Told, WasRead}
use Rattle.spp_shell.specs.Inputs.{IsLineOf, IsUnread, StayedWithin, first_place}
use Rattle.spp_shell.specs.Requests.{text_for, line_for}
use Rattle.spp_shell.specs.Troubles.{trouble_line, trouble_status}

-- A text is written to an output: the output takes it whole without a failure and nothing is told, or it fails, which is
-- told to the device for faults.
module _ (out err : Taking) (text : List ℕ) where
  abbrev pub WritesWell : Type 0
  WritesWell = TookWhole out text × err.Untouched

  abbrev pub WritesPart : Type 0
  WritesPart = TookPart out text × Told err (trouble_line CannotWrite)

  abbrev pub WritingEnds : ℕ → Type 0
  WritingEnds status = ((status ≡ 0) × WritesWell) ⊎ ((status ≡ 3) × WritesPart)

-- a run without an answer ends with this status, by why there is none
module _ (out err : Taking) where
  abbrev pub EndsRefused : Refusal → ℕ → Type 0
  EndsRefused (refusal.Line told) status = (status ≡ 1) × out.Untouched × Told err (string_bytes told)
  EndsRefused (refusal.Unread trouble) status = (status ≡ trouble_status trouble) × out.Untouched × Told err (trouble_line trouble)
  EndsRefused refusal.Memory status = (status ≡ 4) × out.Untouched × Told err (trouble_line NoMemory)

-- A run over inputs of which a line of fault names the first as `first`. For the bytes of inputs the definitions give the
-- text of the answer, TextFor, or the line of fault, LineFor.
module _ (TextFor LineFor : List (List ℕ) → List ℕ → Type 0) (first : Place) (d : Devices) where
  -- the output took exactly the text for the bytes read
  abbrev pub AnswersWell : Type 0
  AnswersWell = (inputs : List (List ℕ)) × (text : List ℕ) × WasRead d.inputs inputs × TextFor inputs text × WritesWell d.out d.err text

  -- the definitions refuse the bytes read, or those that came whatever could follow them, and the line is theirs
  abbrev pub RefusesInput : Type 0
  RefusesInput = (fault : List ℕ) × IsLineOf d.inputs LineFor fault × d.out.Untouched × Told d.err fault

  -- the text for the bytes read could not be written whole
  abbrev pub OutputFails : Type 0
  OutputFails = (inputs : List (List ℕ)) × (text : List ℕ) × WasRead d.inputs inputs × TextFor inputs text × WritesPart d.out d.err text

  -- an input could not be read whole
  abbrev pub InputFails : Type 0
  InputFails = (trouble : Trouble) × IsUnread d.inputs first trouble × d.out.Untouched × Told d.err (trouble_line trouble)

  -- memory is told as wanting; what was read stayed within the bounds, to the end of the inputs or not
  abbrev pub MemoryFails : Type 0
  MemoryFails = StayedWithin d.inputs first × d.out.Untouched × Told d.err (trouble_line NoMemory)

  -- what goes with each status
  pub record EndsBy (status : ℕ) : Type 0 where
    pub known : (status ≡ 0) ⊎ (status ≡ 1) ⊎ (status ≡ 3) ⊎ (status ≡ 4)
    pub good : status ≡ 0 → AnswersWell
    pub bad_input : status ≡ 1 → RefusesInput
    pub device : status ≡ 3 → OutputFails ⊎ InputFails
    pub memory : status ≡ 4 → MemoryFails

-- how the run of a request ends
abbrev pub RunEnds : Devices → Request → ℕ → Type 0
RunEnds d request = EndsBy (text_for request.command request.burdens request.csv) (line_for request.command) (first_place request.command) d

-- how a run of `advise` ends
abbrev pub AdviseEnds : Devices → Burdens → Bool → AdviseOptions → ℕ → Type 0
AdviseEnds d burdens csv options = EndsBy (IsAdviseText burdens csv options) (IsAdviseLine options) Only d
