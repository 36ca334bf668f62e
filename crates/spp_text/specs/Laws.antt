-- The laws of texts.
use Rattle.std.specs.Prelude.{◌≡◌, ◌↔◌, ◌⊎◌, ℕ, suc, ◌<◌, min, List, [], length, take, map, filter_map, slice_index_or, option_to_list, Some, Ok, Err}
use Rattle.std.specs.List.{AllByRecursion}
use Rattle.std.specs.Str.Lines.{lines}
use Rattle.spp_event.specs.declared.records.Event.{Event}
use Rattle.spp_event.specs.Records.{IsEventOf}
use Rattle.spp_event.specs.Recordings.{Recording, InLimits}
use Rattle.spp_event.specs.Header.{HasGoodNames}
use Rattle.spp_text.specs.declared.fault.TextWhy.{TextWhy}
use Rattle.spp_text.specs.declared.fault.TextFault.{TextFault}
use Rattle.spp_text.specs.Text.{text_of}
use Rattle.spp_text.specs.Reading.{Said, nothing, read_line, read_text, opening_fault}
use Rattle.spp_text.specs.LineKinds.{func_on, site_on, root_on, event_on}
use Rattle.spp_text.specs.LineFaults.{IsOpeningFault, IsLineFault}
use Rattle.spp_text.specs.Parsed.{Names, SaysSoFar}

-- the text of a trace names that trace
abbrev pub TextNamesTrace : Type 0
TextNamesTrace = (t : Recording) (es : List Event) → InLimits t → HasGoodNames t → t.records ≡ map (λ e. Ok e) es
    → AllByRecursion (IsEventOf (length t.sites) (length t.funcs)) es → Names (text_of t es) t

-- what a text says is what its lines say, each by itself, in their order
abbrev pub TextIsItsLines : Type 0
TextIsItsLines = (text : List ℕ) (s : Said) → read_text text ≡ Ok s
    → (s.funcs ≡ filter_map func_on (lines text)) × (s.sites ≡ filter_map site_on (lines text))
    × (option_to_list s.root ≡ filter_map root_on (lines text)) × (s.events ≡ filter_map event_on (lines text))

-- the first n lines have said s, and the next has this fault; or there is no next, and the end has it
abbrev pub FaultIsNext : List (List ℕ) → ℕ → Said → TextWhy → Type 0
FaultIsNext ls n s why = ((n < length ls) × (read_line s (slice_index_or ls n []) ≡ Err why)) ⊎ ((n ≡ length ls) × (opening_fault s ≡ Some why))

-- a text's fault is that of the line, or of the end, up to which all are read without one; it is told by the line's
-- number, from 1, or by the greatest of 32 bits where the number is past that
abbrev pub FaultIsOnItsLine : Type 0
FaultIsOnItsLine = (text : List ℕ) (fault : TextFault) → (read_text text ≡ Err fault)
    ↔ ((n : ℕ) × (s : Said) × SaysSoFar nothing (take n (lines text)) s × FaultIsNext (lines text) n s fault.why × (fault.line ≡ min (suc n) 4294967295))

-- a line is refused with the fault that it has
abbrev pub LineFaultIsTold : Type 0
LineFaultIsTold = (s : Said) (line : List ℕ) (why : TextWhy) → (read_line s line ≡ Err why) ↔ IsLineFault s line why

-- and so is the end of a text
abbrev pub EndFaultIsTold : Type 0
EndFaultIsTold = (s : Said) (why : TextWhy) → (opening_fault s ≡ Some why) ↔ IsOpeningFault s why
