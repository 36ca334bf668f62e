-- What `check` answers: the work of the trace that the input is, or the line of its first fault.
use Rattle.std.specs.Prelude.{◌≡◌, ◌⊎◌, ℕ, Result, List, [], ◌∷◌, ◌++◌, codes, decimal}
use Rattle.spp_event.specs.declared.header.HeaderFault.{HeaderFault}
use Rattle.spp_event.specs.declared.records.Event.{Event}
use Rattle.spp_event.specs.declared.records.EventFault.{EventFault}
use Rattle.spp_event.specs.Recordings.{Recording}
use Rattle.spp_event.specs.Header.{IsTraceOf, IsHeaderFault}
use Rattle.spp_event.specs.Texts.{header_fault_text}
use Rattle.spp_frame.specs.declared.Fault.{Fault}
use Rattle.spp_frame.specs.Nesting.{IsWellFormed, IsFirstBad, work}
use Rattle.spp_frame.specs.Texts.{fault_text}
use Rattle.spp_report.specs.Figures.{line}

abbrev pub work_text : ℕ → List ℕ
work_text n = line (codes "work " ++ decimal n)

abbrev pub header_line : HeaderFault → List ℕ
header_line fault = line (codes "bad header: " ++ header_fault_text fault)

abbrev pub event_line : Fault → List ℕ
event_line fault = line (codes "bad event " ++ fault_text fault)

-- the bytes are those of a well-formed trace, and the text tells its work
abbrev pub TellsWork : List ℕ → List ℕ → Type 0
TellsWork bytes text =
    (t : Recording) × IsTraceOf bytes t × IsWellFormed t.records × (text ≡ work_text (work t.records))

-- the bytes open as no trace, and the line tells the fault that they have first
abbrev pub TellsHeader : List ℕ → List ℕ → Type 0
TellsHeader bytes told = (fault : HeaderFault) × IsHeaderFault bytes fault × (told ≡ header_line fault)

-- the line tells the first bad event
abbrev pub IsFirstBadLine : List (Result Event EventFault) → List ℕ → Type 0
IsFirstBadLine records told = (fault : Fault) × IsFirstBad records fault × (told ≡ event_line fault)

-- the bytes are those of a trace that has a bad event, and the line tells the first
abbrev pub TellsEvent : List ℕ → List ℕ → Type 0
TellsEvent bytes told = (t : Recording) × IsTraceOf bytes t × IsFirstBadLine t.records told

-- the text for one input
abbrev pub IsCheckText : List (List ℕ) → List ℕ → Type 0
IsCheckText inputs text = (bytes : List ℕ) × (inputs ≡ bytes ∷ []) × TellsWork bytes text

-- the line for one input that is refused
abbrev pub IsCheckLine : List (List ℕ) → List ℕ → Type 0
IsCheckLine inputs told = (bytes : List ℕ) × (inputs ≡ bytes ∷ []) × (TellsHeader bytes told ⊎ TellsEvent bytes told)

-- the line for these bytes alone
abbrev pub IsOneCheckLine : List ℕ → List ℕ → Type 0
IsOneCheckLine bytes told = IsCheckLine (bytes ∷ []) told
