-- What `migrate` answers: the trace that the input is, written in version 2, or the line of its first fault.
use Rattle.std.specs.Prelude.{◌≡◌, ◌⊎◌, ℕ, List, [], ◌∷◌, length}
use Rattle.spp_event.specs.declared.records.EventFault.{EventFault}
use Rattle.spp_event.specs.declared.migrating.MigrateFault.TheVariants.{Bad}
use Rattle.spp_event.specs.Header.{IsTraceOf}
use Rattle.spp_event.specs.Migrating.{AreGoodTo, IsMigrateFault, compact}
use Rattle.spp_event.specs.Recordings.{Recording}
use Rattle.spp_frame.specs.declared.Why.TheVariants as why
use Rattle.spp_shell.specs.Check.{TellsHeader, event_line}

-- the bytes are those of a trace without a bad record, and the text is that of the same trace in version 2
abbrev pub IsMigrated : List ℕ → List ℕ → Type 0
IsMigrated bytes text = (t : Recording) × IsTraceOf bytes t × AreGoodTo t.records (length t.records) × IsTraceOf text (compact t)

-- the line for a record that spells no event
abbrev pub record_line : ℕ → EventFault → List ℕ
record_line at fault = event_line (record { at = at; why = why.Event fault })

-- the bytes are those of a trace with a bad record, and the line tells the first
abbrev pub TellsRecord : List ℕ → List ℕ → Type 0
TellsRecord bytes told =
    (t : Recording) × IsTraceOf bytes t × ((at : ℕ) × (fault : EventFault) × IsMigrateFault t.records (Bad at fault) × (told ≡ record_line at fault))

-- the text for one input
abbrev pub IsMigrateText : List (List ℕ) → List ℕ → Type 0
IsMigrateText inputs text = (bytes : List ℕ) × (inputs ≡ bytes ∷ []) × IsMigrated bytes text

-- the line for one input that is refused
abbrev pub IsMigrateLine : List (List ℕ) → List ℕ → Type 0
IsMigrateLine inputs told = (bytes : List ℕ) × (inputs ≡ bytes ∷ []) × (TellsHeader bytes told ⊎ TellsRecord bytes told)

-- the line for these bytes alone
abbrev pub IsOneMigrateLine : List ℕ → List ℕ → Type 0
IsOneMigrateLine bytes told = IsMigrateLine (bytes ∷ []) told
