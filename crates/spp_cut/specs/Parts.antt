-- A part of a trace, and the parts of a cut.
use Rattle.std.specs.Prelude.{◌≡◌, ℕ, suc, ◌+◌, ◌<◌, ◌≤◌, List, [], ◌∷◌, length, take, drop}
use Rattle.std.specs.List.{sum_by}
use Rattle.spp_event.specs.Recordings.{Record, Recording}

-- `count` events of a trace, from position `first` on; `number` parts come before this one
pub record PartOf : Type 0 where
  pub trace : Recording
  pub number : ℕ
  pub first : ℕ
  pub count : ℕ

abbrev pub part_of : Recording → ℕ → ℕ → ℕ → PartOf
part_of t number first count = record { trace = t; number = number; first = first; count = count }

-- how many events these parts have
abbrev pub events_in : List PartOf → ℕ
events_in ps = sum_by (λ p. p.count) ps

-- its records
abbrev pub records_in : PartOf → List Record
records_in p = take p.count (drop p.first p.trace.records)

-- These parts of the trace, numbered from `number` on, hold the events from position `from` on up to `end`, in order
-- and each once.
abbrev pub Cover : Recording → ℕ → ℕ → List PartOf → ℕ → Type 0
Cover t number from [] end = from ≡ end
Cover t number from (p ∷ ps) end =
    (p.trace ≡ t) × (p.number ≡ number) × (p.first ≡ from) × Cover t (suc number) (from + p.count) ps end

-- a trace, and parts of it
pub record CutOf : Type 0 where
  pub trace : Recording
  pub parts : List PartOf

-- the parts hold all events of the trace, in order and each once
abbrev pub IsCut : CutOf → Type 0
IsCut c = Cover c.trace 0 0 c.parts (length c.trace.records)

-- there is a part, and there are no more than 65,536
abbrev pub HasFewParts : CutOf → Type 0
HasFewParts c = (0 < length c.parts) × (length c.parts ≤ 65536)
