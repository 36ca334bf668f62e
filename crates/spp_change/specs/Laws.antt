-- What a changed run keeps.
use Rattle.std.specs.Prelude.{◌≡◌, ℕ, ◌↔◌, List, length, slice_get, Some, Ok}
use Rattle.spp_event.specs.declared.records.Event.{Event}
use Rattle.spp_event.specs.Recordings.{Record}
use Rattle.spp_frame.specs.declared.Fault.{Fault}
use Rattle.spp_frame.specs.Nesting.{work, IsWellFormed, IsFirstBad}
use Rattle.spp_dag.specs.Trace.{records, event_at, owner}
use Rattle.spp_dag.specs.Rows.{entered_by}
use Rattle.spp_change.specs.declared.change.Change.{Change}
use Rattle.spp_change.specs.declared.change.Change.TheVariants.{Called, Spawned}
use Rattle.spp_change.specs.Changed.{changed_event, changed}

-- at each position of a well-formed run stands the event that is there, changed by the site which entered the frame that
-- directly holds the position
abbrev pub ChangedByOwner : Type 0
ChangedByOwner = (change : Change) (es : List Event) → IsWellFormed (records es) → (i : ℕ) (e : Event) → event_at es i ≡ Some e
    → slice_get (changed change (records es)) i ≡ Some (Ok (changed_event change (entered_by es (owner es i)) e))

-- it has as many records
abbrev pub ChangedIsAsLong : Type 0
ChangedIsAsLong = (change : Change) (rs : List Record) → length (changed change rs) ≡ length rs

-- it is well-formed where the run is
abbrev pub ChangedIsWellFormed : Type 0
ChangedIsWellFormed = (change : Change) (rs : List Record) → IsWellFormed rs → IsWellFormed (changed change rs)

-- and else it has the same first bad event
abbrev pub ChangedKeepsFault : Type 0
ChangedKeepsFault = (change : Change) (rs : List Record) (f : Fault) → IsFirstBad (changed change rs) f ↔ IsFirstBad rs f

-- a call in place of a spawn, or a spawn in place of a call, takes no work away and adds none
abbrev pub CalledKeepsWork : Type 0
CalledKeepsWork = (site : ℕ) (rs : List Record) → work (changed (Called site) rs) ≡ work rs

abbrev pub SpawnedKeepsWork : Type 0
SpawnedKeepsWork = (site : ℕ) (rs : List Record) → work (changed (Spawned site) rs) ≡ work rs
