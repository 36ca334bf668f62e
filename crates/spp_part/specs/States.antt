-- What the reading of a run has before each event: what is counted of it, and the ways into its open frames on both paths.
use Rattle.std.specs.Prelude.{◌≡◌, ℕ, zero, suc, Bool, true, List, [], ◌∷◌, length, Ok, Some}
use Rattle.spp_event.specs.declared.records.Event.{Event}
use Rattle.spp_event.specs.declared.records.Event.TheVariants.{Strand, Call, Spawn, Ret, Sync}
use Rattle.spp_event.specs.Records.{IsEventOf}
use Rattle.spp_event.specs.Recordings.{Recording, record_at}
use Rattle.spp_maxplus.specs.declared.state.Burdens.{Burdens}
use Rattle.spp_dag.specs.declared.stack.FrameKind.TheVariants.{Called, Spawned}
use Rattle.spp_ways.specs.declared.open_ways.OnPaths.{OnPaths}
use Rattle.spp_ways.specs.Ways.{Ways, no_ways}
use Rattle.spp_ways.specs.OpenWays.{on_path, bare_row, strand_list, waited_list, returned_list}
use Rattle.spp_pass.specs.declared.counting.Closing.{Closing}
use Rattle.spp_pass.specs.Passes.{Seen, start_seen, strand_seen, open_seen, sync_seen, Returns, IsClosing, AreTakes}

-- the ways into the open frames, on the path without burdens (false) and on that under them
abbrev pub Both : Type 0
Both = Bool → List Ways

-- what the event at i makes of it
abbrev pub Goes : Burdens → ℕ → Event → Seen → Both → Seen → Both → Type 0
Goes burdens i (Strand count) s ways new then = (new ≡ strand_seen count s) × ((on : Bool) → then on ≡ strand_list count (ways on))
Goes burdens i (Call site func) s ways new then = (new ≡ open_seen Called i site func s) × ((on : Bool) → then on ≡ no_ways ∷ ways on)
Goes burdens i (Spawn site func) s ways new then = (new ≡ open_seen Spawned i site func s) × ((on : Bool) → then on ≡ no_ways ∷ ways on)
Goes burdens i Ret s ways new then = (closing : Closing) × Returns burdens i s s.frames true new × IsClosing burdens s.work s.frames (Some closing)
    × ((on : Bool) → then on ≡ returned_list closing.kind (on_path on closing.takes) (on_path on closing.wins) closing.site (bare_row closing.closed) (ways on))
Goes burdens i Sync s ways new then = (answer : OnPaths) × (new ≡ sync_seen i s) × AreTakes answer s.frames × ((on : Bool) → then on ≡ waited_list (on_path on answer) (ways on))

-- the event at a position
abbrev pub IsEventAt : Recording → ℕ → Event → Type 0
IsEventAt trace i e = (record_at trace.records i ≡ Ok e) × IsEventOf (length trace.sites) (length trace.funcs) e

-- what there is before the event at i
abbrev pub IsAt : Recording → Burdens → ℕ → Seen → Both → Type 0
IsAt trace burdens zero s ways = (s ≡ start_seen trace.root) × ((on : Bool) → ways on ≡ no_ways ∷ [])
IsAt trace burdens (suc i) s ways = (e : Event) × IsEventAt trace i e × ((old : Seen) × (before : Both) × IsAt trace burdens i old before × Goes burdens i e old before s ways)
