-- What the reading of a part keeps between two events.
use Rattle.std.specs.Prelude.{◌≡◌, ℕ, suc, ◌+◌, ◌≤◌, ◌<◌, Bool, true, false, List, [], ◌∷◌, length}
use Rattle.std.specs.Global.{Box}
use Rattle.spp_event.specs.declared.records.Event.{Event}
use Rattle.spp_event.specs.declared.records.Event.TheVariants.{Call, Spawn}
use Rattle.spp_event.specs.Recordings.{Recording}
use Rattle.spp_maxplus.specs.declared.state.Burdens.{Burdens}
use Rattle.spp_dag.specs.declared.stack.FrameKind.{FrameKind}
use Rattle.spp_dag.specs.declared.stack.FrameKind.TheVariants.{Root, Called, Spawned}
use Rattle.spp_ways.specs.declared.log.Merged.{Merged}
use Rattle.spp_ways.specs.declared.open_ways.OpenWays.{OpenWays}
use Rattle.spp_ways.specs.Ways.{Ways}
use Rattle.spp_ways.specs.Enclosures.{Enclosure}
use Rattle.spp_ways.specs.Stretches.{AreStretchWays}
use Rattle.spp_pass.specs.declared.calls.CallRow.{CallRow}
use Rattle.spp_pass.specs.CallFrames.{calls_so_far}
use Rattle.spp_pass.specs.CallRows.{AreLight}
use Rattle.spp_pass.specs.Passes.{Seen, Notes, seen_with}
use Rattle.spp_pass.proofs.Alone.{Alone}
use Rattle.spp_part.specs.declared.part_profile.Reading.{Reading}
use Rattle.spp_part.specs.States.{IsEventAt}
use Rattle.spp_part.specs.Parts.{StretchOf, Takes, Lead}

-- ---- a stretch

-- what these have come to
abbrev pub as_stretch : Seen → List CallRow → OpenWays → StretchOf
as_stretch a calls o = record { frames = a.frames; work = a.work; calls = calls; rows = o.log.rows.items; ways = o.frames.items }

-- where nothing encloses the stretch
abbrev pub open_air : Enclosure
open_air = record { sites = λ s. false; funcs = λ f. false; direct = true }

-- the own strands of these ways have no more instructions
abbrev pub AreOwnBelow : ℕ → List Ways → Type 0
AreOwnBelow n [] = Unit {0}
AreOwnBelow n (u ∷ us) = (u.along.own ≤ n) × (u.through.own ≤ n) × AreOwnBelow n us

abbrev pub Owned : ℕ → OpenWays → Type 0
Owned n o = (base : Box Merged) × ((on : Bool) → (us : List Ways) × AreStretchWays on open_air base o us × AreOwnBelow n us)

-- the reading of a stretch from the event at first + to on, before that at first + k
pub record IsGoing (trace : Recording) (burdens : Burdens) (first to k : ℕ) (settled : Bool) (a : Seen) (calls : List CallRow) (o : OpenWays) : Type 0 where
  pub last : Takes trace burdens first (first + to) (first + k) settled (as_stretch a calls o)
  pub since : to ≤ k
  pub alone : Alone k a
  pub deep : length a.frames ≤ suc k
  pub owned : Owned a.work o
  pub light : AreLight k calls

-- the trace, and the burdens, are within their limits
pub record InBounds (trace : Recording) (burdens : Burdens) : Type 0 where
  pub light : burdens.continuation + burdens.join ≤ 8589934592
  pub short : length trace.records ≤ 268435456
  pub sites : length trace.sites ≤ 65536
  pub funcs : length trace.funcs ≤ 65536

-- a call or a spawn
abbrev pub Opens : FrameKind → ℕ → ℕ → Event → Type 0
Opens Root site func event = ⊥
Opens Called site func event = event ≡ Call site func
Opens Spawned site func event = event ≡ Spawn site func

-- ---- a part

-- what there is before the event at first + k, where the part begins at `first`
pub record IsReading (trace : Recording) (burdens : Burdens) (first k : ℕ) (r : Reading) : Type 0 where
  pub bounds : InBounds trace burdens
  pub to : ℕ
  pub notes : Notes
  pub ended : Lead trace burdens first 0 false r.ended.items to r.settled
  pub going : IsGoing trace burdens first to k r.settled (seen_with r.counting notes) (calls_so_far r.calls) r.ways

-- and that event is this one
pub record IsAhead (trace : Recording) (burdens : Burdens) (first k : ℕ) (event : Event) (r : Reading) : Type 0 where
  pub is : IsReading trace burdens first k r
  pub within : first + k < length trace.records
  pub at : IsEventAt trace (first + k) event
