-- What an event makes of what the pass that sums up the rows of a path has.
use Rattle.std.proofs.Common.{◌≡◌, ℕ, ◌<◌, ◌&&◌, Bool, true, false, nat_eq, List, ◌∷◌}
use Rattle.spp_dag.specs.declared.stack.FrameKind.TheVariants.{Called, Spawned}
use Rattle.spp_path.specs.declared.rows.EnteredFrame.{EnteredFrame}
use Rattle.spp_path.specs.Trails.{runs}
use Rattle.spp_path.specs.Rows.{Told, strand_told, beside_told, enter_told, skip_told, onward_told, leave_told, IsReturned}

-- a strand
abbrev pub StrandDone : ℕ → Told → Told → Type 0
StrandDone n old new = (runs old.trail ≡ true → new ≡ strand_told n old) × (runs old.trail ≡ false → new ≡ beside_told n old)

-- a sync
abbrev pub SyncDone : Told → Told → Type 0
SyncDone old new = (old.trail.skipped ≡ 0 → new ≡ onward_told true old) × (0 < old.trail.skipped → new ≡ old)

-- a call
abbrev pub CallDone : ℕ → ℕ → Told → Told → Type 0
CallDone site func old new = (runs old.trail ≡ true → new ≡ enter_told Called site func old) × (runs old.trail ≡ false → new ≡ skip_told old)

-- a spawn of a child that the path enters, or doesn't
abbrev pub SpawnDone : Bool → ℕ → ℕ → Told → Told → Type 0
SpawnDone enters site func old new =
    ((nat_eq old.trail.skipped 0 && enters) ≡ true → new ≡ enter_told Spawned site func (onward_told true old)) × ((nat_eq old.trail.skipped 0 && enters) ≡ false → new ≡ skip_told old)

-- a return, where f is the innermost entered frame
abbrev pub ReturnDone : EnteredFrame → ℕ → Told → Told → Type 0
ReturnDone f span old new = (old.trail.skipped ≡ 0 → IsReturned f span old new) × (0 < old.trail.skipped → new ≡ leave_told old)

-- f is the innermost entered frame
abbrev pub HasFirst : EnteredFrame → Told → Type 0
HasFirst f t = (fs : List EnteredFrame) × (t.frames ≡ f ∷ fs)
