use Rattle.std.proofs.Common.{◌≤◌, ◌<◌, ◌-◌, ℕ, length}
use Rattle.std.specs.Prelude.{slice_index_or}
use Rattle.spp_path.proofs.placing.count_to.Given as goal

abbrev pub invariant-loop-spawn : goal.invariant-loop-spawn
invariant-loop-spawn l = record {
  some : l.from ≤ l.count;
  most : l.count ≤ length l.spawns;
  lower : (i : ℕ) → l.from ≤ i → i < l.count → slice_index_or l.spawns i 0 < l.position;
}

abbrev pub decreases-loop-spawn : goal.decreases-loop-spawn
decreases-loop-spawn l = length l.spawns - l.count
