use Rattle.std.proofs.Common.{◌≡◌, ℕ, ◌-◌, ◌≤◌, List, ◌∷◌, ◌++◌, length}
use Rattle.spp_dag.specs.Dag.{IsPath}
use Rattle.spp_reference.specs.Walks.{Reaches}
use Rattle.spp_reference.proofs.walks.path.Given as goal

-- what is found is the path up to here
abbrev pub invariant-loop-at : goal.invariant-loop-at
invariant-loop-at l = record {
  within : l.at ≤ length l.dag;
  reaches : Reaches l.dag l.burdens l.at (length l.dag);
  leads : (found : List ℕ) × (l.path.items ≡ 0 ∷ found)
      × ((rest : List ℕ) → IsPath l.dag l.burdens l.at (length l.dag) rest → IsPath l.dag l.burdens 0 (length l.dag) (found ++ rest));
}

abbrev pub decreases-loop-at : goal.decreases-loop-at
decreases-loop-at l = l.end - l.at
