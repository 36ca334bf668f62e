use Rattle.std.proofs.Common.{◌≡◌, ◌&&◌, get_or}
use Rattle.spp_dag.specs.Trace.{owner}
use Rattle.spp_dag.specs.Rows.{is_of}
use Rattle.spp_reference.specs.Places.{holds}
use Rattle.spp_reference.specs.Sums.{row_below}
use Rattle.spp_reference.proofs.rows.row.Given as goal

abbrev pub invariant-loop-at : goal.invariant-loop-at
invariant-loop-at l =
    l.row ≡ row_below l.dag l.root (λ f. get_or l.spans f 0) (λ f. holds l.places f && is_of l.dag l.site f) (λ k. holds l.places k && is_of l.dag l.site (owner l.dag k)) l.at
