use Rattle.spp_dag.specs.Trace.{owner}
use Rattle.spp_reference.specs.Dags.{Lists}
use Rattle.spp_reference.proofs.dag.owners.Given as goal

abbrev pub invariant-loop-at : goal.invariant-loop-at
invariant-loop-at l = Lists l.at (owner l.events) l.frames.items
