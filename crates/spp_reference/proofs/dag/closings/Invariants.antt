use Rattle.std.proofs.Common.{suc}
use Rattle.spp_dag.specs.Trace.{closing}
use Rattle.spp_reference.specs.Dags.{Lists}
use Rattle.spp_reference.proofs.dag.closings.Given as goal

abbrev pub invariant-loop-at : goal.invariant-loop-at
invariant-loop-at l = Lists (suc l.at) (closing l.events) l.ends.items
