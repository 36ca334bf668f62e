use Rattle.spp_dag.specs.Rows.{contains}
use Rattle.spp_reference.specs.Dags.{Lists}
use Rattle.spp_reference.proofs.answers.marks.Given as goal

abbrev pub invariant-loop-at : goal.invariant-loop-at
invariant-loop-at l = Lists l.at (contains l.path) l.marks.items
