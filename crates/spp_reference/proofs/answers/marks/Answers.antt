use Rattle.std.proofs.Common.{subst, sym}
use Rattle.spp_dag.specs.Rows.{contains}
use Rattle.spp_reference.specs.Dags.{Lists}
use Rattle.spp_reference.proofs.Lists.{lists_more}
use Rattle.spp_reference.proofs.answers.marks.Goals as goal

pub loop-at-preserved : goal.loop-at-preserved
loop-at-preserved c =
    subst (Lists _ (contains c.args.path.now)) (sym c.in_ok-push.ensures.items)
    (lists_more c.loop-at.at (contains c.args.path.now) c.loop-at.marks.items c.is_in.result c.loop-at.invariant c.is_in.ensures)
