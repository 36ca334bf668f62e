use Rattle.std.proofs.Common.{ℕ, Some, get_or, subst, sym}
use Rattle.spp_dag.specs.declared.row.Row.{Row}
use Rattle.spp_dag.specs.Rows.{row}
use Rattle.spp_reference.specs.Dags.{Lists}
use Rattle.spp_reference.specs.Places.{holds}
use Rattle.spp_reference.proofs.Lists.{lists_more}
use Rattle.spp_reference.proofs.answers.rows_of.Goals as goal

pub loop-site-preserved : goal.loop-site-preserved
loop-site-preserved c =
    let f : ℕ → Row = λ site. row c.args.dag.now c.args.root (λ k. get_or c.args.spans.now k 0) (holds c.args.places) (Some site) in
    subst (Lists _ f) (sym c.in_ok-push.ensures.items)
    (lists_more c.loop-site.site f c.loop-site.rows.items c.row.result c.loop-site.invariant c.row.ensures)
