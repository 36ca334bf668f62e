use Rattle.std.proofs.Common.{inl, inr, arith}
use Rattle.spp_dag.specs.Limits.{AreSmall}
use Rattle.spp_reference.proofs.Greatest.{goes_to, goes_somewhere, next_edge, entries_fit}
use Rattle.spp_reference.proofs.walks.next.Goals as goal
use Rattle.spp_reference.proofs.walks.next.Goals.{then-le, else-le}

pub along-first-requires : goal.along-first-requires
along-first-requires c =
    let sm : AreSmall c.args.burdens = record { continuation = omega arith; join = omega arith } in
    entries_fit c.args.dag.now c.args.burdens c.end.ensures.small sm _ c.args.best.now (omega arith) c.requires.count c.requires.best

pub along-second-requires : goal.along-second-requires
along-second-requires c =
    let sm : AreSmall c.args.burdens = record { continuation = omega arith; join = omega arith } in
    entries_fit c.args.dag.now c.args.burdens c.end.ensures.small sm _ c.args.best.now (omega arith) c.requires.count c.requires.best

pub unreachable-requires : goal.unreachable-requires
unreachable-requires c =
    let k = next_edge c.args.dag.now c.args.burdens c.args.at c.args.best.now c.edges-edges.result c.along-first.result c.along-second.result c.le.result c.if-le.taken
    c.requires.within c.requires.count c.requires.best c.requires.reaches c.edges-edges.ensures.are c.edges-edges.ensures.order
    c.along-first.ensures c.along-second.ensures c.le.ensures
    (elim c.if-le.branch [ then-le w ↦ inl (w.if-le.true, w.taken-is) | else-le w ↦ inr (w.if-le.false, w.taken-is) ]) in
    goes_somewhere c.args.dag.now c.args.burdens c.args.at c.if-le.taken k c.in-None.is

pub returns : goal.returns
returns c =
    let k = next_edge c.args.dag.now c.args.burdens c.args.at c.args.best.now c.edges-edges.result c.along-first.result c.along-second.result c.le.result c.if-le.taken
    c.requires.within c.requires.count c.requires.best c.requires.reaches c.edges-edges.ensures.are c.edges-edges.ensures.order
    c.along-first.ensures c.along-second.ensures c.le.ensures
    (elim c.if-le.branch [ then-le w ↦ inl (w.if-le.true, w.taken-is) | else-le w ↦ inr (w.if-le.false, w.taken-is) ]) in
    let r = goes_to c.args.dag.now c.args.burdens c.args.at c.if-le.taken k c.in-Some.edge c.in-Some.is in
    record { onward = r.0; within = r.1; reaches = r.2; first = r.3 }
