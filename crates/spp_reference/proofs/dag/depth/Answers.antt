use Rattle.std.proofs.Common.{◌∙◌, arith}
use Rattle.std.proofs.lemmas.List.{length-take}
use Rattle.spp_reference.proofs.Frames.{depth_found}
use Rattle.spp_reference.proofs.dag.depth.Goals as goal

pub returns : goal.returns
returns c =
    let h = c.loop-event.invariant in
    let e = length-take c.args.i c.args.events.now in
    c.saturating_sub.ensures ∙ depth_found c.args.events.now c.args.i c.loop-event.event-index _ _ (omega arith) h.opened h.closed
