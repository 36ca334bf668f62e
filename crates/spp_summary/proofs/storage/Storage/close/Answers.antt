use Rattle.std.proofs.Common.{◌-◌, reverse, ap, ◌∙◌, arith}
use Rattle.spp_piece.specs.Bound.{load}
use Rattle.spp_summary.specs.Storage.{with_work}
use Rattle.spp_piece.specs.Summary.{summary_ops}
use Rattle.spp_summary.specs.KeptFrames.{told}
use Rattle.spp_summary.proofs.Going.{child_returned, child_load}
use Rattle.spp_summary.proofs.storage.Storage.close.Goals as goal

pub returns-clause-value : goal.returns-clause-value
returns-clause-value c at work =
    let p = c.args.self.now in
    let k = c.args.child.now in
    let os = reverse p.opens.items in
    let ss = reverse p.states.items in
    ap (λ ks. (summary_ops c.args.burdens).along c.feed.new.pending (with_work work (told p.returns.items p.middle p.since os ks k.gap (p.before - k.gap) p.fault))) c.feed.ensures.states
    ∙ child_returned c.args.burdens p.returns.items p.middle p.since p.run p.before k os ss p.fault c.args.pending.now c.feed.new.pending at work c.requires.sound (c.feed.ensures.value p.before)

pub returns-clause-load : goal.returns-clause-load
returns-clause-load c =
    let p = c.args.self.now in
    let k = c.args.child.now in
    let os = reverse p.opens.items in
    let ss = reverse p.states.items in
    let m = ap (λ ks. load c.args.burdens (told p.returns.items p.middle p.since os ks k.gap (p.before - k.gap) p.fault)) c.feed.ensures.states in
    omega (arith, m, child_load c.args.burdens p.returns.items p.middle p.since p.run p.before k os ss p.fault c.args.pending.now c.feed.new.pending (c.feed.ensures.value p.before))
