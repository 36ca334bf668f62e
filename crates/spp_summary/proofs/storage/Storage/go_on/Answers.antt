use Rattle.std.proofs.Common.{◌+◌, ◌++◌, reverse, sym, ap, ap₂, ◌∙◌, arith}
use Rattle.std.proofs.lemmas.List.{length-reverse}
use Rattle.spp_piece.specs.Bound.{cost}
use Rattle.spp_piece.specs.Pair.{then}
use Rattle.spp_summary.specs.Storage.{seen, seen_before, with_work}
use Rattle.spp_summary.specs.Returns.{Returned}
use Rattle.spp_piece.specs.Summary.{Sum, summary_ops}
use Rattle.spp_piece.proofs.Bounds.{cost-then}
use Rattle.spp_summary.proofs.Chains.{few_kept}
use Rattle.spp_summary.proofs.ReadEvents.{outside_within}
use Rattle.spp_summary.proofs.Going.{before-along, along-twice}
use Rattle.spp_summary.proofs.storage.Storage.go_on.Goals as goal

pub overflow_add-end-2 : goal.overflow_add-end-2
overflow_add-end-2 c =
    let r = c.args.right.now in
    omega (arith, outside_within r.run r.before r.since (reverse r.opens.items) (reverse r.states.items) c.requires.right, c.outside.ensures, c.requires.work)

pub change_innermost-requires-clause-load : goal.change_innermost-requires-clause-load
change_innermost-requires-clause-load c =
    omega (arith, c.return_all-pending.ensures.load, ap cost c.then.ensures, ap cost c.segs.ensures, cost-then c.segs.result c.middle.result, ap cost c.middle.ensures, c.requires.load)

pub returns-clause-value : goal.returns-clause-value
returns-clause-value c =
    let p = c.args.self.now in
    let r = c.args.right.now in
    let o = summary_ops c.args.burdens in
    let w = p.before + p.run in
    let taken = c.return_all-pending.new.self in
    let rest = c.return_all-pending.new.returns.items in
    let a = c.return_all-pending.result in
    ap (λ (z : Returned). with_work w (record (seen c.change_innermost.new.self) { returns = z.items ++ rest })) c.change_innermost.ensures.returns
    ∙ ap (λ (z : Sum). with_work w (record z { returns = taken.returns.items ++ rest })) c.change_innermost.ensures.value
    ∙ before-along c.args.burdens (seen taken) (taken.returns.items ++ rest) w c.then.result c.return_all-pending.ensures.fault
    ∙ ap (λ g. o.along g (with_work w (seen_before rest taken))) (c.then.ensures ∙ ap₂ then c.segs.ensures c.middle.ensures)
    ∙ sym (along-twice c.args.burdens a (seen r).middle (with_work w (seen_before rest taken)))
    ∙ ap (o.along (seen r).middle) c.return_all-pending.ensures.value

pub returns-clause-few : goal.returns-clause-few
returns-clause-few c =
    let q = c.change_innermost.new.self in
    omega (arith, few_kept q.run q.before q.since (reverse q.opens.items) (reverse q.states.items) c.change_innermost.ensures.laid, length-reverse q.opens.items, length-reverse q.states.items, q.opens.ok.0, q.states.ok.0)
