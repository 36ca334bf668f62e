use Rattle.std.proofs.Common.{rules, ◌≡◌, List, []}
use Rattle.spp_dag.specs.declared.stack.FrameKind.{FrameKind}
use Rattle.spp_path.proofs.MarkPass.{taken_outside}
use Rattle.spp_path.proofs.marking.Marking.take.Goals as goal

pub returns-clause-kinds : goal.returns-clause-kinds
returns-clause-kinds c =
    let old : List FrameKind = c.args.self.now.kinds.items in
    let new : List FrameKind = c.pop.new.self.items in
    let before : old ≡ [] = search rules in
    let after : new ≡ [] = search rules in
    taken_outside old new c.args.self.now.outside c.in-Some-outside.entry c.innermost.result.now c.below-self.result
    before after c.in-Some-outside.is c.innermost.ensures.frame c.below-self.ensures.some c.below-self.ensures.none
