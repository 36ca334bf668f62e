use Rattle.std.proofs.Common.{◌<◌, length, subst, arith}
use Rattle.spp_dag.specs.Steps.{has_func}
use Rattle.spp_stack.specs.Chain.{StackOf, IsUnder, AreLinked}
use Rattle.spp_stack.proofs.Chains.{under_more}
use Rattle.spp_stack.proofs.Linked.{marking_next, func_law, count_less}
use Rattle.spp_stack.proofs.stacks.Entry.mark_funcs.Goals as goal

pub loop-next-smaller : goal.loop-next-smaller
loop-next-smaller c =
    let n = c.in-Some.number in
    let node = c.node-node.result.now in
    let linked : AreLinked c.args.self.now.nodes = subst (λ (z : StackOf). AreLinked z.nodes) c.self.view_is c.self.invariant.linked in
    let links = linked n node c.node-node.ensures in
    count_less n node.func_link c.loop-next.next c.in-Some.is links.func_under

pub loop-next-preserved : goal.loop-next-preserved
loop-next-preserved c =
    let n = c.in-Some.number in
    let node = c.node-node.result.now in
    let nodes = c.args.self.now.nodes in
    let linked : AreLinked nodes = subst (λ (z : StackOf). AreLinked z.nodes) c.self.view_is c.self.invariant.linked in
    let links = linked n node c.node-node.ensures in
    let down : n < length nodes = subst (λ o. IsUnder (length nodes) o) c.in-Some.is c.loop-next.invariant.within in
    record {
      within = under_more n (length nodes) node.func_link (omega arith) links.func_under;
      marking = λ fs h.
          marking_next (λ m. m.top_func) (λ m. m.func_link) (λ m. m.frame.func) has_func func_law nodes (λ j m g. let l = linked j m g in l.func) c.loop-next.next n node c.args.funcs.now c.loop-next.funcs c.add_if.new.self fs
          c.in-Some.is c.node-node.ensures (λ x. c.in_ok-add_if.ensures.added x) (c.loop-next.invariant.marking fs h);
    }
