use Rattle.std.proofs.Common.{◌<◌, ◌||◌, cond, nat_eq, false, length, ap, subst, ◌∙◌, arith}
use Rattle.spp_dag.specs.Steps.{has_site}
use Rattle.spp_site.specs.Marks.{is_marked}
use Rattle.spp_stack.specs.Chain.{StackOf, IsUnder, AreLinked, opens_site}
use Rattle.spp_stack.proofs.Chains.{under_more}
use Rattle.spp_stack.proofs.Linked.{marking_next, site_law, count_less}
use Rattle.spp_stack.proofs.stacks.Entry.mark_sites.Goals as goal

pub loop-next-smaller : goal.loop-next-smaller
loop-next-smaller c =
    let n = c.in-Some.number in
    let node = c.node-node.result.now in
    let linked : AreLinked c.args.self.now.nodes = subst (λ (z : StackOf). AreLinked z.nodes) c.self.view_is c.self.invariant.linked in
    let links = linked n node c.node-node.ensures in
    count_less n node.site_link c.loop-next.next c.in-Some.is links.site_under

pub loop-next-preserved : goal.loop-next-preserved
loop-next-preserved c =
    let n = c.in-Some.number in
    let node = c.node-node.result.now in
    let nodes = c.args.self.now.nodes in
    let linked : AreLinked nodes = subst (λ (z : StackOf). AreLinked z.nodes) c.self.view_is c.self.invariant.linked in
    let links = linked n node c.node-node.ensures in
    let down : n < length nodes = subst (λ o. IsUnder (length nodes) o) c.in-Some.is c.loop-next.invariant.within in
    record {
      within = under_more n (length nodes) node.site_link (omega arith) links.site_under;
      marking = λ fs h.
          marking_next opens_site (λ m. m.site_link) (λ m. m.frame.site) has_site site_law nodes (λ j m g. let l = linked j m g in l.site) c.loop-next.next n node c.args.sites.now c.loop-next.sites c.add_if.new.self fs
          c.in-Some.is c.node-node.ensures (λ x. c.in_ok-add_if.ensures.added x ∙ ap (λ b. is_marked c.loop-next.sites x || cond b (nat_eq node.frame.site x) false) c.opens_site.ensures) (c.loop-next.invariant.marking fs h);
    }
