use Rattle.std.proofs.Common.{refl, ap, subst, ◌∙◌, ◌≡◌, get_or}
use Rattle.spp_dag.specs.Steps.{returned}
use Rattle.spp_stack.specs.declared.node.Node.{Node}
use Rattle.spp_stack.proofs.Standing.{closed_stands}
use Rattle.spp_stack.proofs.stack_builder.StackBuilder.close.Goals as goal

pub returns-clause-stands : goal.returns-clause-stands
returns-clause-stands c =
    let w = c.args.self.now in
    let u = c.unmark.new.self in
    let node = c.index.result.now in
    closed_stands c.args.burdens w u _ (record {
      cleared = c.unmark.ensures;
      nodes = c.unmark.ensures.nodes;
      work = c.unmark.ensures.work;
      sites = refl;
      funcs = refl;
      below = c.in-Some.below;
      is_below = c.in-Some.is;
      node = node;
      got = subst (λ z. node ≡ get_or z c.in-Some.below node) (ap (λ z. z.items) c.unmark.ensures.nodes) c.index.ensures;
      under = refl;
      depth = refl;
      top_func = refl;
      site_link = refl;
      func_link = refl;
      frame = c.receive.ensures ∙ ap (λ (t : Node). returned c.args.burdens t.frame node.frame) c.unmark.ensures.top;
    })
