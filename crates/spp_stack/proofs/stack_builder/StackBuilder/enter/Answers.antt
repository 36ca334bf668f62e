use Rattle.std.proofs.Common.{cond, Some, ◌∙◌, not, refl, ap, arith}
use Rattle.spp_stack.proofs.Standing.{depth_fits, entered_stands}
use Rattle.spp_stack.proofs.stack_builder.StackBuilder.enter.Goals as goal

pub overflow_add-node-2 : goal.overflow_add-node-2
overflow_add-node-2 c =
    let h = c.requires.stands in
    omega (arith, depth_fits c.args.self.now h.0 c.requires.kept h.1, c.requires.few)

pub returns-clause-stands : goal.returns-clause-stands
returns-clause-stands c =
    let kind = c.kind_of.ensures in
    let top = c.has.ensures in
    entered_stands c.args.self.now _ c.args.frame.now c.requires.kept (record {
      nodes = refl;
      work = refl;
      frame = cc;
      below = c.last-last.result;
      last = c.last-last.ensures;
      is_below = refl;
      depth = refl;
      top_func = ap not c.has-2.ensures;
      site_link = c.nearest.ensures ∙ ap (λ b. cond b (Some c.last-last.result) c.args.self.now.top.site_link) c.opens_site.ensures;
      func_link = c.nearest-2.ensures;
      sites = c.in_ok-add.ensures.added;
      funcs = c.in_ok-add-2.ensures.added;
    })
