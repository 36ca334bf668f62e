use Rattle.std.proofs.Common.{arith, get_or, None, Some, ◌≡◌, ◌<◌, ◌^◌, ◌∙◌, sym}
use Rattle.spp_reference.proofs.walks.along.Goals as goal

pub overflow_add-result : goal.overflow_add-result
overflow_add-result c =
    let e : get_or c.args.best.now c.in_ok-edge.edge.to None ≡ Some c.in_ok-rest.rest = sym (c.in_ok-get.ensures.lookup.3.1 None) ∙ c.in_ok-rest.was in
    let l : c.in_ok-rest.rest < 2 ^ 127 = c.requires c.in_ok-edge.edge.to c.in_ok-rest.rest e in
    omega arith
