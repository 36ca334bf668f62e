use Rattle.std.proofs.Common.{subst}
use Rattle.std.specs.Arc.{arc_value}
use Rattle.spp_crew.proofs.Joinings.{first_block}
use Rattle.spp_crew.proofs.joining.Joining.join_first.Goals as goal

pub join-requires : goal.join-requires
join-requires g c =
    let h = c.requires.come.2 in
    let first = first_block c.requires.come.0 c.args.burdens h.0 c.requires.come.1 c.in-Some.posted c.pop_front.new.self.items c.args.self.waiting.items c.in-Some.ensures.items h.2 in
    (c.requires.come.0, h.0, (arc_value c.in-Some.posted).block, h.1, first.0, subst (λ p. g.A.SoFar.is_part p.block c.in-Ok.part) c.deref.ensures c.in-Ok.ensures.found)

pub returns-in-Err-clause-fault : goal.returns-in-Err-clause-fault
returns-in-Err-clause-fault g c trace k come =
    let first = first_block trace c.args.burdens come.0 k c.in-Some.posted c.pop_front.new.self.items c.args.self.waiting.items c.in-Some.ensures.items come.2 in
    c.in-Err.ensures.fault trace come.0 (arc_value c.in-Some.posted).block come.1 first.0 (subst (λ p. g.A.SoFar.is_part p.block c.in-Ok.part) c.deref.ensures c.in-Ok.ensures.found)
