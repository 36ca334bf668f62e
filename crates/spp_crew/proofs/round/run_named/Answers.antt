use Rattle.std.proofs.Common.{OnOk, arith, subst}
use Rattle.spp_book.specs.Desks.{IsShort}
use Rattle.spp_crew.specs.Rounds.{IsDrained}
use Rattle.spp_crew.proofs.Draws.{all_put}
use Rattle.spp_crew.proofs.round.run_named.Goals as goal

pub unreachable-requires : goal.unreachable-requires
unreachable-requires g c =
    let pass = c.crew-pass.result.0 in
    let drained : IsDrained pass = subst (λ r. OnOk r (IsDrained pass)) c.in-Ok-worked.is c.crew-pass.ensures.drained in
    let drawn = c.close.ensures.drawn in
    let put = all_put pass drawn.0 drawn.1 drained in
    let short = subst (λ f. IsShort f pass.share (g.J.Job.parts_of g.N.Naming.job)) c.in-Err-Missing.field-0-is c.in-Err-Missing.ensures.missing in
    omega (arith, put, short.1, c.crew-pass.ensures.of.1, c.in_ok-desk.ensures.parts)
