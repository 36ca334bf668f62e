use Rattle.std.proofs.Common.{◌<◌, ◌^◌, subst, arith}
use Rattle.spp_piece.specs.Account.{Account, IsSound}
use Rattle.spp_piece.specs.Bound.{load_returns}
use Rattle.spp_summary.proofs.Weights.{returns_small, load_below}
use Rattle.spp_summary.proofs.summary.Summary.returns.Goals as goal

pub returns-clause-bound : goal.returns-clause-bound
returns-clause-bound c =
    let a : Account = c.args.self.now in
    let all = load_below a (subst (λ x. IsSound x) c.self.view_is c.self.invariant.sound) in
    let some : load_returns a.burdens a.sum.returns < 2 ^ 94 = omega (arith, all) in
    returns_small a.burdens a.sum.returns (2 ^ 94) some
