use Rattle.std.proofs.Common.{◌<◌, ◌^◌, subst, arith}
use Rattle.spp_piece.specs.Account.{Account, IsSound}
use Rattle.spp_piece.specs.Bound.{load_frames}
use Rattle.spp_summary.proofs.Weights.{frames_small, load_below}
use Rattle.spp_summary.proofs.summary.Summary.frames.Goals as goal

pub returns-clause-bound : goal.returns-clause-bound
returns-clause-bound c =
    let a : Account = c.args.self.now in
    let all = load_below a (subst (λ x. IsSound x) c.self.view_is c.self.invariant.sound) in
    let some : load_frames a.sum.frames < 2 ^ 94 = omega (arith, all) in
    frames_small a.sum.frames (2 ^ 94) some
