use Rattle.std.proofs.Common.{length, reverse, ap, arith}
use Rattle.std.proofs.lemmas.List.{length-reverse}
use Rattle.spp_piece.specs.Account.{Account}
use Rattle.spp_summary.proofs.Chains.{frames_count}
use Rattle.spp_summary.proofs.summary.Summary.frame_count.Goals as goal

pub returns : goal.returns
returns c =
    let p = c.self.inside.storage in
    omega (arith, c.len.ensures, p.opens.ok.0, length-reverse p.opens.items, frames_count p.run p.before (reverse p.opens.items) (reverse p.states.items), ap (λ (a : Account). length a.sum.frames) c.self.view_is)
