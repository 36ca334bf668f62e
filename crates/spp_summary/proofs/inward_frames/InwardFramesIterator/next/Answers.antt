use Rattle.std.proofs.Common.{◌≡◌, ◌+◌, ◌<◌, ◌∷◌, ◌^◌, drop, List, subst, arith}
use Rattle.spp_summary.specs.declared.opens.Open.{Open}
use Rattle.spp_summary.specs.KeptFrames.{work_within}
use Rattle.spp_summary.proofs.Inwards.{work_grows, drop_next}
use Rattle.spp_summary.proofs.inward_frames.InwardFramesIterator.next.Goals as goal

pub overflow_add-self-2 : goal.overflow_add-self-2
overflow_add-self-2 c =
    let q = c.self.inside in
    let xs = q.opens.now.items in
    let x = c.index-open.result.now in
    let e : drop q.read xs ≡ x ∷ drop (q.read + 1) xs = drop_next xs q.read x (omega (arith, c.len.ensures, c.if-self-len.false, c.self.invariant.read_fits)) c.index-open.ensures in
    let w : work_within (q.before + x.gap) (drop (q.read + 1) xs) < 2 ^ 128 = subst (λ (os : List Open). work_within q.before os < 2 ^ 128) e c.self.invariant.work in
    let g = work_grows (q.before + x.gap) (drop (q.read + 1) xs) in
    omega arith
