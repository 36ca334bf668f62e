use Rattle.std.proofs.Common.{◌≡◌, List, reverse, set, ap, ◌∙◌}
use Rattle.spp_pass.specs.declared.counted_frame.CountedFrame.{CountedFrame}
use Rattle.spp_pass.specs.Passes.{Seen, seen_with}
use Rattle.spp_pass.specs.Stretches.{next_seen, next_frames}
use Rattle.spp_pass.proofs.Joining.{first_next}
use Rattle.spp_pass.proofs.Tops.{some_open}
use Rattle.spp_pass.proofs.counting.Counting.next_stretch.Goals as goal

pub returns-clause-begun : goal.returns-clause-begun
returns-clause-begun c n =
    let fs : List CountedFrame = c.args.self.now.frames.items in
    let frames : reverse (set fs 0 c.outer.result) ≡ next_frames (reverse fs) = ap (λ f. reverse (set fs 0 f)) c.outer.ensures ∙ first_next fs (some_open _ fs c.requires) in
    ap (λ (l : List CountedFrame). let x : Seen = record (next_seen (seen_with c.args.self.now n)) { frames = l } in x) frames
