use Rattle.std.proofs.Common.{◌≡◌, ◌-◌, List, ◌∷◌, length, reverse, get_or, set, sym, ap, ◌∙◌, arith}
use Rattle.spp_pass.specs.declared.counted_frame.CountedFrame.{CountedFrame}
use Rattle.spp_pass.specs.Passes.{Seen, seen_with, sync_frame, on_top, sync_seen}
use Rattle.spp_site.proofs.LastFirst.{topped}
use Rattle.spp_pass.proofs.Tops.{some_open}
use Rattle.spp_pass.proofs.counting.Counting.sync.Goals as goal

pub returns : goal.returns
returns c at_ n =
    let fs : List CountedFrame = c.args.self.now.frames.items in
    let t = topped fs (some_open _ fs c.requires) in
    let at : c.len-last.result - 1 ≡ length fs - 1 = omega (arith, c.len-last.ensures, c.args.self.now.frames.ok.0) in
    let old : CountedFrame = c.index_mut.result.now in
    let top : old ≡ t.top = c.index_mut.ensures.value ∙ ap (λ k. get_or fs k old) at ∙ t.get old in
    let new : CountedFrame = c.sync.new.self in
    let moved : new ≡ sync_frame t.top = c.sync.ensures ∙ ap sync_frame top in
    let frames : reverse (set fs (c.len-last.result - 1) new) ≡ on_top sync_frame (reverse fs) =
    ap (λ k. reverse (set fs k new)) at ∙ t.put new ∙ ap (λ f. f ∷ t.below) moved ∙ ap (on_top sync_frame) (sym t.is) in
    ap (λ (l : List CountedFrame). let x : Seen = record (sync_seen at_ (seen_with c.args.self.now n)) { frames = l } in x) frames
