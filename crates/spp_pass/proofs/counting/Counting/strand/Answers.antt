use Rattle.std.proofs.Common.{◌≡◌, ◌-◌, ◌+◌, ℕ, List, ◌∷◌, length, reverse, get_or, set, sym, ap, ap₂, ◌∙◌, arith}
use Rattle.spp_pass.specs.declared.counted_frame.CountedFrame.{CountedFrame}
use Rattle.spp_pass.specs.Passes.{Seen, seen_with, strand_frame, on_top}
use Rattle.spp_site.proofs.LastFirst.{topped}
use Rattle.spp_pass.proofs.Tops.{some_open}
use Rattle.spp_pass.proofs.counting.Counting.strand.Goals as goal

pub returns : goal.returns
returns c notes =
    let s : Seen = seen_with c.args.self.now notes in
    let fs : List CountedFrame = c.args.self.now.frames.items in
    let n : ℕ = c.args.count in
    let t = topped fs (some_open _ fs c.requires.0) in
    let at : c.len-last.result - 1 ≡ length fs - 1 = omega (arith, c.len-last.ensures, c.args.self.now.frames.ok.0) in
    let old : CountedFrame = c.index_mut.result.now in
    let top : old ≡ t.top = c.index_mut.ensures.value ∙ ap (λ k. get_or fs k old) at ∙ t.get old in
    let new : CountedFrame = c.strand.new.self in
    let moved : new ≡ strand_frame n t.top = c.strand.ensures ∙ ap (strand_frame n) top in
    let frames : reverse (set fs (c.len-last.result - 1) new) ≡ on_top (strand_frame n) (reverse fs) =
    ap (λ k. reverse (set fs k new)) at ∙ t.put new ∙ ap (λ f. f ∷ t.below) moved ∙ ap (on_top (strand_frame n)) (sym t.is) in
    ap₂ (λ (l : List CountedFrame) (m : ℕ). let x : Seen = record s { frames = l; work = s.work + m } in x) frames c.from.ensures
