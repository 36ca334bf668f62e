use Rattle.std.proofs.Common.{◌≡◌, ◌-◌, List, ◌∷◌, length, reverse, get_or, set, sym, ap, ◌∙◌, arith}
use Rattle.spp_maxplus.specs.declared.weights.Weights.{Weights}
use Rattle.spp_maxplus.specs.Weights.{after_sync}
use Rattle.spp_path.specs.declared.spans.OpenSpan.{OpenSpan}
use Rattle.spp_path.specs.Spans.{sync_spans}
use Rattle.spp_path.proofs.Tops.{span_open}
use Rattle.spp_site.proofs.LastFirst.{topped}
use Rattle.spp_path.proofs.spans.OpenSpans.sync.Goals as goal

pub returns : goal.returns
returns c =
    let fs : List OpenSpan = c.args.self.now.frames.items in
    let t = topped fs (span_open _ fs c.requires) in
    let at : c.len-last.result - 1 ≡ length fs - 1 = omega (arith, c.len-last.ensures, c.args.self.now.frames.ok.0) in
    let f : OpenSpan = c.index_mut.result.now in
    let same : f ≡ t.top = c.index_mut.ensures.value ∙ ap (λ k. get_or fs k f) at ∙ t.get f in
    let now : OpenSpan = record f { weights = c.wait.new.self } in
    let waited : now ≡ record f { weights = after_sync f.weights } = ap (λ (w : Weights). let s : OpenSpan = record f { weights = w } in s) c.wait.ensures in
    ap (λ k. reverse (set fs k now)) at ∙ t.put now ∙ ap (λ (g : OpenSpan). g ∷ t.below) waited ∙ ap (λ (g : OpenSpan). record g { weights = after_sync g.weights } ∷ t.below) same
    ∙ ap sync_spans (sym t.is)
