use Rattle.std.proofs.Common.{◌≡◌, ◌-◌, ◌<◌, ℕ, List, ◌∷◌, length, reverse, get_or, set, take, sym, ap, ◌∙◌, arith}
use Rattle.std.proofs.lemmas.List.{length-take-le}
use Rattle.spp_dag.specs.declared.stack.FrameKind.{FrameKind}
use Rattle.spp_path.specs.declared.spans.OpenSpan.{OpenSpan}
use Rattle.spp_path.specs.Spans.{return_spans, returned_weights}
use Rattle.spp_path.proofs.Tops.{spans_open}
use Rattle.spp_site.proofs.LastFirst.{topped}
use Rattle.spp_path.proofs.spans.OpenSpans.ret.Goals as goal

pub returns : goal.returns
returns c =
    let fs : List OpenSpan = c.args.self.now.frames.items in
    let two : 1 < length fs = spans_open _ fs c.requires in
    let n : ℕ = c.args.span in
    let t = topped fs (omega arith) in
    let at : c.len-last.result - 1 ≡ length fs - 1 = omega (arith, c.len-last.ensures, c.args.self.now.frames.ok.0) in
    let f : OpenSpan = c.index.result.now in
    let same : f ≡ t.top = c.index.ensures ∙ ap (λ k. get_or fs k f) at ∙ t.get f in
    let gs : List OpenSpan = c.truncate.new.self.items in
    let left : gs ≡ take (length fs - 1) fs = c.truncate.ensures.items ∙ ap (λ k. take k fs) at in
    let size : length gs ≡ length fs - 1 = ap (λ (l : List OpenSpan). length l) left ∙ length-take-le (length fs - 1) fs (omega arith) in
    let u = topped gs (omega arith) in
    let below : t.below ≡ u.top ∷ u.below = sym t.less ∙ ap reverse (sym left) ∙ u.is in
    let there : c.len-last.result - 1 - 1 ≡ length gs - 1 = omega (arith, at, size) in
    let g : OpenSpan = c.index_mut.result.now in
    let parent : g ≡ u.top = c.index_mut.ensures.value ∙ ap (λ k. get_or gs k g) there ∙ u.get g in
    let made : FrameKind → OpenSpan → OpenSpan = λ kind x. record x { weights = returned_weights kind n x.weights } in
    let new : OpenSpan = c.receive.new.self in
    let is : new ≡ made t.top.kind u.top =
    c.receive.ensures ∙ ap (λ (x : OpenSpan). made x.kind g) same ∙ ap (made t.top.kind) parent in
    ap (λ k. reverse (set gs k new)) there ∙ u.put new ∙ ap (λ x. x ∷ u.below) is
    ∙ ap (return_spans n) (ap (λ l. t.top ∷ l) (sym below) ∙ sym t.is)
