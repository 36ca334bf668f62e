use Rattle.std.proofs.Common.{◌++◌, [], ◌∷◌, reverse, List, ap, ◌∙◌}
use Rattle.spp_path.specs.declared.spans.OpenSpan.{OpenSpan}
use Rattle.spp_path.specs.Outside.{entered_span}
use Rattle.spp_path.proofs.spans.OpenSpans.within.Goals as goal

pub returns : goal.returns
returns c = λ f fs h.
    let node = c.innermost.ensures.frame f fs h in
    ap reverse (c.in_ok-push.ensures.items ∙ ap (λ (l : List OpenSpan). l ++ c.entered.result ∷ []) c.new-frames.ensures.items)
    ∙ ap (λ (x : OpenSpan). x ∷ []) (c.entered.ensures ∙ ap entered_span node.frame)
