use Rattle.std.proofs.Common.{◌++◌, [], ◌∷◌, reverse, List, refl, ap, ◌∙◌}
use Rattle.spp_pass.specs.declared.counted_frame.CountedFrame.{CountedFrame}
use Rattle.spp_pass.proofs.Reaching.{node_enters}
use Rattle.spp_pass.proofs.counting.Counting.within.Goals as goal

pub returns : goal.returns
returns c = λ f fs h. record {
  frames = ap reverse (c.in_ok-push.ensures.items ∙ ap (λ (l : List CountedFrame). l ++ c.entered.result ∷ []) c.new-frames.ensures.items)
      ∙ ap (λ (x : CountedFrame). x ∷ []) (c.entered.ensures ∙ node_enters c.innermost.result.now f fs (c.innermost.ensures.frame f fs h));
  open_sites = λ x. c.in_ok-open_sites.ensures.sites (f ∷ fs) h x;
  open_funcs = λ x. c.in_ok-open_sites.ensures.funcs (f ∷ fs) h x;
  work = c.work.ensures;
  table = c.new.ensures;
  ends = refl;
  joins = refl;
  burdened_joins = refl;
}
