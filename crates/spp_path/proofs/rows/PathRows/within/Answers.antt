use Rattle.std.proofs.Common.{◌++◌, [], ◌∷◌, reverse, List, refl, ap, ap₂, ◌∙◌}
use Rattle.spp_path.specs.declared.rows.EnteredFrame.{EnteredFrame}
use Rattle.spp_path.specs.Outside.{path_frame}
use Rattle.spp_path.proofs.rows.PathRows.within.Goals as goal

pub returns : goal.returns
returns c = λ f fs h.
    let node = c.innermost.ensures.frame f fs h in
    record {
      frames = ap reverse (c.in_ok-push.ensures.items ∙ ap (λ (l : List EnteredFrame). l ++ c.entered.result ∷ []) c.new-frames.ensures.items)
          ∙ ap (λ (x : EnteredFrame). x ∷ []) (c.entered.ensures ∙ ap₂ path_frame node.frame node.top_func);
      trail_is = refl;
      open_sites = λ x. c.in_ok-open_sites.ensures.sites (f ∷ fs) h x;
      open_funcs = λ x. c.in_ok-open_sites.ensures.funcs (f ∷ fs) h x;
      work = c.work.ensures;
      table = c.new.ensures;
    }
