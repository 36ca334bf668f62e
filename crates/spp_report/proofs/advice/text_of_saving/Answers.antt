use Rattle.std.proofs.Common.{◌≡◌, ◌++◌, List, ℕ, sym, subst, ap, ◌∙◌}
use Rattle.std.specs.Prelude.{IfOk, codes, decimal}
use Rattle.std.specs.Option.{option_map}
use Rattle.std.specs.String.{string_bytes}
use Rattle.std.proofs.lemmas.Result.{IfOk-weaker}
use Rattle.spp_report.specs.Figures.{line, ratio_text}
use Rattle.spp_report.specs.Advice.{saving_text, changed_text, saving}
use Rattle.spp_report.proofs.Advices.{saving_parts}
use Rattle.spp_report.proofs.advice.text_of_saving.Goals as goal

pub returns : goal.returns
returns c =
    let f = c.args.figures.now in
    let r = c.in-Some.run'.now in
    let saving_line : List ℕ → List ℕ → List ℕ → List ℕ = λ change saved reason. line (codes "most is saved by " ++ change ++ codes ", burdened span " ++ decimal f.burdened
    ++ codes " to " ++ decimal r.figures.burdened ++ codes ", " ++ saved ++ codes " per cent less, since " ++ reason) in
    subst (λ b. IfOk c.format-2.result (λ text. string_bytes text ≡ saving_text f (option_map (λ r. r.now) b))) (sym c.in-Some.is)
    (IfOk-weaker c.format-2.result _ _
    (λ text e. e ∙ saving_parts (string_bytes c.in_ok-change.change) (decimal f.burdened) (decimal r.figures.burdened) (string_bytes c.in_ok-saved.saved) c.reason-reason.result.now
    ∙ ap (λ (t : List ℕ). saving_line t (string_bytes c.in_ok-saved.saved) c.reason-reason.result.now) c.in_ok-change.ensures
    ∙ ap (λ (t : List ℕ). saving_line (changed_text r) t c.reason-reason.result.now) (c.in_ok-saved.ensures ∙ ap ratio_text c.saving.ensures)
    ∙ ap (saving_line (changed_text r) (ratio_text (saving f r.figures))) c.reason-reason.ensures)
    c.format-2.ensures.ok)
