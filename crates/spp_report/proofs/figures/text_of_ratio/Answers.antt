use Rattle.std.proofs.Common.{◌≡◌, ◌/◌, ◌%◌, sym, subst, ◌∙◌}
use Rattle.std.specs.Prelude.{IfOk, decimal}
use Rattle.std.specs.String.{string_bytes}
use Rattle.std.proofs.lemmas.Result.{IfOk-weaker}
use Rattle.spp_report.specs.Figures.{ratio_text}
use Rattle.spp_report.proofs.Texts.{ratio_parts}
use Rattle.spp_report.proofs.figures.text_of_ratio.Goals as goal

pub returns-in-Some : goal.returns-in-Some
returns-in-Some c =
    let h = c.in-Some.h in
    subst (λ n. IfOk c.format-in-Some.result (λ text. string_bytes text ≡ ratio_text n)) (sym c.in-Some.is)
    (IfOk-weaker c.format-in-Some.result _ _ (λ text e. e ∙ ratio_parts (decimal (h / 100)) (decimal (h / 10 % 10)) (decimal (h % 10))) c.format-in-Some.ensures.ok)
