use Rattle.std.proofs.Common.{◌≡◌, ◌++◌, List, ℕ, ap, ◌∙◌}
use Rattle.std.specs.Prelude.{decimal, codes}
use Rattle.std.specs.String.{string_bytes}
use Rattle.spp_report.specs.Figures.{hundredths, ratio_text, line}
use Rattle.spp_report.proofs.Texts.{five_lines}
use Rattle.spp_report.proofs.figures.figures_text.Goals as goal

pub returns : goal.returns
returns c =
    let f = c.args.figures.now in
    let lines : List ℕ → List ℕ → List ℕ = λ p q. line (codes "work " ++ decimal f.work) ++ line (codes "span " ++ decimal f.span) ++ line (codes "burdened " ++ decimal f.burdened)
    ++ line (codes "parallelism " ++ p) ++ line (codes "burdened parallelism " ++ q) in
    let plain : string_bytes c.in_ok-plain.plain ≡ ratio_text (hundredths f.work f.span) = c.in_ok-plain.ensures ∙ ap ratio_text c.hundredths.ensures in
    let burdened : string_bytes c.in_ok-with_burdens.with_burdens ≡ ratio_text (hundredths f.work f.burdened) = c.in_ok-with_burdens.ensures ∙ ap ratio_text c.hundredths-2.ensures in
    ap (λ v. v.items) c.into_bytes.ensures.value
    ∙ c.in_ok-text.ensures.ok
    ∙ five_lines (decimal f.work) (decimal f.span) (decimal f.burdened) (string_bytes c.in_ok-plain.plain) (string_bytes c.in_ok-with_burdens.with_burdens)
    ∙ ap (λ (p : List ℕ). lines p (string_bytes c.in_ok-with_burdens.with_burdens)) plain
    ∙ ap (λ (q : List ℕ). lines (ratio_text (hundredths f.work f.span)) q) burdened
