use Rattle.std.proofs.Common.{◌≡◌, ◌++◌, List, ℕ, ap, ◌∙◌}
use Rattle.std.specs.Prelude.{decimal, codes}
use Rattle.std.specs.String.{string_bytes}
use Rattle.spp_report.specs.Comparison.{both_line}
use Rattle.spp_report.specs.Figures.{hundredths, ratio_text}
use Rattle.spp_report.proofs.Comparisons.{five_of_both}
use Rattle.spp_report.proofs.comparison.text_of_figures.Goals as goal

pub returns : goal.returns
returns c =
    let b = c.args.before.now in
    let a = c.args.after.now in
    let lines : List ℕ → List ℕ → List ℕ → List ℕ → List ℕ = λ p q r u.
    both_line (codes "work") (decimal b.work) (decimal a.work) ++ both_line (codes "span") (decimal b.span) (decimal a.span)
    ++ both_line (codes "burdened") (decimal b.burdened) (decimal a.burdened)
    ++ both_line (codes "parallelism") p q ++ both_line (codes "burdened parallelism") r u in
    let p : string_bytes c.in_ok-plain_1.plain_1 ≡ ratio_text (hundredths b.work b.span) = c.in_ok-plain_1.ensures ∙ ap ratio_text c.hundredths.ensures in
    let q : string_bytes c.in_ok-plain_2.plain_2 ≡ ratio_text (hundredths a.work a.span) = c.in_ok-plain_2.ensures ∙ ap ratio_text c.hundredths-2.ensures in
    let r : string_bytes c.in_ok-burdened_1.burdened_1 ≡ ratio_text (hundredths b.work b.burdened) = c.in_ok-burdened_1.ensures ∙ ap ratio_text c.hundredths-3.ensures in
    let u : string_bytes c.in_ok-burdened_2.burdened_2 ≡ ratio_text (hundredths a.work a.burdened) = c.in_ok-burdened_2.ensures ∙ ap ratio_text c.hundredths-4.ensures in
    ap (λ v. v.items) c.into_bytes.ensures.value
    ∙ c.in_ok-text.ensures.ok
    ∙ five_of_both (decimal b.work) (decimal a.work) (decimal b.span) (decimal a.span) (decimal b.burdened) (decimal a.burdened)
    (string_bytes c.in_ok-plain_1.plain_1) (string_bytes c.in_ok-plain_2.plain_2) (string_bytes c.in_ok-burdened_1.burdened_1) (string_bytes c.in_ok-burdened_2.burdened_2)
    ∙ (λ j. lines (p j) (q j) (r j) (u j))
