use Rattle.std.proofs.Common.{◌++◌, List, ℕ, ap, ◌∙◌}
use Rattle.std.specs.Prelude.{codes}
use Rattle.std.specs.String.{string_bytes}
use Rattle.spp_report.specs.Figures.{line}
use Rattle.spp_report.proofs.Advices.{beginning_parts}
use Rattle.spp_report.proofs.PlainTexts.{put_last}
use Rattle.spp_report.proofs.advice.push_beginning.Goals as goal

pub returns : goal.returns
returns c =
    let name = c.args.name.now in
    let what = c.args.what.now in
    let cure = c.args.cure.now in
    put_last c.extend_from_slice.result c.args.text.now.items c.extend_from_slice.new.self.items c.as_bytes.result.now _ c.extend_from_slice.ensures.items
    (ap (λ (t : List ℕ). c.args.text.now.items ++ t)
    (c.as_bytes.ensures.value ∙ c.in_ok-line.ensures.ok ∙ beginning_parts name what (string_bytes c.in_ok-share.share) cure
    ∙ ap (λ (s : List ℕ). line (codes "begin with " ++ name ++ what ++ s ++ cure)) c.in_ok-share.ensures))
