use Rattle.std.proofs.Common.{ap, ◌∙◌}
use Rattle.std.proofs.lemmas.Result.{IfOk-weaker}
use Rattle.spp_report.proofs.CsvTexts.{behind_nothing, gave_back}
use Rattle.spp_report.proofs.advice_table.advice_csv.Goals as goal

pub returns : goal.returns
returns c =
    IfOk-weaker c.map_err.result _ _
    (λ text e.
    behind_nothing text.items _ _ _ _ e c.in_ok-write_advice.ensures
    (ap (λ v. v.items) c.from_writer-writer.ensures.wtr ∙ c.new-2.ensures.items) c.from_writer-writer.ensures.empty)
    (gave_back c.into_inner.result c.map_err.result _ _ c.map_err.ensures.variant c.map_err.ensures.cases c.into_inner.ensures.ok)
