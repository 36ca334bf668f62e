use Rattle.std.proofs.Common.{◌<◌, length, arith, ap}
use Rattle.std.specs.Prelude.{codes}
use Rattle.std.specs.List.{flat_map}
use Rattle.std.proofs.lemmas.List.{take_all}
use Rattle.spp_report.specs.Plain.{row_line}
use Rattle.spp_report.specs.Advice.{changed_line, figure_columns, figures_line}
use Rattle.spp_report.proofs.Advices.{item_more, titled_runs}
use Rattle.spp_report.proofs.advice.push_runs.Goals as goal

pub loop-run-preserved : goal.loop-run-preserved
loop-run-preserved c =
    let here : c.loop-run.run-index < length c.args.runs.now = omega arith in
    item_more (changed_line c.args.figures.now) c.args.runs.now c.loop-run.run-index c.run-item.result _ _ _ here c.run-item.is c.loop-run.invariant c.in_ok-push_run.ensures

pub returns : goal.returns
returns c =
    let f = c.args.figures.now in
    titled_runs c.args.text.now.items (codes "what if") (row_line figure_columns (codes "change")) (figures_line f f (codes "as recorded")) _ _ _ c.loop-run.invariant
    (ap (flat_map (changed_line f)) (take_all c.loop-run.run-index c.args.runs.now (omega arith)))
