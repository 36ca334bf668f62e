use Rattle.std.proofs.Common.{◌≡◌, ◌++◌, take}
use Rattle.std.specs.Prelude.{codes}
use Rattle.std.specs.List.{flat_map}
use Rattle.spp_report.specs.Advice.{changed_line, figure_columns, figures_line}
use Rattle.spp_report.specs.Plain.{row_line}
use Rattle.spp_report.proofs.Advices.{heads}
use Rattle.spp_report.proofs.advice.push_runs.Given as goal

abbrev pub invariant-loop-run : goal.invariant-loop-run
invariant-loop-run l =
    l.text.items
    ≡ ((l.fn.text.items ++ heads (codes "what if") (row_line figure_columns (codes "change"))) ++ figures_line l.figures l.figures (codes "as recorded"))
    ++ flat_map (changed_line l.figures) (take l.run-index l.runs)
