use Rattle.std.proofs.Common.{◌≡◌, ◌++◌, map}
use Rattle.spp_report.specs.Comparison.{row_before}
use Rattle.spp_report.specs.Runs.{told, told_row}
use Rattle.spp_report.proofs.Comparisons.{named_cells}
use Rattle.spp_report.proofs.comparison.push_before.Given as goal

abbrev pub invariant-loop-name : goal.invariant-loop-name
invariant-loop-name g l =
    map told_row l.rows.items ++ map (row_before (told l.after)) (map named_cells l.name-iterator)
    ≡ map told_row l.fn.rows.items ++ map (row_before (told l.after)) (told l.before).sites
