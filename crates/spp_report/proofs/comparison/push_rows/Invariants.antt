use Rattle.std.proofs.Common.{◌≡◌, ◌++◌, map, take}
use Rattle.std.specs.List.{flat_map}
use Rattle.spp_report.specs.Comparison.{compare_line}
use Rattle.spp_report.specs.Runs.{told_row}
use Rattle.spp_report.proofs.comparison.push_rows.Given as goal

abbrev pub invariant-loop-row : goal.invariant-loop-row
invariant-loop-row l = l.text.items ≡ l.fn.text.items ++ flat_map compare_line (map told_row (take l.row-index l.rows))
