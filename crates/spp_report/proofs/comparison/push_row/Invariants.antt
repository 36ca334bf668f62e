use Rattle.std.proofs.Common.{◌≡◌, ◌++◌}
use Rattle.std.specs.List.{flat_map, range_with_len}
use Rattle.spp_report.proofs.Comparisons.{column_text}
use Rattle.spp_report.proofs.comparison.push_row.Given as goal

abbrev pub invariant-loop-column : goal.invariant-loop-column
invariant-loop-column l = l.text.items ≡ l.fn.text.items ++ flat_map (column_text l.before l.after) (range_with_len 0 l.column)
