use Rattle.std.proofs.Common.{◌≡◌, ◌++◌, map, filter}
use Rattle.std.specs.Prelude.{is_none}
use Rattle.spp_report.specs.Comparison.{cells_under, row_after}
use Rattle.spp_report.specs.Runs.{told, told_row}
use Rattle.spp_report.proofs.Comparisons.{named_cells}
use Rattle.spp_report.proofs.comparison.push_after.Given as goal

abbrev pub invariant-loop-name : goal.invariant-loop-name
invariant-loop-name g l =
    map told_row l.rows.items ++ map row_after (filter (λ site. is_none (cells_under site.0 (told l.before))) (map named_cells l.name-iterator))
    ≡ map told_row l.fn.rows.items ++ map row_after (filter (λ site. is_none (cells_under site.0 (told l.before))) (told l.after).sites)
