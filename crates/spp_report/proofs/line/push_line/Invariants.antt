use Rattle.std.proofs.Common.{◌≡◌, ◌++◌, map, take}
use Rattle.spp_report.specs.Advice.{told_cell}
use Rattle.spp_report.specs.Plain.{spaced}
use Rattle.spp_report.proofs.line.push_line.Given as goal

abbrev pub invariant-loop-cell : goal.invariant-loop-cell
invariant-loop-cell l = l.text.items ≡ l.fn.text.items ++ spaced (map told_cell (take l.cell-index l.cells))
