use Rattle.std.proofs.Common.{◌≡◌}
use Rattle.spp_ways.specs.Stretches.{stretch_rows}
use Rattle.spp_ways.specs.Pruning.{pruned_rows, marks_of}
use Rattle.spp_ways.proofs.open_ways.LoggedStretch.pruned_log.Given as goal

abbrev pub invariant-loop-k : goal.invariant-loop-k
invariant-loop-k l = l.log.rows.items ≡ pruned_rows (marks_of l.kept) (stretch_rows l.self) l.k
