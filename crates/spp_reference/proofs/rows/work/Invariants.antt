use Rattle.std.proofs.Common.{◌≡◌, ◌≤◌, ◌*◌, nat_le}
use Rattle.spp_dag.specs.Ranges.{sum_where}
use Rattle.spp_dag.specs.Trace.{weight}
use Rattle.spp_reference.proofs.rows.work.Given as goal

abbrev pub invariant-loop-at : goal.invariant-loop-at
invariant-loop-at l = record {
  is : l.sum ≡ sum_where (nat_le l.f) (weight l.dag) l.at;
  small : l.sum ≤ 18446744073709551615 * l.at;
}
