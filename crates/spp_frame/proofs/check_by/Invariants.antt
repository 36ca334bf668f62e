use Rattle.std.proofs.Common.{◌≡◌, ◌+◌, ◌*◌, ◌≤◌, take}
use Rattle.std.specs.List.{count_by, sum_by}
use Rattle.spp_frame.specs.Nesting.{opens_frame, closes_frame, weight, IsGoodBefore}
use Rattle.spp_frame.proofs.check_by.Given as goal

-- as far as `at` nothing is wrong, and the two numbers are those of the records before it
abbrev pub invariant-loop-at : goal.invariant-loop-at
invariant-loop-at g l = record {
  good : IsGoodBefore l.trace.records l.at;
  depth : count_by opens_frame (take l.at l.trace.records) ≡ l.depth + count_by closes_frame (take l.at l.trace.records);
  work : l.work ≡ sum_by weight (take l.at l.trace.records);
  small : l.work ≤ 18446744073709551616 * l.at;
  shallow : l.depth ≤ l.at;
  next : g.R.Reader.stands l.events l.trace l.at;
}
