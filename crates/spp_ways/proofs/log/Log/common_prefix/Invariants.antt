use Rattle.std.proofs.Common.{◌+◌, ◌≤◌, length, reverse}
use Rattle.spp_ways.specs.Logs.{HasPrefix}
use Rattle.spp_ways.proofs.log.Log.common_prefix.Given as goal

-- each way leads to where it is
abbrev pub invariant-loop-at : goal.invariant-loop-at
invariant-loop-at l = record {
  one : HasPrefix l.burdened (reverse l.self.rows.items) l.one l.at;
  other : HasPrefix l.burdened (reverse l.self.rows.items) l.other l.to;
  at : l.at ≤ length l.self.rows.items;
  to : l.to ≤ length l.self.rows.items;
}

abbrev pub decreases-loop-at : goal.decreases-loop-at
decreases-loop-at l = l.at + l.to
