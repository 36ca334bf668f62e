use Rattle.std.proofs.Common.{◌≡◌, ◌+◌, ◌≤◌, ℕ, Bool, [], Option, length}
use Rattle.spp_dag.specs.Shares.{plus}
use Rattle.spp_ways.specs.Logs.{rest_in}
use Rattle.spp_ways.specs.PathSums.{way_of, sums_on}
use Rattle.spp_ways.proofs.log.Log.add_up_rest.Given as goal

-- on each path what is left of the way, besides the stop, makes the sums
abbrev pub invariant-loop-stops : goal.invariant-loop-stops
invariant-loop-stops l = record {
  within : (on : Bool) → way_of on l.at ≤ length l.self.rows.items;
  apart : (on : Bool) → way_of on l.at ≡ way_of on l.stops → way_of on l.at ≡ 0;
  empty : l.left.items ≡ [];
  sums : (on : Bool) (key : Option ℕ) → plus (sums_on on l.sums key) (rest_in on l.self (way_of on l.at) (way_of on l.stops) key)
      ≡ plus (sums_on on l.fn.sums key) (rest_in on l.self (way_of on l.fn.ways) (way_of on l.stops) key);
}

abbrev pub decreases-loop-stops : goal.decreases-loop-stops
decreases-loop-stops l = l.at.plain + l.at.burdened
