use Rattle.std.proofs.Common.{◌≡◌, ℕ, Bool, Option, length, reverse}
use Rattle.spp_dag.specs.Shares.{plus}
use Rattle.spp_ways.specs.Logs.{row_in}
use Rattle.spp_ways.specs.PathSums.{way_of, sums_on}
use Rattle.spp_ways.proofs.Summing.{all_rows, AllIn}
use Rattle.spp_ways.proofs.Pairs.{ways_on, turns, AllSome}
use Rattle.spp_ways.proofs.log.Log.add_up_both.Given as goal

-- on each path the rows of the ways that are left make the sums
abbrev pub invariant-loop-both : goal.invariant-loop-both
invariant-loop-both l = record {
  within : (on : Bool) → AllIn (length l.self.rows.items) (ways_on on l.left.items);
  some : AllSome l.left.items;
  sums : (on : Bool) (key : Option ℕ) → plus (sums_on on l.sums key) (all_rows on (reverse l.self.rows.items) (ways_on on l.left.items) key)
      ≡ plus (sums_on on l.fn.sums key) (row_in on l.self (way_of on l.fn.ways) key);
}

abbrev pub decreases-loop-both : goal.decreases-loop-both
decreases-loop-both l = turns (reverse l.self.rows.items) l.left.items
