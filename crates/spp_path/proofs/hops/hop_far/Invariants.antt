use Rattle.std.proofs.Common.{◌-◌, ◌≤◌, ◌<◌, get_or, map}
use Rattle.spp_path.proofs.hops.hop_far.Given as goal

-- the one at `high`, if it is among those, stands after the spawn
abbrev pub invariant-loop-step : goal.invariant-loop-step
invariant-loop-step g l = record {
  some : 1 ≤ l.step;
  most : l.high ≤ l.left;
  past : l.high < l.left → l.spawn < get_or (map g.N.Placed.place l.choices) l.high 0;
}

abbrev pub decreases-loop-step : goal.decreases-loop-step
decreases-loop-step g l = l.high

-- and the one before `low`, if there is one, at the spawn or before it
abbrev pub invariant-loop-low : goal.invariant-loop-low
invariant-loop-low g l = record {
  order : l.low ≤ l.high;
  most : l.high ≤ l.left;
  past : l.high < l.left → l.spawn < get_or (map g.N.Placed.place l.choices) l.high 0;
  kept : 0 < l.low → get_or (map g.N.Placed.place l.choices) (l.low - 1) 0 ≤ l.spawn;
}

abbrev pub decreases-loop-low : goal.decreases-loop-low
decreases-loop-low g l = l.high - l.low
