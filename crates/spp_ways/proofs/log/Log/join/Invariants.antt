use Rattle.std.proofs.Common.{◌≡◌, ◌++◌, ◌-◌, map, take, drop}
use Rattle.spp_ways.specs.Enclosures.{enclosure_of}
use Rattle.spp_ways.specs.Stretches.{joined_row}
use Rattle.spp_ways.proofs.log.Log.join.Given as goal

abbrev pub invariant-loop-k : goal.invariant-loop-k
invariant-loop-k l = l.self.rows.items ≡ l.fn.self.rows.items ++ map (joined_row l.links (enclosure_of l.enclosing)) (take (l.k - 1) (drop 1 l.stretch.rows.items))
