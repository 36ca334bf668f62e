use Rattle.std.proofs.Common.{◌≡◌, ◌++◌, ◌-◌, map, take, drop}
use Rattle.spp_ways.specs.Stretches.{joined_frame}
use Rattle.spp_ways.proofs.open_ways.OpenWays.open_inner.Given as goal

abbrev pub invariant-loop-k : goal.invariant-loop-k
invariant-loop-k l = record {
  frames : l.self.frames.items ≡ l.fn.self.frames.items ++ map (joined_frame l.links l.fn.self.limit) (take (l.k - 1) (drop 1 l.stretch.frames.items));
  log : l.self.log ≡ l.fn.self.log;
  limit : l.self.limit ≡ l.fn.self.limit;
}
