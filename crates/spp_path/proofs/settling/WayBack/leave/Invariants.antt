use Rattle.std.proofs.Common.{length}
use Rattle.spp_path.specs.Settling.{IsLeft}
use Rattle.spp_path.proofs.settling.WayBack.leave.Given as goal

abbrev pub invariant-loop-spawn : goal.invariant-loop-spawn
invariant-loop-spawn l = IsLeft l.at l.initial.self l.self

abbrev pub decreases-loop-spawn : goal.decreases-loop-spawn
decreases-loop-spawn l = length l.self.ahead.items
