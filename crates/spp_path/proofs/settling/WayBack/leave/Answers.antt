use Rattle.std.proofs.Common.{rules, ◌≡◌, ◌-◌, take, length, Some, refl, arith}
use Rattle.spp_path.specs.declared.settling.WayBack.{WayBack}
use Rattle.spp_path.specs.Settling.{last}
use Rattle.spp_path.proofs.Found.{left_next}
use Rattle.spp_path.proofs.settling.WayBack.leave.Goals as goal

pub loop-spawn-preserved : goal.loop-spawn-preserved
loop-spawn-preserved c =
    let s : WayBack = c.loop-spawn.self in
    let new : WayBack = record { onward = s.onward; ahead = c.pop.new.self; behind = c.push.new.self } in
    let was : last s.ahead.items ≡ Some c.in-Some.spawn = search rules in
    let popped : c.pop.new.self.items ≡ take (length s.ahead.items - 1) s.ahead.items = search rules in
    left_next c.args.at c.in-Some.spawn c.args.self.now s new c.loop-spawn.invariant was popped c.in_ok-push.ensures.items (omega arith) refl
