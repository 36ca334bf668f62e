use Rattle.std.proofs.Common.{◌≡◌}
use Rattle.spp_pass.proofs.calls.Calls.add_next.Given as goal

-- nothing has changed
abbrev pub invariant-loop-step : goal.invariant-loop-step
invariant-loop-step l = l.self ≡ l.fn.self
