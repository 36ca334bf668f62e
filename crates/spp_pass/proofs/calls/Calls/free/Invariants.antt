use Rattle.std.proofs.Common.{◌≡◌}
use Rattle.spp_pass.proofs.calls.Calls.free.Given as goal

-- the rows stay
abbrev pub invariant-loop-step : goal.invariant-loop-step
invariant-loop-step l = l.self.rows ≡ l.fn.self.rows
