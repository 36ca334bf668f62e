use Rattle.std.proofs.Common.{◌≡◌}
use Rattle.spp_pass.proofs.calls.Calls.make_places.Given as goal

-- the rows stay
abbrev pub invariant-loop-number : goal.invariant-loop-number
invariant-loop-number l = l.self.rows ≡ l.fn.self.rows
