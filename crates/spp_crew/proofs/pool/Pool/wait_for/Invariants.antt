use Rattle.std.proofs.Common.{ℕ, length, ◌≤◌, ◌≡◌}
use Rattle.spp_crew.proofs.pool.Pool.wait_for.Given as goal

abbrev pub invariant-loop-reader : goal.invariant-loop-reader
invariant-loop-reader g l = length l.self.threads.items ≤ length l.fn.self.threads.items

abbrev pub decreases-loop-reader : goal.decreases-loop-reader
decreases-loop-reader g l = length l.self.threads.items
