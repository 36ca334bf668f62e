use Rattle.std.proofs.Common.{ℕ, length, ◌≤◌}
use Rattle.spp_event.specs.Recordings.{Recording}
use Rattle.spp_crew.specs.Joinings.{HasCome}
use Rattle.spp_crew.proofs.joining.Joining.join_all.Given as goal

-- all that has come still has, and no thread was started
abbrev pub invariant-loop-alloc : goal.invariant-loop-alloc
invariant-loop-alloc g l = ((trace : Recording) (k : ℕ) → HasCome g.A.SoFar.is_so_far trace l.fn.burdens k l.fn.self → HasCome g.A.SoFar.is_so_far trace l.fn.burdens k l.joining)
    × (length l.joining.pool.threads.items ≤ length l.fn.self.pool.threads.items)

abbrev pub decreases-loop-alloc : goal.decreases-loop-alloc
decreases-loop-alloc g l = length l.joining.waiting.items
