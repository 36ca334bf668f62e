use Rattle.std.proofs.Common.{◌≡◌, ℕ, ◌<◌, ◌≤◌, ◌-◌, false}
use Rattle.spp_reference.proofs.Frames.{holds}
use Rattle.spp_reference.proofs.dag.owner.Given as goal

-- no later position begins a frame that holds k
abbrev pub invariant-loop-before : goal.invariant-loop-before
invariant-loop-before l = (j : ℕ) → l.k - l.before < j → j ≤ l.k → holds l.events l.k j ≡ false
