use Rattle.std.proofs.Common.{◌≡◌, ℕ, suc, ◌<◌, ◌≤◌, false}
use Rattle.spp_dag.proofs.Depth.{closes}
use Rattle.spp_reference.proofs.dag.partner.Given as goal

-- no position so far closes the frame
abbrev pub invariant-loop-at : goal.invariant-loop-at
invariant-loop-at l = (j : ℕ) → suc l.i ≤ j → j < l.at → closes l.events l.i j ≡ false
