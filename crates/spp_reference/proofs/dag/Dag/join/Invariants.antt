use Rattle.std.proofs.Common.{◌≡◌, ℕ, ◌<◌, ◌≤◌, suc, false}
use Rattle.spp_dag.specs.Trace.{partner}
use Rattle.spp_reference.proofs.Frames.{waits}
use Rattle.spp_reference.proofs.dag.Dag.join.Given as goal

-- no position so far is the one
abbrev pub invariant-loop-at : goal.invariant-loop-at
invariant-loop-at l = (j : ℕ) → suc (partner l.self l.s) ≤ j → j < l.at → waits l.self l.s j ≡ false
