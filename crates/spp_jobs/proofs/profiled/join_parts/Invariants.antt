use Rattle.std.proofs.Common.{ℕ}
use Rattle.std.specs.VecDeque.{deque_len}
use Rattle.spp_event.specs.Recordings.{Recording}
use Rattle.spp_part.specs.Parts.{IsSoFar}
use Rattle.spp_jobs.specs.ProfilePieces.{Follow}
use Rattle.spp_jobs.proofs.profiled.join_parts.Given as goal

-- whatever the profile and the parts were of, the profile has come to a position from which the parts that are left lead on
abbrev pub invariant-loop-part : goal.invariant-loop-part
invariant-loop-part l =
    (trace : Recording) (i k : ℕ) → IsSoFar trace l.burdens i l.fn.so_far → Follow trace l.burdens i l.fn.parts.items k
    → (m : ℕ) × IsSoFar trace l.burdens m l.so_far × Follow trace l.burdens m l.parts.items k

abbrev pub decreases-loop-part : goal.decreases-loop-part
decreases-loop-part l = deque_len l.parts
