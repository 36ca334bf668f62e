use Rattle.std.proofs.Common.{◌≡◌, ℕ, ◌<◌, true, length, get_or}
use Rattle.spp_maxplus.specs.State.{unburdened}
use Rattle.spp_dag.specs.Trace.{is_frame, closing}
use Rattle.spp_dag.specs.Dag.{IsGreatest}
use Rattle.spp_reference.proofs.answers.spans.Given as goal

abbrev pub invariant-loop-at : goal.invariant-loop-at
invariant-loop-at l = record {
  count : length l.spans.items ≡ l.at;
  are : (f : ℕ) → f < l.at → is_frame l.dag f ≡ true → IsGreatest l.dag unburdened f (closing l.dag f) (get_or l.spans.items f 0);
}
