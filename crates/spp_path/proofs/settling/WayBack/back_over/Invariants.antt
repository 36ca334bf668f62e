use Rattle.std.proofs.Common.{◌+◌, ◌≤◌, length}
use Rattle.spp_path.proofs.Stages.{Settles}
use Rattle.spp_path.proofs.settling.WayBack.back_over.Given as goal

abbrev pub invariant-loop-note : goal.invariant-loop-note
invariant-loop-note l = record {
  ends : l.left.ends ≤ length l.ends;
  joins : l.left.joins ≤ length l.joins;
  settles : Settles l.ends l.joins l.left.ends l.left.joins l.fn.self l.self;
}

abbrev pub decreases-loop-note : goal.decreases-loop-note
decreases-loop-note l = l.left.ends + l.left.joins
