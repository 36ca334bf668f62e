use Rattle.std.proofs.Common.{◌+◌}
use Rattle.spp_path.specs.Rows.{told}
use Rattle.spp_path.specs.Spans as lean
use Rattle.spp_path.proofs.AlongPath.{SpansSoFar, PathSoFar, Way, trail_of}
use Rattle.spp_path.proofs.both.both_rows_by.Given as goal

-- as far as the event at `k` of the part the open frames have their weights, and of each path the rows are in its table or
-- owed, and the spawns from there on are left
abbrev pub invariant-loop-k : goal.invariant-loop-k
invariant-loop-k g l = record {
  weights : SpansSoFar l.part l.fn.entry (l.first + l.k) l.outside (lean.spans l.spans);
  one : PathSoFar l.part l.fn.entry (Way l.part l.fn.entry l.fn.live.entry (trail_of l.fn.live) l.entered) (l.first + l.k) l.outside_path (told l.rows) l.left;
  other : PathSoFar l.part l.fn.entry (Way l.part l.fn.entry l.fn.other_live.entry (trail_of l.fn.other_live) l.other_entered) (l.first + l.k) l.other_outside (told l.other_rows) l.other_left;
  next : g.R.Reader.stands l.events l.part.trace (l.part.first + l.k);
}
