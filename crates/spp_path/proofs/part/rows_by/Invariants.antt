use Rattle.std.proofs.Common.{◌+◌}
use Rattle.spp_path.specs.Rows.{told}
use Rattle.spp_path.specs.Spans as lean
use Rattle.spp_path.proofs.AlongPath.{SpansSoFar, PathSoFar, Way}
use Rattle.spp_path.proofs.part.rows_by.Given as goal

-- as far as the event at `k` of the part the open frames have their weights, the rows of the path are in the table or owed,
-- and the spawns from there on are left
abbrev pub invariant-loop-k : goal.invariant-loop-k
invariant-loop-k g l = record {
  weights : SpansSoFar l.part l.fn.entry (l.first + l.k) l.outside (lean.spans l.spans);
  path : PathSoFar l.part l.fn.entry (Way l.part l.fn.entry l.fn.live l.fn.trail l.entered-2) (l.first + l.k) l.outside_path (told l.rows) l.entered;
  next : g.R.Reader.stands l.events l.part.trace (l.part.first + l.k);
}
