use Rattle.std.proofs.Common.{drop}
use Rattle.spp_dag.specs.Shares.{plus}
use Rattle.spp_ways.specs.Enclosures.{enclosure_of}
use Rattle.spp_pass.specs.CallRows.{calls_row}
use Rattle.spp_pass.specs.CallFrames.{calls_of, stretch_calls}
use Rattle.spp_site.specs.Profiles.{key_row}
use Rattle.spp_pass.proofs.CallFrames.{Lacks}
use Rattle.spp_pass.proofs.owed.add_stretch.Given as goal

-- the rows before the index have been added
abbrev pub invariant-loop-call : goal.invariant-loop-call
invariant-loop-call l = Lacks (key_row l.table) (enclosure_of l.enclosing) (drop l.call-index l.calls.rows.items) (λ key. plus (key_row l.fn.table key) (calls_row (enclosure_of l.enclosing) l.calls.rows.items key))

-- all rows, and the frames before the index
abbrev pub invariant-loop-frame : goal.invariant-loop-frame
invariant-loop-frame l = Lacks (key_row l.table) (enclosure_of l.enclosing) (calls_of (drop l.frame-index l.calls.frames.items)) (λ key. plus (key_row l.fn.table key) (calls_row (enclosure_of l.enclosing) (stretch_calls l.calls) key))
