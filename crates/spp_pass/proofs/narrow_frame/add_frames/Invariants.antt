use Rattle.std.proofs.Common.{drop}
use Rattle.spp_dag.specs.Shares.{plus}
use Rattle.spp_site.specs.Profiles.{key_row}
use Rattle.spp_ways.specs.Enclosures.{enclosure_of}
use Rattle.spp_pass.specs.CallRows.{calls_row}
use Rattle.spp_pass.specs.CallFrames.{calls_of}
use Rattle.spp_pass.proofs.CallFrames.{Lacks}
use Rattle.spp_pass.proofs.narrow_frame.add_frames.Given as goal

-- the frames before the index are in the table
abbrev pub invariant-loop-frame : goal.invariant-loop-frame
invariant-loop-frame l = Lacks (key_row l.table) (enclosure_of l.enclosing) (calls_of (drop l.frame-index l.frames)) (λ key. plus (key_row l.fn.table key) (calls_row (enclosure_of l.enclosing) (calls_of l.frames) key))
