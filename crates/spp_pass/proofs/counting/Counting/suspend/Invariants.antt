use Rattle.std.proofs.Common.{reverse, drop}
use Rattle.spp_dag.specs.Shares.{plus}
use Rattle.spp_site.specs.Profiles.{key_row}
use Rattle.spp_pass.specs.Outside.{local_rows}
use Rattle.spp_pass.proofs.Suspending.{Whole}
use Rattle.spp_pass.proofs.counting.Counting.suspend.Given as goal

-- the frames before the index have their strands in their rows
abbrev pub invariant-loop-frame : goal.invariant-loop-frame
invariant-loop-frame l = Whole l.table (drop l.frame-index l.fn.self.frames.items) (λ key. plus (key_row l.fn.self.table key) (local_rows (reverse l.fn.self.frames.items) key))
