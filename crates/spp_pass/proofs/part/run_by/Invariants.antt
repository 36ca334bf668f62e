use Rattle.std.proofs.Common.{◌+◌}
use Rattle.spp_pass.specs.Passes.{seen}
use Rattle.spp_pass.proofs.Going.{Going}
use Rattle.spp_pass.proofs.part.run_by.Given as goal

-- as far as the event at `k` of the part the pass has run
abbrev pub invariant-loop-k : goal.invariant-loop-k
invariant-loop-k g l = record { going : Going l.part.trace l.fn.burdens l.part.first (l.first + l.k) l.outside (seen l.summing); next : g.R.Reader.stands l.events l.part.trace (l.part.first + l.k) }
