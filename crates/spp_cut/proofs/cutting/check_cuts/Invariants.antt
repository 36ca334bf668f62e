use Rattle.spp_cut.specs.Cuts.{AreGoodTo}
use Rattle.spp_cut.proofs.cutting.check_cuts.Given as goal

-- the cuts before this one are good
abbrev pub invariant-loop-index : goal.invariant-loop-index
invariant-loop-index l = AreGoodTo l.events l.cuts l.index
