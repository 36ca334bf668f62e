use Rattle.spp_cut.specs.Cuts.{AreGoodTo}
use Rattle.spp_cut.proofs.cutting_bytes.check_offsets.Given as goal

-- the offsets before this one are good
abbrev pub invariant-loop-index : goal.invariant-loop-index
invariant-loop-index l = AreGoodTo l.end l.cuts l.index
