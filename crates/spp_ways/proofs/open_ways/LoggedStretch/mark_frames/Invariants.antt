use Rattle.std.proofs.Common.{◌-◌, ◌∷◌, take, drop, All}
use Rattle.spp_site.specs.Marks.{is_marked}
use Rattle.spp_ways.specs.Pruning.{AreWaysKept, AreAlso}
use Rattle.spp_ways.proofs.open_ways.LoggedStretch.mark_frames.Given as goal

abbrev pub invariant-loop-k : goal.invariant-loop-k
invariant-loop-k l = record {
  kept : All (AreWaysKept (is_marked l.marks)) (l.self.outer ∷ take (l.k - 1) (drop 1 l.self.frames.items));
  more : AreAlso (is_marked l.fn.marks) (is_marked l.marks);
}
