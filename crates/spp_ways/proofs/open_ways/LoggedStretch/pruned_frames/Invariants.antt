use Rattle.std.proofs.Common.{◌≡◌, ◌-◌, ◌∷◌, map, take, drop}
use Rattle.spp_ways.specs.Pruning.{pruned_frame, marks_of}
use Rattle.spp_ways.proofs.open_ways.LoggedStretch.pruned_frames.Given as goal

abbrev pub invariant-loop-k : goal.invariant-loop-k
invariant-loop-k l = l.frames.items ≡ map (pruned_frame (marks_of l.kept)) (l.self.outer ∷ take (l.k - 1) (drop 1 l.self.frames.items))
