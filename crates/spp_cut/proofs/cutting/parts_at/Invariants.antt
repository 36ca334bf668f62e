use Rattle.std.proofs.Common.{◌≡◌, ◌∷◌, ◌++◌, [], length, map, take, drop}
use Rattle.spp_cut.specs.Parts.{Cover}
use Rattle.spp_cut.specs.Cuts.{AreInOrder}
use Rattle.spp_cut.proofs.cutting.parts_at.Given as goal

-- the parts so far hold the events before the last position, below which no other one is
abbrev pub invariant-loop-number : goal.invariant-loop-number
invariant-loop-number l = record {
  count : length l.parts.items ≡ l.number;
  cover : Cover l.trace 0 0 l.parts.items l.first;
  in_order : AreInOrder l.first (drop l.number l.positions) l.events;
  begins : map (λ p. p.first) l.parts.items ++ l.first ∷ [] ≡ 0 ∷ take l.number l.positions;
}
