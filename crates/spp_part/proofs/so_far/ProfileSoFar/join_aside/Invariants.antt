use Rattle.std.proofs.Common.{◌≡◌, ℕ}
use Rattle.std.specs.Vec.Iter.{into_iter_items}
use Rattle.spp_event.specs.Recordings.{Recording}
use Rattle.spp_part.specs.Parts.{Rows, IsSoFarBut, IsPartProfile, rest_of}
use Rattle.spp_part.proofs.Parting.{Since}
use Rattle.spp_part.proofs.so_far.ProfileSoFar.join_aside.Given as goal

-- what has come so far, and the stretches that are left
abbrev pub invariant-loop-ended : goal.invariant-loop-ended
invariant-loop-ended l = (goal.iterator-loop-ended).can_next l.ended-iterator × (goal.iterator-loop-ended).is_finite l.ended-iterator × record {
  since : (lent : Rows) (trace : Recording) (i count : ℕ) → IsSoFarBut lent trace l.burdens i l.fn.self → (h : IsPartProfile trace l.burdens i count l.fn.part)
      → Since trace l.burdens i count l.fn.part h (rest_of l.self lent) (into_iter_items l.ended-iterator) l.self.counting l.self.ways;
  events : l.self.events ≡ l.fn.self.events;
}
