use Rattle.std.proofs.Common.{◌≡◌, ℕ, drop}
use Rattle.spp_event.specs.Recordings.{Recording}
use Rattle.spp_part.specs.Parts.{IsSoFar, IsPartProfile, no_rows, rest_of}
use Rattle.spp_part.proofs.Parting.{Since}
use Rattle.spp_part.proofs.so_far.ProfileSoFar.join.Given as goal

-- what has come so far, and the stretches that are left
abbrev pub invariant-loop-ended : goal.invariant-loop-ended
invariant-loop-ended l = record {
  since : (trace : Recording) (i count : ℕ) → IsSoFar trace l.burdens i l.fn.self → (h : IsPartProfile trace l.burdens i count l.part) → Since trace l.burdens i count l.part h (rest_of l.fn.self no_rows) (drop l.ended-index l.part.ended.items) l.self.counting l.self.ways;
  events : l.self.events ≡ l.fn.self.events;
  aside : l.self.aside ≡ l.fn.self.aside;
}
