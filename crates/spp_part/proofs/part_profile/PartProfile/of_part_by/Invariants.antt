use Rattle.std.proofs.Common.{◌+◌}
use Rattle.spp_part.proofs.part_profile.PartProfile.of_part_by.Given as goal
use Rattle.spp_part.specs.Readings.{IsReading}

abbrev pub invariant-loop-at : goal.invariant-loop-at
invariant-loop-at g l = record {
  is : IsReading l.part.trace l.burdens l.part.first l.at l.reading;
  stands : g.R.Reader.stands l.events l.part.trace (l.part.first + l.at);
}
