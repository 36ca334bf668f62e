use Rattle.std.proofs.Common.{ℕ}
use Rattle.spp_event.specs.Recordings.{Recording}
use Rattle.spp_part.specs.Readings.{IsReading}
use Rattle.spp_part.proofs.RecordParts.{Has}
use Rattle.spp_part.proofs.part_profile.PartProfile.of_bytes_by.Given as goal

abbrev pub invariant-loop-at : goal.invariant-loop-at
invariant-loop-at g l = record {
  is : (trace : Recording) (first : ℕ) → Has g.B.BytesReader.version l.sites l.funcs l.count l.bytes trace first → IsReading trace l.burdens first l.at l.reading;
  next : g.B.BytesReader.stands l.reader l.bytes l.at;
}
