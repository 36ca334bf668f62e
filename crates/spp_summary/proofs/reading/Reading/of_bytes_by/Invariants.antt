use Rattle.std.proofs.Common.{◌≡◌, ◌+◌, None, drop}
use Rattle.spp_event.specs.Recordings.{records_of}
use Rattle.spp_piece.specs.Machine.{events}
use Rattle.spp_piece.specs.Summary.{summary_ops, summary_of}
use Rattle.spp_piece.specs.Bound.{IsSmall}
use Rattle.spp_summary.specs.Reading.{so_far, IsLaid}
use Rattle.spp_summary.proofs.reading.Reading.of_bytes_by.Given as goal

-- what is left to read makes of the summary so far that of the events
abbrev pub invariant-loop-k : goal.invariant-loop-k
invariant-loop-k g l =
    record {
      value : events (summary_ops l.burdens) (l.first + l.k) (drop l.k (records_of g.B.BytesReader.version l.sites l.funcs l.count l.bytes)) (so_far l.reading) ≡ summary_of l.burdens l.first (records_of g.B.BytesReader.version l.sites l.funcs l.count l.bytes);
      small : IsSmall l.burdens l.k (so_far l.reading);
      sound : l.reading.fault ≡ None;
      laid : IsLaid l.reading;
      next : g.B.BytesReader.stands l.reader l.bytes l.k;
    }
