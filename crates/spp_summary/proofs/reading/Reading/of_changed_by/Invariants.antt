use Rattle.std.proofs.Common.{◌≡◌, None, drop}
use Rattle.spp_change.specs.Changed.{changed, changed_from}
use Rattle.spp_piece.specs.Machine.{events}
use Rattle.spp_piece.specs.Summary.{summary_ops, summary_of}
use Rattle.spp_piece.specs.Bound.{IsSmall}
use Rattle.spp_summary.specs.Reading.{so_far, sites_in, IsLaid}
use Rattle.spp_summary.proofs.reading.Reading.of_changed_by.Given as goal

-- what is left to read, changed, makes of the summary so far that of the changed run
abbrev pub invariant-loop-k : goal.invariant-loop-k
invariant-loop-k g l =
    record {
      value : events (summary_ops l.burdens) l.k (changed_from l.change (sites_in (so_far l.reading).frames) (drop l.k l.trace.records)) (so_far l.reading) ≡ summary_of l.burdens 0 (changed l.change l.trace.records);
      small : IsSmall l.burdens l.k (so_far l.reading);
      sound : l.reading.fault ≡ None;
      laid : IsLaid l.reading;
      next : g.R.Reader.stands l.reader l.trace l.k;
    }
