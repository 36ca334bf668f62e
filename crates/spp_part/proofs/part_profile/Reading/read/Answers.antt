use Rattle.std.proofs.Common.{ℕ, ◌+◌, subst}
use Rattle.spp_event.specs.declared.records.Event.TheVariants.{Strand}
use Rattle.spp_event.specs.Recordings.{Recording}
use Rattle.spp_pass.specs.CallFrames.{calls_so_far}
use Rattle.spp_pass.specs.Passes.{seen_with}
use Rattle.spp_part.specs.declared.part_profile.Reading.{Reading}
use Rattle.spp_part.specs.States.{IsEventAt}
use Rattle.spp_part.proofs.Going.{strand_goes}
use Rattle.spp_part.proofs.Readings.{fits_strand}
use Rattle.spp_part.proofs.part_profile.Reading.read.Goals as goal

pub strand-requires-in-Strand-clause-fits : goal.strand-requires-in-Strand-clause-fits
strand-requires-in-Strand-clause-fits c on =
    let trace : Recording = c.requires.0 in
    let first : ℕ = c.requires.1 in
    let ahead = c.requires.2 in
    let at : IsEventAt trace (first + c.args.at) (Strand c.in-Strand.count) = subst (IsEventAt trace (first + c.args.at)) c.in-Strand.is ahead.at in
    fits_strand trace c.args.burdens first c.args.at c.in-Strand.count c.args.self.now ahead.is ahead.within at.1 on

pub returns-in-Strand : goal.returns-in-Strand
returns-in-Strand c trace first ahead =
    let r : Reading = c.args.self.now in
    let is = ahead.is in
    let at : IsEventAt trace (first + c.args.at) (Strand c.in-Strand.count) = subst (IsEventAt trace (first + c.args.at)) c.in-Strand.is ahead.at in
    let w = c.strand-in-Strand.ensures in
    record {
      bounds = is.bounds;
      to = is.to;
      notes = is.notes;
      ended = is.ended;
      going = strand_goes trace c.args.burdens is.bounds first is.to c.args.at ahead.within r.settled (seen_with r.counting is.notes) (calls_so_far r.calls) r.ways is.going
          (seen_with c.strand.new.self is.notes) c.strand-in-Strand.new.self c.in-Strand.count at (c.strand.ensures is.notes) (w.stretch is.going.last.laid) w.rows w.enclosed;
    }
