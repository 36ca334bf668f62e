use Rattle.spp_pass.specs.CallFrames.{calls_so_far}
use Rattle.spp_pass.specs.Passes.{seen_with}
use Rattle.spp_part.specs.declared.part_profile.Reading.{Reading}
use Rattle.spp_part.proofs.Going.{open_goes}
use Rattle.spp_part.proofs.part_profile.Reading.open.Goals as goal

pub returns : goal.returns
returns c trace burdens first event opens ahead =
    let r : Reading = c.args.self.now in
    let is = ahead.is in
    let w = c.in_ok-open-2.ensures in
    record {
      bounds = is.bounds;
      to = is.to;
      notes = is.notes;
      ended = is.ended;
      going = open_goes trace burdens is.bounds first is.to c.args.at ahead.within r.settled (seen_with r.counting is.notes) (calls_so_far r.calls) r.ways is.going
          (seen_with c.open.new.self is.notes) c.open-2.new.self c.args.kind c.args.site c.args.func event opens ahead.at (c.in_ok-open.ensures is.notes) (w.stretch is.going.last.laid) w.rows w.enclosed;
    }
