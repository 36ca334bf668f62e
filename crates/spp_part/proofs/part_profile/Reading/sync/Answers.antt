use Rattle.std.proofs.Common.{◌≡◌, true, length, arith}
use Rattle.spp_pass.specs.CallFrames.{calls_so_far}
use Rattle.spp_pass.specs.Passes.{Notes, noted_sync, seen_with}
use Rattle.spp_part.specs.declared.part_profile.Reading.{Reading}
use Rattle.spp_part.proofs.Going.{sync_goes}
use Rattle.spp_part.proofs.part_profile.Reading.sync.Goals as goal
use Rattle.spp_part.proofs.part_profile.Reading.sync.Goals.{else-depth-eq0-via-then-depth-eq0+else-not-self, else-depth-eq0-via-else-depth-eq0}

pub returns : goal.returns
returns c trace burdens first ahead =
    let r : Reading = c.args.self.now in
    let is = ahead.is in
    let w = c.wait.ensures in
    let m : Notes = noted_sync c.args.at (seen_with r.counting is.notes).frames is.notes in
    let outer : length (seen_with r.counting is.notes).frames ≡ 1 → r.settled ≡ true = λ one.
    elim c.else-depth-eq0.branch [ else-depth-eq0-via-then-depth-eq0+else-not-self v ↦ v.if-not-self.false | else-depth-eq0-via-else-depth-eq0 v ↦ absurd (v.if-depth-eq0.false (let z : c.depth.result ≡ 0 = omega (arith, c.depth.ensures) in z)) ] in
    record {
      bounds = is.bounds;
      to = is.to;
      notes = m;
      ended = is.ended;
      going = sync_goes trace burdens is.bounds first is.to c.args.at ahead.within r.settled (seen_with r.counting is.notes) (calls_so_far r.calls) r.ways is.going
          (seen_with c.sync.new.self m) c.wait.new.self c.args.at c.takes-takes.result c.takes-takes.ensures outer ahead.at (c.sync.ensures c.args.at is.notes) (w.stretch is.going.last.laid) w.rows w.enclosed;
    }
