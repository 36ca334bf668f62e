use Rattle.std.proofs.Common.{◌+◌, subst}
use Rattle.spp_ways.specs.Stretches.{stretch_rows, stretch_frames}
use Rattle.spp_pass.specs.CallFrames.{calls_so_far}
use Rattle.spp_pass.specs.Passes.{Seen, seen_with}
use Rattle.spp_part.specs.declared.stretch.Stretch.{Stretch}
use Rattle.spp_part.specs.declared.part_profile.Reading.{Reading}
use Rattle.spp_part.specs.Parts.{Takes, stretch_of}
use Rattle.spp_part.proofs.Pruned.{takes_same}
use Rattle.spp_part.proofs.Readings.{told_stretch}
use Rattle.spp_part.proofs.part_profile.Reading.finish.Goals as goal

pub returns : goal.returns
returns c trace burdens first count is cut within =
    let r : Reading = c.args.self in
    let good = c.args.good in
    let a : Seen = seen_with r.counting is.notes in
    let told = c.into_stretch-2.ensures in
    let all : Stretch = record { counted = c.into_stretch-2.result; calls = c.into_calls.result; logged = c.into_stretch.result } in
    let same = told_stretch a (calls_so_far r.calls) r.ways all told.0 told.1 c.into_calls.ensures c.into_stretch.ensures.rows c.into_stretch.ensures.frames in
    let x : Stretch = record { counted = c.into_stretch-2.result; calls = c.into_calls.result; logged = c.in_ok-logged.logged } in
    let kept = c.in_ok-logged.ensures in
    record {
      to = is.to;
      settled = r.settled;
      ended = is.ended;
      last = takes_same (stretch_of all) (stretch_rows x.logged) (stretch_frames x.logged) (record { laid = kept.stretch; same = kept.ways; few = kept.rows; many = kept.frames })
          trace burdens first (first + is.to) (first + good) r.settled (subst (Takes trace burdens first (first + is.to) (first + good) r.settled) same is.going.last);
      cut_off = cut;
      within = within;
    }
