use Rattle.std.proofs.Common.{sym, arith}
use Rattle.spp_summary.proofs.Inwards.{from_outside}
use Rattle.spp_summary.proofs.inward_frames.InwardFrames.new.Goals as goal

pub invariant_of-result : goal.invariant_of-result
invariant_of-result c =
    let p = c.args.storage.now in
    let o = from_outside p.run p.before p.since p.opens.items p.states.items c.requires.laid in
    record {
      laid = o.laid;
      load = omega (arith, o.load, c.requires.load);
      work = omega (arith, o.work);
      read_fits = omega arith;
      kept_fits = omega arith;
    }

pub returns : goal.returns
returns c =
    let p = c.args.storage.now in
    sym (from_outside p.run p.before p.since p.opens.items p.states.items c.requires.laid).frames
