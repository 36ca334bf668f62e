use Rattle.std.proofs.Common.{◌≡◌, ◌<◌, ◌^◌, take, reverse, sym, ap, subst, arith}
use Rattle.std.proofs.lemmas.List.{take_all}
use Rattle.spp_piece.specs.Bound.{load_frames}
use Rattle.spp_summary.specs.KeptFrames.{frames_of, AreLaid}
use Rattle.spp_summary.proofs.ReadEvents.{laid_from}
use Rattle.spp_summary.proofs.frames.FrameReader.new.Goals as goal

pub invariant_of-result : goal.invariant_of-result
invariant_of-result c =
    let p = c.args.storage.now in
    let xs = p.opens.items in
    let ts = p.states.items in
    let i = c.len.ensures in
    let j = c.len-2.ensures in
    let k = p.opens.ok.0 in
    let l = p.states.ok.0 in
    let os : reverse (take c.len.result xs) ≡ reverse xs = ap reverse (take_all c.len.result xs (omega arith)) in
    let ss : reverse (take c.len-2.result ts) ≡ reverse ts = ap reverse (take_all c.len-2.result ts (omega arith)) in
    record {
      laid = subst (λ os. AreLaid p.run p.before os (reverse (take c.len-2.result ts)) 0) (sym os)
          (subst (λ ss. AreLaid p.run p.before (reverse xs) ss 0) (sym ss) (laid_from p.run p.before p.since (reverse xs) (reverse ts) c.requires.laid));
      load = subst (λ os. load_frames (frames_of p.run p.before os (reverse (take c.len-2.result ts))) < 2 ^ 127) (sym os)
          (subst (λ ss. load_frames (frames_of p.run p.before (reverse xs) ss) < 2 ^ 127) (sym ss) c.requires.load);
      left_fits = omega arith;
      kept_fits = omega arith;
    }
