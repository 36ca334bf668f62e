use Rattle.std.proofs.Common.{◌≡◌, ◌-◌, ◌<◌, ◌∷◌, true, length, reverse, sym, ap, ◌∙◌, arith, refl}
use Rattle.std.specs.VecDeque.{deque_len}
use Rattle.std.proofs.lemmas.List.{length-reverse}
use Rattle.spp_piece.specs.Bound.{cost}
use Rattle.spp_piece.specs.Pair.{act}
use Rattle.spp_summary.specs.KeptFrames.{kept_of, past, ran}
use Rattle.spp_summary.proofs.ReadEvents.{as_kept, ends_at, settle_ends, settle_fits}
use Rattle.spp_summary.proofs.storage.Storage.change_innermost.Goals as goal

pub run-requires-2 : goal.run-requires-2
run-requires-2 c =
    let p = c.args.self.now in
    let xs = p.opens.items in
    let ts = c.keep.new.states.items in
    let k = reverse p.states.items in
    let top = c.in-Some.top.now in
    let s = c.index_mut-kept.result.now in
    let ok = p.opens.ok.0 in
    let n = c.in-Some.ensures.variant.0 refl in
    let last = deque_len p.opens - 1 in
    let i = c.len-last.ensures in
    let j = c.keep.new.states.ok.0 in
    let et = c.keep.ensures.states in
    let lt : 0 < length ts = omega (arith, length-reverse ts, ap length et) in
    let end = c.len-last.result - 1 in
    let os = ends_at xs last last top top (omega arith) (omega arith) (omega arith) c.in-Some.ensures.value in
    let us = ends_at ts end end s s lt (omega arith) (omega arith) c.index_mut-kept.ensures.value in
    let both : s ∷ us.below ≡ kept_of top.kept k ∷ past top.kept k = sym us.old ∙ et in
    let f = settle_fits p.returns.items p.middle p.since k p.run p.before p.fault (cost c.args.segs.now) top (reverse xs) os.below s os.old c.requires.load (cc) in
    record { plain = omega (arith, f.plain); burdened = omega (arith, f.burdened) }

pub returns : goal.returns
returns c =
    let p = c.args.self.now in
    let xs = p.opens.items in
    let ts = c.keep.new.states.items in
    let k = reverse p.states.items in
    let top = c.in-Some.top.now in
    let s = c.index_mut-kept.result.now in
    let ok = p.opens.ok.0 in
    let n = c.in-Some.ensures.variant.0 refl in
    let last = deque_len p.opens - 1 in
    let i = c.len-last.ensures in
    let j = c.keep.new.states.ok.0 in
    let et = c.keep.ensures.states in
    let lt : 0 < length ts = omega (arith, length-reverse ts, ap length et) in
    let end = c.len-last.result - 1 in
    let y = c.keep.new.top in
    let x = as_kept c.apply-kept.result c.args.next in
    let os = ends_at xs last last top y (omega arith) (omega arith) (omega arith) c.in-Some.ensures.value in
    let us = ends_at ts end end s x lt (omega arith) (omega arith) c.index_mut-kept.ensures.value in
    let ey : y ≡ record top { kept = true } = c.keep.ensures.top in
    let ex : x ≡ as_kept (act c.args.segs.now (ran p.run s)) c.args.next =
    ap (λ x. as_kept x c.args.next) (c.apply-kept.ensures ∙ ap (act c.args.segs.now) c.run-2.ensures) in
    let now = settle_ends p.returns.items p.middle p.since p.fault p.run p.before xs _ ts _ top s x k c.args.segs.now c.args.next y os ey us et ex c.requires.laid in
    record {
      value = now.value;
      laid = now.laid;
      run = refl;
      before = refl;
      fault = refl;
      returns = refl;
      opens_capacity = refl;
      opens_len = refl;
      states_capacity = c.keep.ensures.capacity;
      states_len = c.keep.ensures.len;
    }
