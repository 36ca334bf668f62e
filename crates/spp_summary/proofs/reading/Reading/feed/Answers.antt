use Rattle.std.proofs.Common.{◌≡◌, ℕ, ◌-◌, ◌+◌, ◌<◌, ◌∷◌, length, reverse, vec_len, true, sym, ap, ◌∙◌, arith, refl}
use Rattle.std.proofs.lemmas.List.{length-reverse}
use Rattle.spp_piece.specs.declared.states.ClosingWeights.{ClosingWeights}
use Rattle.spp_piece.specs.Pair.{after_return, after_return_by}
use Rattle.spp_piece.specs.Bound.{worst}
use Rattle.spp_summary.specs.KeptFrames.{kept_of, past, ran, frame_of}
use Rattle.spp_summary.proofs.ReadEvents.{as_kept, ends_at, feed_ends, feed_fits, Fits}
use Rattle.spp_summary.proofs.reading.Reading.feed.Goals as goal

fits : (c : goal.After-receive-arg-3-1) → Fits c.index_mut-kept.result.now.states (c.args.child.now.gap - c.index_mut-kept.result.now.counted) c.leave-weights.result
fits c =
    let p = c.args.self.now in
    let k = c.args.child.now in
    let xs = p.opens.items in
    let ts = c.keep.new.states.items in
    let ss = reverse p.states.items in
    let top = c.in-Some.top.now in
    let s = c.index_mut-kept.result.now in
    let ok = p.opens.ok.0 in
    let n = c.in-Some.ensures.variant.0 refl in
    let last = vec_len p.opens - 1 in
    let os = ends_at xs last last top top (omega arith) (omega arith) (omega arith) c.in-Some.ensures.value in
    let et : reverse ts ≡ kept_of top.kept (past k.kept ss) ∷ past top.kept (past k.kept ss) =
    c.in_ok-keep.ensures.states ∙ ap (λ ks. kept_of top.kept ks ∷ past top.kept ks) c.leave-weights.ensures.states in
    let i = c.len-last.ensures in
    let j = c.keep.new.states.ok.0 in
    let lt : 0 < length ts = omega (arith, length-reverse ts, ap length et) in
    let end = c.len-last.result - 1 in
    let us = ends_at ts end end s s lt (omega arith) (omega arith) c.index_mut-kept.ensures.value in
    let both : s ∷ us.below ≡ kept_of top.kept (past k.kept ss) ∷ past top.kept (past k.kept ss) = sym us.old ∙ et in
    feed_fits p.returns.items p.middle p.since ss p.run p.before p.fault (worst c.args.burdens) k top (reverse xs) os.below s c.leave-weights.result os.old c.requires.load (cc) c.leave-weights.ensures.weights

pub receive-requires-2 : goal.receive-requires-2
receive-requires-2 c =
    let f = fits c in
    record { plain = omega (arith, f.plain); burdened = omega (arith, f.burdened) }

pub returns : goal.returns
returns c =
    let p = c.args.self.now in
    let k = c.args.child.now in
    let xs = p.opens.items in
    let ts = c.keep.new.states.items in
    let ss = reverse p.states.items in
    let top = c.in-Some.top.now in
    let s = c.index_mut-kept.result.now in
    let x = as_kept c.receive-2.new.self (p.run + k.gap) in
    let y = c.keep.new.top in
    let ok = p.opens.ok.0 in
    let n = c.in-Some.ensures.variant.0 refl in
    let last = vec_len p.opens - 1 in
    let os = ends_at xs last last top y (omega arith) (omega arith) (omega arith) c.in-Some.ensures.value in
    let ey : y ≡ record top { kept = true } = c.in_ok-keep.ensures.top in
    let et : reverse ts ≡ kept_of top.kept (past k.kept ss) ∷ past top.kept (past k.kept ss) =
    c.in_ok-keep.ensures.states ∙ ap (λ ks. kept_of top.kept ks ∷ past top.kept ks) c.leave-weights.ensures.states in
    let i = c.len-last.ensures in
    let j = c.keep.new.states.ok.0 in
    let lt : 0 < length ts = omega (arith, length-reverse ts, ap length et) in
    let end = c.len-last.result - 1 in
    let us = ends_at ts end end s x lt (omega arith) (omega arith) c.index_mut-kept.ensures.value in
    let ex : x ≡ as_kept (after_return c.args.burdens (frame_of p.run p.before k (kept_of k.kept ss)) (ran k.gap s)) (p.run + k.gap) =
    ap (λ x. as_kept x (p.run + k.gap)) (c.receive-2.ensures ∙ ap (λ (g : ClosingWeights). after_return_by k.kind c.args.burdens k.at g.plain g.burdened (ran k.gap s)) c.leave-weights.ensures.weights) in
    let now = λ (at : ℕ). feed_ends p.returns.items p.middle p.since p.fault p.run p.before xs _ ts _ top s x ss c.args.burdens at k y os ey us et ex c.requires.laid in
    record { value = λ at. (now at).value; laid = (now 0).laid; fault = refl }
