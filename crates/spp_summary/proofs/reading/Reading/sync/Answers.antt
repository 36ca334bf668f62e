use Rattle.std.proofs.Common.{◌-◌, reverse, sym, ap, ap₂, ◌∙◌, arith, refl}
use Rattle.spp_piece.specs.Pair.{after_sync}
use Rattle.spp_summary.specs.KeptFrames.{kept_of}
use Rattle.spp_summary.proofs.ReadEvents.{as_kept, ends_at, same_end, settle_fits, top_counted, top_kept, sync_ends}
use Rattle.spp_summary.proofs.reading.Reading.sync.Goals as goal

pub overflow_sub-self-then-top : goal.overflow_sub-self-then-top
overflow_sub-self-then-top c =
    let p = c.args.self.now in
    let xs = p.opens.items in
    let ts = p.states.items in
    let top = c.in-Some.top.now in
    let s = c.index_mut-kept.result.now in
    let j = p.states.ok.0 in
    let os = same_end xs _ top c.deref.ensures.value c.in-Some.ensures.item.3.0 c.in-Some.ensures.item.1 in
    let lt = top_kept p.run p.before p.since xs ts top os.below os.old c.if-top.true c.requires.laid in
    let i = c.len-last.ensures in
    let end = c.len-last.result - 1 in
    let ss = ends_at ts end end s s lt (omega arith) (omega arith) c.index_mut-kept.ensures.value in
    top_counted p.run p.before p.since (reverse xs) os.below top (reverse ts) s os.old (sym (ap₂ kept_of c.if-top.true ss.old)) c.requires.laid

pub run-requires-then-top : goal.run-requires-then-top
run-requires-then-top c =
    let p = c.args.self.now in
    let xs = p.opens.items in
    let ts = p.states.items in
    let top = c.in-Some.top.now in
    let s = c.index_mut-kept.result.now in
    let j = p.states.ok.0 in
    let os = same_end xs _ top c.deref.ensures.value c.in-Some.ensures.item.3.0 c.in-Some.ensures.item.1 in
    let lt = top_kept p.run p.before p.since xs ts top os.below os.old c.if-top.true c.requires.laid in
    let i = c.len-last.ensures in
    let end = c.len-last.result - 1 in
    let ss = ends_at ts end end s s lt (omega arith) (omega arith) c.index_mut-kept.ensures.value in
    let f = settle_fits p.returns.items p.middle p.since (reverse ts) p.run p.before p.fault 0 top (reverse xs) os.below s os.old (omega (arith, c.requires.load)) (sym (ap₂ kept_of c.if-top.true ss.old)) in
    record { plain = omega (arith, f.plain); burdened = omega (arith, f.burdened) }

pub returns-then-top : goal.returns-then-top
returns-then-top c =
    let p = c.args.self.now in
    let xs = p.opens.items in
    let ts = p.states.items in
    let top = c.in-Some.top.now in
    let j = p.states.ok.0 in
    let os = same_end xs _ top c.deref.ensures.value c.in-Some.ensures.item.3.0 c.in-Some.ensures.item.1 in
    let lt = top_kept p.run p.before p.since xs ts top os.below os.old c.if-top.true c.requires.laid in
    let i = c.len-last.ensures in
    let end = c.len-last.result - 1 in
    let ss = ends_at ts end end c.index_mut-kept.result.now (as_kept c.wait-then-top.new.self p.run) lt (omega arith) (omega arith) c.index_mut-kept.ensures.value in
    let x = ap (λ s. as_kept s p.run) (c.wait-then-top.ensures ∙ ap after_sync c.run-then-top.ensures) in
    let now = sync_ends p.returns.items p.middle p.since p.fault p.run p.before xs xs ts _ top _ _ os ss c.if-top.true x c.requires.laid in
    record { value = now.value; laid = now.laid; fault = refl }
