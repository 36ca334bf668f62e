use Rattle.std.proofs.Common.{◌≡◌, ℕ, ◌-◌, true, false, List, ◌∷◌, length, map, reverse, get_or, set, ap, ap₂, subst, sym, ◌∙◌, arith}
use Rattle.spp_site.proofs.LastFirst.{topped}
use Rattle.spp_ways.specs.declared.frame_ways.FrameWays.{FrameWays}
use Rattle.spp_ways.specs.declared.open_ways.OpenWays.{OpenWays}
use Rattle.spp_ways.specs.OpenWays.{plain_of, burdened_of, frame_ways, FitTopStrand}
use Rattle.spp_ways.specs.Stretches.{enclosed_row}
use Rattle.spp_ways.proofs.Steps.{fit_some, strand_on, strand_frame, StrandDone, strand_done}
use Rattle.spp_ways.proofs.Enclosed.{strand_stretch}
use Rattle.spp_ways.proofs.open_ways.OpenWays.strand.Goals as goal

pub overflow_sub-last : goal.overflow_sub-last
overflow_sub-last c =
    let some = fit_some false c.args.count c.args.self.now.frames.items (c.requires.fits false) in
    omega (arith, c.len-last.ensures, c.args.self.now.frames.ok.0)

pub index_mut-frame-requires : goal.index_mut-frame-requires
index_mut-frame-requires c =
    let some = fit_some false c.args.count c.args.self.now.frames.items (c.requires.fits false) in
    omega (arith, c.len-last.ensures, c.args.self.now.frames.ok.0)

pub overflow_add-frame : goal.overflow_add-frame
overflow_add-frame c =
    let fs : List FrameWays = c.args.self.now.frames.items in
    let some = fit_some false c.args.count c.args.self.now.frames.items (c.requires.fits false) in
    let t = topped fs some in
    let at : c.len-last.result - 1 ≡ length fs - 1 = omega (arith, c.len-last.ensures, c.args.self.now.frames.ok.0) in
    let old : FrameWays = c.index_mut-frame.result.now in
    let top : old ≡ t.top = c.index_mut-frame.ensures.value ∙ ap (λ k. get_or fs k old) at ∙ t.get old in
    let fits : FitTopStrand false c.args.count (t.top ∷ t.below) = subst (FitTopStrand false c.args.count) t.is (c.requires.fits false) in
    let own : old.plain_own ≡ t.top.plain_own = ap (λ (f : FrameWays). f.plain_own) top in
    omega (arith, c.from.ensures)

pub overflow_add-frame-2 : goal.overflow_add-frame-2
overflow_add-frame-2 c =
    let fs : List FrameWays = c.args.self.now.frames.items in
    let some = fit_some false c.args.count c.args.self.now.frames.items (c.requires.fits false) in
    let t = topped fs some in
    let at : c.len-last.result - 1 ≡ length fs - 1 = omega (arith, c.len-last.ensures, c.args.self.now.frames.ok.0) in
    let old : FrameWays = c.index_mut-frame.result.now in
    let top : old ≡ t.top = c.index_mut-frame.ensures.value ∙ ap (λ k. get_or fs k old) at ∙ t.get old in
    let fits : FitTopStrand true c.args.count (t.top ∷ t.below) = subst (FitTopStrand true c.args.count) t.is (c.requires.fits true) in
    let own : old.burdened_own ≡ t.top.burdened_own = ap (λ (f : FrameWays). f.burdened_own) top in
    omega (arith, c.from-2.ensures)

-- the frames then
abbrev opens : goal.After-self-1 → List FrameWays
opens c =
    let old : FrameWays = c.index_mut-frame.result.now in
    set c.args.self.now.frames.items (c.len-last.result - 1) (frame_ways (strand_on c.from.result (plain_of old)) (strand_on c.from-2.result (burdened_of old)) old.start old.stored old.limit)

moved : (c : goal.After-self-1) → opens c ≡ set c.args.self.now.frames.items (length c.args.self.now.frames.items - 1) (strand_frame c.args.count (topped c.args.self.now.frames.items (fit_some false c.args.count c.args.self.now.frames.items (c.requires.fits false))).top)
moved c =
    let o : OpenWays = c.args.self.now in
    let fs : List FrameWays = o.frames.items in
    let count : ℕ = c.args.count in
    let some = fit_some false count o.frames.items (c.requires.fits false) in
    let t = topped fs some in
    let at : c.len-last.result - 1 ≡ length fs - 1 = omega (arith, c.len-last.ensures, o.frames.ok.0) in
    let old : FrameWays = c.index_mut-frame.result.now in
    let top : old ≡ t.top = c.index_mut-frame.ensures.value ∙ ap (λ k. get_or fs k old) at ∙ t.get old in
    let frame = λ (m n : ℕ). let f : FrameWays = frame_ways (strand_on m (plain_of old)) (strand_on n (burdened_of old)) old.start old.stored old.limit in f in
    ap₂ (λ (k : ℕ) (f : FrameWays). set fs k f) at (ap₂ frame c.from.ensures c.from-2.ensures ∙ ap (strand_frame count) top)

done : (c : goal.After-self-1) → StrandDone c.args.count c.args.self.now (opens c)
done c = subst (StrandDone c.args.count c.args.self.now) (sym (moved c)) (strand_done c.args.count c.args.self.now (fit_some false c.args.count c.args.self.now.frames.items (c.requires.fits false)) c.requires.laid)

pub returns-clause-laid : goal.returns-clause-laid
returns-clause-laid c = record { linked = c.requires.laid.linked; frames = (done c).laid }

pub returns-clause-ways : goal.returns-clause-ways
returns-clause-ways c on ws h = (done c).ways on (reverse c.args.self.now.log.rows.items) ws h

pub returns-clause-stretch : goal.returns-clause-stretch
returns-clause-stretch c s = strand_stretch c.args.count c.args.self.now (opens c) (done c) s

pub returns-clause-enclosed : goal.returns-clause-enclosed
returns-clause-enclosed c on e base ws h = (done c).ways on (reverse (map (enclosed_row e base) c.args.self.now.log.rows.items)) ws h
