use Rattle.std.proofs.Common.{◌≡◌, ◌<◌, ◌^◌, ◌+◌, ◌-◌, reverse, sym, ◌∙◌, ap, subst, arith}
use Rattle.spp_piece.specs.declared.pieces.Frame.{Frame}
use Rattle.spp_piece.specs.Bound.{cost, height, worst}
use Rattle.spp_piece.specs.Pair.{act, fed, start, after_strand}
use Rattle.spp_summary.specs.KeptFrames.{kept_of, ran, with_kept}
use Rattle.spp_piece.proofs.Bounds.{height-act}
use Rattle.spp_summary.proofs.storage.feed.Goals as goal

pub pass-requires : goal.pass-requires
pass-requires c plain =
    let a = c.args in
    let load = subst (λ b. height (ran a.run (kept_of b (reverse a.states.now.items))) + cost a.pending.now + worst a.burdens < 2 ^ 127) plain c.requires.load in
    omega arith

pub returns-then-pass-clause-value : goal.returns-then-pass-clause-value
returns-then-pass-clause-value c before =
    let k = c.args.child.now in
    let done = c.pass.ensures.done c.if-pass.true in
    let all : c.args.run ≡ c.args.run - 0 = omega arith in
    done.1 c.args.burdens before
    ∙ ap (λ n. fed c.args.burdens (with_kept before k (act c.args.pending.now (after_strand n start)))) all
    ∙ ap (λ b. fed c.args.burdens (with_kept before k (act c.args.pending.now (ran c.args.run (kept_of b (reverse c.args.states.now.items)))))) (sym done.0)

pub fed-requires : goal.fed-requires
fed-requires c =
    let f = ap (λ (f : Frame). height f.states) c.frame.ensures in
    let g = ap height c.apply-now.ensures in
    let h = ap height (c.ran.ensures ∙ ap (ran c.args.run) c.take_kept-kept.ensures.value) in
    let s = ap cost (c.segs.ensures ∙ c.pass.ensures.not c.if-pass.false) in
    omega (arith, f, g, h, s, height-act c.segs.result c.ran.result, c.requires.load)
