use Rattle.std.proofs.Common.{◌≡◌, List, [], ◌∷◌, reverse, refl, ap, sym, subst, ◌∙◌}
use Rattle.spp_dag.specs.Shares.{plus}
use Rattle.spp_site.specs.Rows.{Fits}
use Rattle.spp_ways.specs.Enclosures.{Enclosure}
use Rattle.spp_pass.specs.declared.counted_frame.CountedFrame.{CountedFrame}
use Rattle.spp_pass.specs.Passes.{OnTop}
use Rattle.spp_pass.specs.CallRows.{no_calls, calls_row}
use Rattle.spp_pass.specs.CallFrames.{calls_of, stretch_calls}
use Rattle.spp_pass.specs.AsideRows.{aside_row}
use Rattle.spp_pass.proofs.CallFrames.{below_right}
use Rattle.spp_pass.proofs.Joining.{call_below}
use Rattle.spp_pass.proofs.counting.Counting.put_stretch_aside.Goals as goal

-- the innermost frame
opened : (P : CountedFrame → Type 0) (fs : List CountedFrame) → OnTop P fs → (g : CountedFrame) × (gs : List CountedFrame) × (fs ≡ g ∷ gs) × P g
opened P [] h = absurd h
opened P (g ∷ gs) h = (g, gs, refl, h)

pub put_stretch-requires-clause-below : goal.put_stretch-requires-clause-below
put_stretch-requires-clause-below c = λ k lt. call_below 65536 c.args.calls.rows.items k no_calls lt (below_right 65536 (calls_of c.args.calls.frames.items) c.args.calls.rows.items c.requires.below)

pub put_stretch-requires-clause-fits : goal.put_stretch-requires-clause-fits
put_stretch-requires-clause-fits c key =
    let o = opened _ (reverse c.args.self.now.frames.items) c.requires.fits in
    subst (λ (e : Enclosure). Fits (plus (aside_row c.args.aside key) (calls_row e (stretch_calls c.args.calls) key))) (sym (c.enclosing-enclosing.ensures o.0 o.1 o.2)) (o.3 key)

pub of-requires : goal.of-requires
of-requires c = λ k lt. call_below 65536 c.args.calls.rows.items k no_calls lt (below_right 65536 (calls_of c.args.calls.frames.items) c.args.calls.rows.items c.requires.below)

pub with-requires : goal.with-requires
with-requires c key =
    let o = opened _ (reverse c.args.self.now.frames.items) c.requires.fits in
    subst (λ r. Fits (plus (aside_row c.args.aside key) r)) (sym (c.in_ok-owed.ensures key ∙ ap (λ (e : Enclosure). calls_row e (stretch_calls c.args.calls) key) (c.enclosing-enclosing.ensures o.0 o.1 o.2))) (o.3 key)
