use Rattle.std.proofs.Common.{◌≡◌, ◌<◌, ◌-◌, ◌^◌, ◌∷◌, reverse, take, sym, ap, ap₂, subst, ◌∙◌, arith}
use Rattle.spp_piece.specs.Bound.{load_frames}
use Rattle.spp_summary.specs.KeptFrames.{past, ran, with_kept, frames_of, AreLaid}
use Rattle.spp_piece.proofs.Lists.{reverse_take}
use Rattle.spp_summary.proofs.frames.FrameReaderIterator.next.Goals as goal

pub invariant_of-self : goal.invariant_of-self
invariant_of-self c =
    let q = c.self.inside in
    let xs = q.opens.now.items in
    let ss = reverse (take q.kept q.states.now.items) in
    let x = c.index-open.result.now in
    let os = reverse (take (q.left - 1) xs) in
    let lt : 0 < q.left = omega (arith, c.if-self-eq0.false) in
    let e : reverse (take q.left xs) ≡ x ∷ os = reverse_take xs q.left x lt c.self.invariant.left_fits ∙ ap (λ z. z ∷ os) (sym c.index-open.ensures) in
    let rest = c.last_kept-others.ensures.rest in
    let laid : AreLaid q.run q.before (x ∷ os) ss 0 = subst (λ os. AreLaid q.run q.before os ss 0) e c.self.invariant.laid in
    let load : load_frames (frames_of q.run q.before (x ∷ os) ss) < 2 ^ 127 = subst (λ os. load_frames (frames_of q.run q.before os ss) < 2 ^ 127) e c.self.invariant.load in
    let less : load_frames (frames_of x.gap (q.before - x.gap) os (past x.kept ss)) < 2 ^ 127 = omega arith in
    record {
      laid = subst (λ ks. AreLaid x.gap (q.before - x.gap) os ks 0) (sym rest) laid.3;
      load = subst (λ ks. load_frames (frames_of x.gap (q.before - x.gap) os ks) < 2 ^ 127) (sym rest) less;
      left_fits = omega (arith, c.self.invariant.left_fits);
      kept_fits = omega (arith, c.self.invariant.kept_fits, c.last_kept-others.ensures.fits);
    }

pub returns-clause-steps : goal.returns-clause-steps
returns-clause-steps c =
    let q = c.self.inside in
    let xs = q.opens.now.items in
    let ss = reverse (take q.kept q.states.now.items) in
    let x = c.index-open.result.now in
    let os = reverse (take (q.left - 1) xs) in
    let lt : 0 < q.left = omega (arith, c.if-self-eq0.false) in
    let e : reverse (take q.left xs) ≡ x ∷ os = reverse_take xs q.left x lt c.self.invariant.left_fits ∙ ap (λ z. z ∷ os) (sym c.index-open.ensures) in
    let rest = c.last_kept-others.ensures.rest in
    let frame = c.frame-frame.ensures ∙ ap (with_kept q.before x) (c.ran.ensures ∙ ap (ran q.run) c.last_kept-others.ensures.value) in
    sym c.self.view_is ∙ ap (λ os. frames_of q.run q.before os ss) e
    ∙ sym (ap₂ (λ f ks. f ∷ frames_of x.gap (q.before - x.gap) os ks) frame rest)
