use Rattle.std.proofs.Common.{◌≡◌, ◌≤◌, ℕ, ◌⊎◌, get_or, subst, arith, inl, inr}
use Rattle.spp_event.specs.Places.{IsItemPlace}
use Rattle.spp_event.proofs.ItemSamples.{none_begun, one_begun, begun_at}
use Rattle.spp_event.proofs.places.begun_place.Goals as goal
use Rattle.spp_event.proofs.places.begun_place.Goals.{else-k-gt0-via-then-k-gt0+else-body-k-lt128, else-k-gt0-via-else-k-gt0}

pub loop-k-preserved-then-body-k-lt128 : goal.loop-k-preserved-then-body-k-lt128
loop-k-preserved-then-body-k-lt128 c =
    let is = none_begun c.args.body.now c.loop-k.k (omega (arith, c.if-k-gt0.true)) (omega (arith, c.loop-k-test.true, c.requires.within)) (omega (arith, c.if-body-k-lt128.true)) in
    omega (arith, is, c.loop-k.invariant)

pub returns-then-left-eq0 : goal.returns-then-left-eq0
returns-then-left-eq0 c =
    let begins : (c.loop-k.k ≡ 0) ⊎ (128 ≤ get_or c.args.body.now c.loop-k.k 0) = elim c.else-k-gt0.branch [
      | else-k-gt0-via-then-k-gt0+else-body-k-lt128 w ↦ inr (omega (arith, w.if-body-k-lt128.false))
      | else-k-gt0-via-else-k-gt0 w ↦ inl (omega (arith, w.if-k-gt0.false))
    ] in
    subst (λ (n : ℕ). IsItemPlace c.args.body.now n c.loop-k.k) (omega (arith, c.loop-k.invariant, c.if-left-eq0.true))
    (begun_at c.args.body.now c.loop-k.k (omega (arith, c.loop-k-test.true, c.requires.within)) begins)

pub loop-k-preserved : goal.loop-k-preserved
loop-k-preserved c =
    let begins : (c.loop-k.k ≡ 0) ⊎ (128 ≤ get_or c.args.body.now c.loop-k.k 0) = elim c.else-k-gt0.branch [
      | else-k-gt0-via-then-k-gt0+else-body-k-lt128 w ↦ inr (omega (arith, w.if-body-k-lt128.false))
      | else-k-gt0-via-else-k-gt0 w ↦ inl (omega (arith, w.if-k-gt0.false))
    ] in
    let is = one_begun c.args.body.now c.loop-k.k (omega (arith, c.loop-k-test.true, c.requires.within)) begins in
    omega (arith, is, c.loop-k.invariant, c.if-left-eq0.false)
