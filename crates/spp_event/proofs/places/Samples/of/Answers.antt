use Rattle.std.proofs.Common.{◌≡◌, ◌+◌, ◌*◌, ◌≤◌, ℕ, length, take, sym, subst, arith, inl, inr}
use Rattle.std.proofs.lemmas.Bool.{cases_lt}
use Rattle.spp_event.specs.Places.{IsItemPlace}
use Rattle.spp_event.proofs.ItemCounts.{fewer_in_front}
use Rattle.spp_event.proofs.ItemSamples.{Sampled, few_begun, taken_all, passed, passed_one}
use Rattle.spp_event.proofs.places.Samples.of.Goals as goal
use Rattle.spp_event.proofs.places.Samples.of.Goals.{then-next-begun+in_ok-push, else-next-begun}

pub overflow_add-begun : goal.overflow_add-begun
overflow_add-begun c =
    let body = c.args.body.now in
    let n = c.loop-block.invariant.noted in
    omega (arith, n.is, c.loop-block.invariant.most, c.count_begun-more.ensures, few_begun body (c.loop-block.block * 32) c.min-to.result (omega (arith, c.min-to.ensures, c.div_ceil-block-end.ensures, c.loop-block-test.true)), c.min-to.ensures)

pub overflow_add-begun-in-loop-block : goal.overflow_add-begun-in-loop-block
overflow_add-begun-in-loop-block c =
    let body = c.args.body.now in
    let n = c.loop-block.invariant.noted in
    omega (arith, n.is, c.loop-block.invariant.most, c.count_begun-more.ensures, few_begun body (c.loop-block.block * 32) c.min-to.result (omega (arith, c.min-to.ensures, c.div_ceil-block-end.ensures, c.loop-block-test.true)), c.min-to.ensures)

pub returns-then-begun-more-clause-none : goal.returns-then-begun-more-clause-none
returns-then-begun-more-clause-none c none =
    let n = c.loop-block.invariant.noted in
    omega (arith, n.is, c.count_begun-more.ensures, c.if-begun-more.true, fewer_in_front c.args.body.now c.min-to.result)

pub loop-block-preserved : goal.loop-block-preserved
loop-block-preserved c =
    let body = c.args.body.now in
    let h = c.loop-block.invariant.noted in
    let from = c.loop-block.block * 32 in
    let to = c.min-to.result in
    let rising : from ≤ to = omega (arith, c.min-to.ensures, c.div_ceil-block-end.ensures, c.loop-block-test.true) in
    let same : take to body ≡ take ((c.loop-block.block + 1) * 32) body = taken_all body to _ (elim (cases_lt (length body) (from + 32)) [ inl lt ↦ inr (omega (arith, c.min-to.ensures), omega (arith, lt)) | inr le ↦ inl (omega (arith, c.min-to.ensures, le)) ]) in
    let few : c.count_begun-more.result ≤ 32 = omega (arith, c.count_begun-more.ensures, few_begun body from to rising, c.min-to.ensures) in
    record {
      noted = elim c.if-next-begun.branch [
        | then-next-begun+in_ok-push w ↦
            subst (λ ps. Sampled body ps.items (c.loop-block.begun + c.count_begun-more.result) ((c.loop-block.block + 1) * 32)) (sym w.places-is)
            (passed_one body c.loop-block.places.items w.push.new.self.items w.begun_place-place.result c.loop-block.begun from c.count_begun-more.result to _ h c.count_begun-more.ensures same
            (omega (arith, w.if-next-begun.true, c.len-next.ensures)) few
            (subst (λ (n : ℕ). IsItemPlace body n w.begun_place-place.result) (omega (arith, h.is, h.many, c.len-next.ensures)) w.begun_place-place.ensures)
            w.in_ok-push.ensures.items)
        | else-next-begun w ↦
            subst (λ ps. Sampled body ps.items (c.loop-block.begun + c.count_begun-more.result) ((c.loop-block.block + 1) * 32)) (sym w.places-is)
            (passed body c.loop-block.places.items c.loop-block.begun from c.count_begun-more.result to _ h c.count_begun-more.ensures same (omega (arith, w.if-next-begun.false, c.len-next.ensures)))
      ];
      most = omega (arith, c.if-begun-more.false);
    }
