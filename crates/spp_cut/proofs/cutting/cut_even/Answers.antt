use Rattle.std.proofs.Common.{◌≡◌, ◌+◌, ◌*◌, ◌/◌, ◌≤◌, length, ap, ap₂, subst, ◌∙◌, arith}
use Rattle.std.proofs.lemmas.List.{length-append}
use Rattle.spp_cut.specs.Parts.{Cover}
use Rattle.spp_cut.proofs.Covers.{covered, first_more, steps_rise, step_ends}
use Rattle.spp_cut.proofs.cutting.cut_even.Goals as goal

pub loop-number-preserved : goal.loop-number-preserved
loop-number-preserved c =
    let n = c.loop-number.number in
    let t = c.args.trace.now in
    let inv = c.loop-number.invariant in
    let more = c.in_ok-push_part.ensures in
    let end = c.from.result * c.from-in-loop-number.result / c.from-in-loop-number-2.result in
    let is : end ≡ (n + 1) * c.count-events.result / c.number-count.result =
    ap₂ (λ a b. a * b / c.from-in-loop-number-2.result) c.from.ensures c.from-in-loop-number.ensures
    ∙ ap (λ d. (n + 1) * c.count-events.result / d) c.from-in-loop-number-2.ensures in
    let rise = steps_rise c.count-events.result c.number-count.result n c.number-count.ensures.range.0 in
    let step : c.loop-number.first ≡ n * c.count-events.result / c.number-count.result = inv.step in
    let le : c.loop-number.first ≤ end = omega arith in
    record {
      count = ap length more ∙ length-append c.loop-number.cut.items _ ∙ ap (λ k. k + 1) inv.count;
      cover = covered t n c.loop-number.first end c.loop-number.cut.items c.push_part.new.parts.items inv.count inv.cover le more;
      step = is;
      begins = first_more t n c.loop-number.first _ (λ k. k * c.count-events.result / c.number-count.result) c.loop-number.cut.items c.push_part.new.parts.items inv.count inv.step inv.begins more;
    }

pub invariant_of-result : goal.invariant_of-result
invariant_of-result c =
    let inv = c.loop-number.invariant in
    let all : c.loop-number.number ≡ c.number-count.result = omega (arith, c.loop-number-test.false, c.loop-number.auto.number-end) in
    let count : length c.loop-number.cut.items ≡ c.number-count.result = inv.count ∙ all in
    let least = c.number-count.ensures.range.0 in
    let most = c.number-count.ensures.range.1 in (
      subst (λ e. Cover c.args.trace.now 0 0 c.loop-number.cut.items e)
          (inv.step ∙ ap (λ k. k * c.count-events.result / c.number-count.result) all ∙ step_ends c.count-events.result c.number-count.result c.number-count.ensures.range.0 ∙ c.count-events.ensures.count)
          inv.cover,
      (omega arith, omega arith),
    )

pub returns-clause-cut : goal.returns-clause-cut
returns-clause-cut c =
    let inv = c.loop-number.invariant in
    let all : c.loop-number.number ≡ c.number-count.result = omega (arith, c.loop-number-test.false, c.loop-number.auto.number-end) in
    subst (λ e. Cover c.args.trace.now 0 0 c.loop-number.cut.items e)
    (inv.step ∙ ap (λ k. k * c.count-events.result / c.number-count.result) all ∙ step_ends c.count-events.result c.number-count.result c.number-count.ensures.range.0 ∙ c.count-events.ensures.count)
    inv.cover
