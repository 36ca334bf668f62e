use Rattle.std.proofs.Common.{◌≡◌, ◌+◌, ◌≤◌, length, get_or, ap, subst, ◌∙◌, arith, refl}
use Rattle.std.proofs.lemmas.List.{length-append}
use Rattle.spp_cut.specs.Parts.{Cover}
use Rattle.spp_cut.proofs.Covers.{covered, begins_more}
use Rattle.spp_cut.proofs.Orders.{below, in_turn, next_within}
use Rattle.spp_cut.proofs.cutting.parts_at.Goals as goal

pub push_part-requires-clause-within : goal.push_part-requires-clause-within
push_part-requires-clause-within c =
    let le = next_within c.loop-number.first c.count-events.result c.loop-number.number c.args.positions.now c.loop-number-test.true c.loop-number.invariant.in_order in
    omega (arith, c.count-events.ensures.count, le)

pub loop-number-preserved : goal.loop-number-preserved
loop-number-preserved c =
    let n = c.loop-number.number in
    let t = c.args.trace.now in
    let positions = c.args.positions.now in
    let inv = c.loop-number.invariant in
    let more = c.in_ok-push_part.ensures in
    let turn = in_turn c.loop-number.first c.count-events.result n positions c.loop-number-test.true inv.in_order in
    record {
      count = ap length more ∙ length-append c.loop-number.parts.items _ ∙ ap (λ k. k + 1) inv.count;
      cover = covered t n c.loop-number.first (get_or positions n 0) c.loop-number.parts.items c.push_part.new.parts.items inv.count inv.cover turn.0 more;
      in_order = turn.1;
      begins = begins_more t n c.loop-number.first (get_or positions n 0) _ positions c.loop-number.parts.items c.push_part.new.parts.items c.loop-number-test.true refl inv.begins more;
    }

pub invariant_of-result : goal.invariant_of-result
invariant_of-result c =
    let inv = c.loop-number.invariant in
    let all : length c.loop-number.parts.items ≡ length c.args.positions.now = inv.count ∙ omega (arith, c.loop-number-test.false, c.loop-number.auto.number-end) in
    let le : c.loop-number.first ≤ c.count-events.result = below c.loop-number.first c.count-events.result _ inv.in_order in
    let count : length c.push_part-2.new.parts.items ≡ length c.loop-number.parts.items + 1 = ap length c.in_ok-push_part-2.ensures ∙ length-append c.loop-number.parts.items _ in
    let few = c.requires.few in (
      subst (λ e. Cover c.args.trace.now 0 0 c.push_part-2.new.parts.items e) c.count-events.ensures.count
          (covered c.args.trace.now (length c.args.positions.now) c.loop-number.first c.count-events.result c.loop-number.parts.items c.push_part-2.new.parts.items all inv.cover le c.in_ok-push_part-2.ensures),
      (omega arith, omega arith),
    )

pub returns-clause-cut : goal.returns-clause-cut
returns-clause-cut c =
    let inv = c.loop-number.invariant in
    let all : length c.loop-number.parts.items ≡ length c.args.positions.now = inv.count ∙ omega (arith, c.loop-number-test.false, c.loop-number.auto.number-end) in
    let le : c.loop-number.first ≤ c.count-events.result = below c.loop-number.first c.count-events.result _ inv.in_order in
    subst (λ e. Cover c.args.trace.now 0 0 c.push_part-2.new.parts.items e) c.count-events.ensures.count
    (covered c.args.trace.now (length c.args.positions.now) c.loop-number.first c.count-events.result c.loop-number.parts.items c.push_part-2.new.parts.items all inv.cover le c.in_ok-push_part-2.ensures)
