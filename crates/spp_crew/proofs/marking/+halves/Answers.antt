use Rattle.std.proofs.Common.{◌+◌, ◌-◌, ◌/◌, ◌<◌, ◌∙◌, arith}
use Rattle.spp_crew.specs.Marks.{AreMarked}
use Rattle.spp_crew.proofs.Halves.{marked_both, ok_and, ok_then, halves_can}
use Rattle.spp_crew.proofs.marking.+halves.Goals as goal

pub mark_range-mark_halves-first_done-requires-clause-second : goal.mark_range-mark_halves-first_done-requires-clause-second
mark_range-mark_halves-first_done-requires-clause-second g t c κs within =
    let more : 1 < c.args.end - c.args.from = omega (arith, c.requires.some, c.if-end-from-lt2.false) in
    (halves_can c.args.cut.now c.args.stacks.now c.args.settled.now c.args.from c.args.end c.args.marks.now c.requires more
    c.parts-parts.result.now c.parts-parts.ensures.parts c.events_before-events.result c.events_before-events.ensures.value
    c.lend-first.result.0.now c.lend-first.result.1.now c.lend-first.ensures.first_bytes c.lend-first.ensures.second_bytes).1

pub mark_range-returns-clause-marks : goal.mark_range-returns-clause-marks
mark_range-returns-clause-marks g t c =
    let more : 1 < c.args.end - c.args.from = omega (arith, c.requires.some, c.if-end-from-lt2.false) in
    let can = halves_can c.args.cut.now c.args.stacks.now c.args.settled.now c.args.from c.args.end c.args.marks.now c.requires more
    c.parts-parts.result.now c.parts-parts.ensures.parts c.events_before-events.result c.events_before-events.ensures.value
    c.lend-first.result.0.now c.lend-first.result.1.now c.lend-first.ensures.first_bytes c.lend-first.ensures.second_bytes in
    let both = marked_both c.args.cut.now c.args.settled.now c.args.from (c.args.from + (c.args.end - c.args.from) / 2) (omega arith)
    c.mark_halves-first_done.new.first c.mark_halves-first_done.new.second (c.mark_halves-first_done.ensures.first_length ∙ can.0.bytes) in
    ok_and c.mark_halves-first_done.result.1 both
    (ok_then (AreMarked c.args.cut.now c.args.settled.now c.args.from c.mark_halves-first_done.new.first)
    c.mark_halves-first_done.result.0 c.in_ok-first_done.field-0 c.mark_halves-first_done.result.1 c.in_ok-first_done.was c.mark_halves-first_done.ensures.first)
    c.mark_halves-first_done.ensures.second
