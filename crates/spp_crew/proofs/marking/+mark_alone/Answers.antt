use Rattle.std.proofs.Common.{◌≡◌, ◌+◌, ◌-◌, ◌/◌, ◌<◌, List, length, take, sym, subst, ◌∙◌, arith}
use Rattle.spp_event.specs.Recordings.{Recording}
use Rattle.spp_cut.specs.Parts.{PartOf, events_in}
use Rattle.spp_path.specs.Parts.{IsSettledIn}
use Rattle.spp_jobs.proofs.Begins.{begin_in, part_read, part_got}
use Rattle.spp_jobs.proofs.Entries.{entry_stands}
use Rattle.spp_jobs.proofs.Runs.{placed}
use Rattle.spp_crew.proofs.Marked.{begin_events}
use Rattle.spp_crew.proofs.Halves.{marked_one, marked_both, ok_also, halves_can}
use Rattle.spp_crew.proofs.marking.+mark_alone.Goals as goal

pub mark_part-requires-clause-stands : goal.mark_part-requires-clause-stands
mark_part-requires-clause-stands g t c =
    let lt : c.args.from < length c.parts-parts.result.now = subst (λ (l : List PartOf). c.args.from < length l) (sym c.parts-parts.ensures.parts) (omega (arith, c.requires.some, c.requires.parts)) in
    let got = part_got c.args.cut.now.parts c.parts-parts.result.now c.args.from c.index-parts-from.result c.parts-parts.ensures.parts c.index-parts-from.is lt in
    let e = c.requires.settled.entries in
    (e.0, entry_stands c.args.cut.now e.0 c.args.stacks.now e.1 c.args.from c.index-parts-from.result got c.entry.result c.entry.ensures.entry c.parts-parts.ensures.cut)

pub mark_part-requires-clause-placed : goal.mark_part-requires-clause-placed
mark_part-requires-clause-placed g t c =
    let lt : c.args.from < length c.parts-parts.result.now = subst (λ (l : List PartOf). c.args.from < length l) (sym c.parts-parts.ensures.parts) (omega (arith, c.requires.some, c.requires.parts)) in
    let got = part_got c.args.cut.now.parts c.parts-parts.result.now c.args.from c.index-parts-from.result c.parts-parts.ensures.parts c.index-parts-from.is lt in
    let s = c.requires.settled in
    placed c.args.cut.now c.parts-parts.ensures.cut s.entries.0 c.args.stacks.now s.entries.1 c.args.from c.index-parts-from.result got c.entry.result c.entry.ensures.entry
    c.args.settled.now s.stacks s.count

pub mark_part-requires-clause-settled : goal.mark_part-requires-clause-settled
mark_part-requires-clause-settled g t c =
    let lt : c.args.from < length c.parts-parts.result.now = subst (λ (l : List PartOf). c.args.from < length l) (sym c.parts-parts.ensures.parts) (omega (arith, c.requires.some, c.requires.parts)) in
    let at = part_read c.args.cut.now.trace c.args.cut.now.parts c.parts-parts.result.now c.args.from c.index-parts-from.result c.parts-parts.ensures.cut c.parts-parts.ensures.parts c.index-parts-from.is lt in
    let s = c.requires.settled.settled in
    (s.0, subst (λ (x : Recording). IsSettledIn x s.0 c.args.settled.now) (sym at.trace) s.1)

pub returns-then-end-from-eq1-clause-marks : goal.returns-then-end-from-eq1-clause-marks
returns-then-end-from-eq1-clause-marks g t c =
    let ps : List PartOf = c.args.cut.now.parts in
    let lt : c.args.from < length c.parts-parts.result.now = subst (λ (l : List PartOf). c.args.from < length l) (sym c.parts-parts.ensures.parts) (omega (arith, c.requires.some, c.requires.parts)) in
    let p : PartOf = c.index-parts-from.result in
    let at = part_read c.args.cut.now.trace ps c.parts-parts.result.now c.args.from p c.parts-parts.ensures.cut c.parts-parts.ensures.parts c.index-parts-from.is lt in
    let first : p.first ≡ events_in (take c.args.from ps) = at.first ∙ (let z : 0 + begin_in ps c.args.from ≡ begin_in ps c.args.from = omega arith in z) ∙ begin_events ps c.args.from in
    ok_also c.mark_part.result
    (λ told b settled. marked_one c.args.cut.now c.args.from p at.trace first b c.mark_part.new.marks
    (told b (subst (λ (x : Recording). IsSettledIn x b c.args.settled.now) (sym at.trace) settled)))
    c.mark_part.ensures.marks

pub mark_alone-requires-2-after_bounds : goal.mark_alone-requires-2-after_bounds
mark_alone-requires-2-after_bounds g t c κs within =
    let more : 1 < c.args.end - c.args.from = omega (arith, c.requires.some, c.if-end-from-eq1.false) in
    (halves_can c.args.cut.now c.args.stacks.now c.args.settled.now c.args.from c.args.end c.args.marks.now c.requires more
    c.parts-parts.result.now c.parts-parts.ensures.parts c.events_before-events.result c.events_before-events.ensures.value
    c.lend-first.result.0.now c.lend-first.result.1.now c.lend-first.ensures.first_bytes c.lend-first.ensures.second_bytes).1

pub returns-clause-marks : goal.returns-clause-marks
returns-clause-marks g t c =
    let more : 1 < c.args.end - c.args.from = omega (arith, c.requires.some, c.if-end-from-eq1.false) in
    let can = halves_can c.args.cut.now c.args.stacks.now c.args.settled.now c.args.from c.args.end c.args.marks.now c.requires more
    c.parts-parts.result.now c.parts-parts.ensures.parts c.events_before-events.result c.events_before-events.ensures.value
    c.lend-first.result.0.now c.lend-first.result.1.now c.lend-first.ensures.first_bytes c.lend-first.ensures.second_bytes in
    ok_also c.mark_alone-2.result
    (marked_both c.args.cut.now c.args.settled.now c.args.from (c.args.from + (c.args.end - c.args.from) / 2) (omega arith) c.mark_alone.new.marks c.mark_alone-2.new.marks
    (c.mark_alone.ensures.length ∙ can.0.bytes) c.in_ok-mark_alone.ensures.marks)
    c.mark_alone-2.ensures.marks
