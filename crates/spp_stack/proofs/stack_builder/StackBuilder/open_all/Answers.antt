use Rattle.std.proofs.Common.{◌+◌, ◌<◌, ◌∙◌, sym, arith, subst, length, reverse, take}
use Rattle.std.proofs.lemmas.List.{length-reverse}
use Rattle.spp_piece.specs.Summary.{play_frames}
use Rattle.spp_stack.specs.Machine.{Now, entry_ops}
use Rattle.spp_stack.specs.StackBuilder.{Stands}
use Rattle.spp_stack.proofs.Passing.{next_of, none_of, frames_next, frames_all, before_fits}
use Rattle.spp_stack.proofs.stack_builder.StackBuilder.open_all.Goals as goal

pub open-requires-clause-stands : goal.open-requires-clause-stands
open-requires-clause-stands c =
    let d = c.loop-frame.invariant.done in
    let h = c.requires.stands in
    (play_frames (entry_ops c.args.summary.now.burdens) (reverse (take d.0 (reverse c.args.summary.now.sum.frames))) h.0, d.4 h.0 h.1)

pub open-requires-clause-work : goal.open-requires-clause-work
open-requires-clause-work c =
    let all = c.args.summary.now.sum.frames in
    let d = c.loop-frame.invariant.done in
    let h = next_of (reverse all) d.0 c.in-Some.frame c.next.new.self (sym d.2 ∙ c.in-Some.ensures.steps) in
    let n = length-reverse all in
    let fits = before_fits all d.0 c.in-Some.frame (omega (arith, h.within)) h.is in
    omega (arith, fits, c.loop-frame.invariant.work, c.requires.work)

pub loop-frame-preserved : goal.loop-frame-preserved
loop-frame-preserved c =
    let i = c.loop-frame.invariant in
    let d = i.done in
    let all = c.args.summary.now.sum.frames in
    let h = next_of (reverse all) d.0 c.in-Some.frame c.next.new.self (sym d.2 ∙ c.in-Some.ensures.steps) in
    let n = length-reverse all in
    let lt : d.0 < length all = omega (arith, h.within) in
    let e = c.in_ok-open.ensures in
    record {
      done = (
        d.0 + 1,
        (omega arith),
        h.left,
        (omega (arith, e.count, d.3)),
        (λ x s. subst (λ (n : Now). Stands c.open.new.self n) (sym (frames_next c.args.summary.now.burdens all d.0 c.in-Some.frame x lt h.is)) (e.stands _ (d.4 x s))),
      );
      kept = e.kept;
      chains = λ o fs x. e.chains o fs (i.chains o fs x);
      work = e.work ∙ i.work;
    }

pub returns-clause-stands : goal.returns-clause-stands
returns-clause-stands c x s =
    let all = c.args.summary.now.sum.frames in
    let d = c.loop-frame.invariant.done in
    let end = none_of (reverse all) d.0 (sym d.2 ∙ c.in-None.ensures.steps.0) in
    let n = length-reverse all in
    subst (λ (n : Now). Stands c.loop-frame.self n) (frames_all c.args.summary.now.burdens all d.0 x (omega arith)) (d.4 x s)

pub returns-clause-count : goal.returns-clause-count
returns-clause-count c =
    let all = c.args.summary.now.sum.frames in
    let d = c.loop-frame.invariant.done in
    let end = none_of (reverse all) d.0 (sym d.2 ∙ c.in-None.ensures.steps.0) in
    let n = length-reverse all in
    omega (arith, d.1, d.3)
