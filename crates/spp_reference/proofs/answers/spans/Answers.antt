use Rattle.std.proofs.Common.{◌≡◌, ℕ, ◌<◌, ◌+◌, true, List, get_or, length, subst, sym, ◌∙◌, ap, arith}
use Rattle.spp_maxplus.specs.State.{unburdened}
use Rattle.spp_dag.specs.Trace.{is_frame, closing}
use Rattle.spp_dag.specs.Dag.{IsGreatest}
use Rattle.spp_reference.proofs.Lists.{spans_more, spans_all, push_length}
use Rattle.spp_reference.proofs.answers.spans.Goals as goal

pub loop-at-preserved : goal.loop-at-preserved
loop-at-preserved c =
    let es = c.args.dag.now in
    let pushed = sym c.in_ok-push.ensures.items in
    record {
      count = ap length c.in_ok-push.ensures.items ∙ push_length c.loop-at.spans.items c.in_ok-span_at.field-0 ∙ ap (λ k. k + 1) c.loop-at.invariant.count;
      are = subst (λ (xs : List ℕ). (f : ℕ) → f < c.loop-at.at + 1 → is_frame es f ≡ true → IsGreatest es unburdened f (closing es f) (get_or xs f 0)) pushed
          (spans_more es c.loop-at.spans.items c.in_ok-span_at.field-0 c.loop-at.at c.loop-at.invariant.count c.loop-at.invariant.are c.in_ok-span_at.ensures);
    }

pub returns-clause-are : goal.returns-clause-are
returns-clause-are c =
    spans_all c.args.dag.now c.loop-at.spans.items c.loop-at.at (omega (arith, c.end-at-end.ensures.count)) c.loop-at.invariant.are
