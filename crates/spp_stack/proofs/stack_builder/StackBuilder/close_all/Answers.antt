use Rattle.std.proofs.Common.{◌+◌, ap, arith, refl, sym, subst, ◌∙◌}
use Rattle.spp_maxplus.specs.declared.state.Burdens.{Burdens}
use Rattle.spp_piece.specs.Bound.{load_returns}
use Rattle.spp_piece.specs.Summary.{play_returns}
use Rattle.spp_stack.specs.declared.stack_builder.StackBuilder.{StackBuilder}
use Rattle.spp_stack.specs.Machine.{Now, ret_by, entry_ops, IsOpen, peaks}
use Rattle.spp_stack.specs.StackBuilder.{Stands}
use Rattle.spp_stack.proofs.Passing.{Step, return_step}
use Rattle.spp_stack.proofs.stack_builder.StackBuilder.close_all.Goals as goal

pub loop-unmatched-init : goal.loop-unmatched-init
loop-unmatched-init c = record {
  reached = λ x s goes.
      let all = c.into_iter-unmatched-iterator.ensures.into_iter_gives ∙ c.returns-unmatched-items.ensures.value in
      record {
        at = x;
        stands = s;
        is = ap (λ rs. play_returns (entry_ops c.args.summary.now.burdens) rs x) all;
        load = omega (arith, ap (load_returns c.args.summary.now.burdens) all);
      };
  nodes = refl;
  work = refl;
}

pub along-requires : goal.along-requires
along-requires c =
    let b = c.args.summary.now.burdens in
    let rs = c.args.summary.now.sum.returns in
    let h = c.requires in
    let step = return_step b c.loop-unmatched.self c.loop-unmatched.unmatched-iterator c.in-Some.unmatched c.next.new.self (play_returns (entry_ops b) rs h.0) (peaks h.0.frames + load_returns b rs)
    c.in-Some.ensures.steps (c.loop-unmatched.invariant.reached h.0 h.1 h.2) h.2 in
    omega (arith, step.peak, h.3)

pub close-requires : goal.close-requires
close-requires c =
    let b = c.args.summary.now.burdens in
    let rs = c.args.summary.now.sum.returns in
    let h = c.requires in
    let step = return_step b c.loop-unmatched.self c.loop-unmatched.unmatched-iterator c.in-Some.unmatched c.next.new.self (play_returns (entry_ops b) rs h.0) (peaks h.0.frames + load_returns b rs)
    c.in-Some.ensures.steps (c.loop-unmatched.invariant.reached h.0 h.1 h.2) h.2 in (
      step.mid,
      subst (λ w. Stands w step.mid) (sym c.along.ensures) step.stands,
      subst (λ (d : Burdens). IsOpen (ret_by d step.mid.frames step.mid.work).frames) (sym c.burdens-burdens.ensures) step.goes,
      omega (arith, step.load, h.3),
    )

pub loop-unmatched-preserved : goal.loop-unmatched-preserved
loop-unmatched-preserved c = record {
  reached = λ x s goes.
      let b = c.args.summary.now.burdens in
      let rs = c.args.summary.now.sum.returns in
      let step : Step b c.loop-unmatched.self c.in-Some.unmatched c.next.new.self (play_returns (entry_ops b) rs x) (peaks x.frames + load_returns b rs) =
      return_step b c.loop-unmatched.self c.loop-unmatched.unmatched-iterator c.in-Some.unmatched c.next.new.self (play_returns (entry_ops b) rs x) (peaks x.frames + load_returns b rs)
      c.in-Some.ensures.steps (c.loop-unmatched.invariant.reached x s goes) goes in
      let closes = subst (λ (d : Burdens). (y : Now) → Stands c.along.new.self y → IsOpen (ret_by d y.frames y.work).frames → Stands c.close.new.self (ret_by d y.frames y.work)) c.burdens-burdens.ensures c.close.ensures.stands in
      step.next c.close.new.self (closes step.mid (subst (λ w. Stands w step.mid) (sym c.along.ensures) step.stands) step.goes);
  nodes = c.close.ensures.nodes ∙ ap (λ (w : StackBuilder). w.nodes) c.along.ensures ∙ c.loop-unmatched.invariant.nodes;
  work = c.close.ensures.work ∙ ap (λ (w : StackBuilder). w.work) c.along.ensures ∙ c.loop-unmatched.invariant.work;
}

pub returns-clause-stands : goal.returns-clause-stands
returns-clause-stands c x s goes =
    let b = c.args.summary.now.burdens in
    let end = c.loop-unmatched.invariant.reached x s goes in
    let none = c.in-None.ensures.steps.0 in
    subst (λ y. Stands c.loop-unmatched.self y) (sym (ap (λ rs. play_returns (entry_ops b) rs end.at) none) ∙ end.is) end.stands
