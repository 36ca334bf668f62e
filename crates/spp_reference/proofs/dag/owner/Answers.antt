use Rattle.std.proofs.Common.{◌≤◌, ◌<◌, ◌-◌, ◌∙◌, sym, subst, ℕ, arith}
use Rattle.spp_dag.specs.Trace.{closing}
use Rattle.spp_reference.proofs.Frames.{owner_found, holds_true, not_holds-frame, not_holds-closing, one_less, listed_at}
use Rattle.spp_reference.proofs.dag.owner.Goals as goal
use Rattle.spp_reference.proofs.dag.owner.Goals.{else-is_frame-via-then-is_frame+else-k-closings, else-is_frame-via-else-is_frame}

pub returns-then-k-closings : goal.returns-then-k-closings
returns-then-k-closings c =
    let j : ℕ = c.args.k - c.loop-before.before in
    let e = listed_at _ (closing c.args.events.now) c.args.closings.now j c.requires.closings (omega arith) in
    let l : c.args.k ≤ closing c.args.events.now j = subst (λ x. c.args.k ≤ x) e c.if-k-closings.true in
    owner_found c.args.events.now c.args.k j (omega arith) (λ _. holds_true c.args.events.now c.args.k j (sym c.is_frame.ensures ∙ c.if-is_frame.true) l) c.loop-before.invariant

pub loop-before-preserved : goal.loop-before-preserved
loop-before-preserved c =
    let j : ℕ = c.args.k - c.loop-before.before in
    let e = listed_at _ (closing c.args.events.now) c.args.closings.now j c.requires.closings (omega arith) in
    one_less _ c.args.k c.loop-before.before (omega arith) c.loop-before.invariant
    (elim c.else-is_frame.branch [
      | else-is_frame-via-then-is_frame+else-k-closings w ↦ not_holds-closing c.args.events.now c.args.k j (subst (λ x. x < c.args.k) e w.if-k-closings.false)
      | else-is_frame-via-else-is_frame w ↦ not_holds-frame c.args.events.now c.args.k j (sym c.is_frame.ensures ∙ w.if-is_frame.false)
    ])

pub returns : goal.returns
returns c = owner_found c.args.events.now c.args.k 0 (omega arith) (λ l. absurd (omega arith)) (λ j a b. c.loop-before.invariant j (omega arith) b)
