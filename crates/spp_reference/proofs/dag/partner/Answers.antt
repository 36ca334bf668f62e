use Rattle.std.proofs.Common.{◌≡◌, ◌+◌, ◌∙◌, refl, sym, ap, Some, true, false, length, arith}
use Rattle.spp_dag.specs.Trace.{event_at, depth}
use Rattle.spp_dag.specs.Trace.{returns as is_return}
use Rattle.spp_reference.proofs.Frames.{event_read, no_return, partner_found, closes_true, not_closes-return, not_closes-depth, one_more}
use Rattle.spp_reference.proofs.dag.partner.Goals as goal
use Rattle.spp_reference.proofs.dag.partner.Goals.{in-Ret, in_default, else-matches-via-then-matches+else-depth, else-matches-via-else-matches}

pub returns-then-depth : goal.returns-then-depth
returns-then-depth c =
    let r = event_read c.args.events.now c.args.events.now c.loop-at.at _ refl (omega arith) refl in
    let t : is_return (event_at c.args.events.now c.loop-at.at) ≡ true = elim c.match-matches.branch [
      | in-Ret w ↦ ap is_return (r ∙ ap Some w.in-Ret.is)
      | in_default w ↦ (let e : false ≡ true = sym w.matches-is ∙ c.if-matches.true in cc)
    ] in
    let d : depth c.args.events.now (c.loop-at.at + 1) ≡ depth c.args.events.now c.args.i = sym c.depth.ensures ∙ c.if-depth.true ∙ c.depth-then-matches.ensures in
    partner_found c.args.events.now c.args.i c.loop-at.at (omega arith) (omega arith) (λ _. closes_true c.args.events.now c.args.i c.loop-at.at t d) c.loop-at.invariant

pub loop-at-preserved : goal.loop-at-preserved
loop-at-preserved c =
    let r = event_read c.args.events.now c.args.events.now c.loop-at.at _ refl (omega arith) refl in
    one_more _ _ c.loop-at.at c.loop-at.invariant
    (elim c.else-matches.branch [
      | else-matches-via-then-matches+else-depth w ↦ not_closes-depth c.args.events.now c.args.i c.loop-at.at (λ e. w.if-depth.false (w.depth.ensures ∙ e ∙ sym w.depth-then-matches.ensures))
      | else-matches-via-else-matches w ↦ not_closes-return c.args.events.now c.args.i c.loop-at.at (elim c.match-matches.branch [
        | in-Ret v ↦ (let e : true ≡ false = sym v.matches-is ∙ w.if-matches.false in cc)
        | in_default v ↦ ap is_return r ∙ no_return _ v.in_default.not-Ret
      ])
    ])

pub returns : goal.returns
returns c = partner_found c.args.events.now c.args.i (length c.args.events.now) (omega arith) (omega arith) (λ l. absurd (omega arith)) (λ j a b. c.loop-at.invariant j a (omega arith))
