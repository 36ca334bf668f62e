use Rattle.std.proofs.Common.{◌≡◌, ◌+◌, ◌<◌, ◌∙◌, sym, true, length, arith, rules}
use Rattle.spp_dag.specs.Trace.{event_at, syncs, partner, join}
use Rattle.spp_dag.proofs.Depth.{closed}
use Rattle.spp_dag.proofs.Upper.{spawns_opens}
use Rattle.spp_dag.proofs.Shares.{closing_le}
use Rattle.spp_reference.proofs.Frames.{child_closing, join_found, waits_true, not_waits-sync, not_waits-owner, one_more}
use Rattle.spp_reference.proofs.dag.Dag.join.Goals as goal
use Rattle.spp_reference.proofs.dag.Dag.join.Goals.{in-Some-Sync, in_default, in_default-2, else-matches-via-then-matches+else-owner, else-matches-via-else-matches}

pub overflow_step-at : goal.overflow_step-at
overflow_step-at c = let l = closing_le c.args.self.now (c.args.s + 1) (omega arith) in let s = c.end-end.ensures.small.events in omega arith

pub returns-then-owner : goal.returns-then-owner
returns-then-owner c =
    let t : syncs (event_at c.args.self.now c.loop-at.at) ≡ true = elim c.match-matches.branch [
      | in-Some-Sync w ↦ search rules
      | in_default w ↦ search rules
      | in_default-2 w ↦ search rules
    ] in
    let f = child_closing c.args.self.now c.args.s in
    join_found c.args.self.now c.args.s c.loop-at.at (omega arith) (omega arith)
    (λ _. waits_true c.args.self.now c.args.s c.loop-at.at t (sym c.owner.ensures.is ∙ c.if-owner.true ∙ c.owner-then-matches.ensures.is)) c.loop-at.invariant

pub loop-at-preserved : goal.loop-at-preserved
loop-at-preserved c =
    one_more _ _ c.loop-at.at c.loop-at.invariant
    (elim c.else-matches.branch [
      | else-matches-via-then-matches+else-owner w ↦ not_waits-owner c.args.self.now c.args.s c.loop-at.at (λ e. w.if-owner.false (w.owner.ensures.is ∙ e ∙ sym w.owner-then-matches.ensures.is))
      | else-matches-via-else-matches w ↦ not_waits-sync c.args.self.now c.args.s c.loop-at.at (elim c.match-matches.branch [
        | in-Some-Sync v ↦ search rules
        | in_default v ↦ search rules
        | in_default-2 v ↦ search rules
      ])
    ])

pub returns : goal.returns
returns c =
    let f = child_closing c.args.self.now c.args.s in
    let l = closing_le c.args.self.now (c.args.s + 1) (omega arith) in
    let d = closed c.args.self.now c.end-end.ensures.well_formed c.args.s (spawns_opens _ c.requires.spawns) in
    let within : partner c.args.self.now c.args.s < length c.args.self.now = d.within in
    let e : length c.args.self.now ≡ join c.args.self.now c.args.s = join_found c.args.self.now c.args.s (length c.args.self.now) (omega arith) (omega arith) (λ m. absurd (omega arith))
    (λ j a b. c.loop-at.invariant j a (omega arith)) in
    c.end-end.ensures.count ∙ e
