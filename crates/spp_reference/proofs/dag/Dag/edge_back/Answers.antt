use Rattle.std.proofs.Common.{length, ◌≡◌, ◌-◌, ◌+◌, ◌∙◌, refl, sym, ap, true, false, arith}
use Rattle.std.proofs.lemmas.Bool.{both_ways}
use Rattle.spp_dag.specs.Trace.{event_at, owner, spawns}
use Rattle.spp_reference.proofs.Frames.{owner_le, event_read, spawn_spawns, no_spawn}
use Rattle.spp_reference.proofs.Edges.{back_is}
use Rattle.spp_reference.proofs.dag.Dag.edge_back.Goals as goal
use Rattle.spp_reference.proofs.dag.Dag.edge_back.Goals.{in-Spawn, in_default}

pub offset_bounds-events-frame : goal.offset_bounds-events-frame
offset_bounds-events-frame c =
    let l = owner_le c.args.self.now c.args.u in
    let e : length c.self.inside.events.now ≡ length c.args.self.now = ap length c.self.view_is in
    let t = c.self.told in
    omega arith

pub bounds : goal.bounds
bounds c =
    let l = owner_le c.args.self.now c.args.u in
    let e : length c.self.inside.events.now ≡ length c.args.self.now = ap length c.self.view_is in
    omega arith

pub join-requires-clause-spawns : goal.join-requires-clause-spawns
join-requires-clause-spawns c =
    let l = owner_le c.args.self.now c.args.u in
    let r = event_read c.args.self.now c.self.inside.events.now (c.owner-frame.result - 1) _ c.self.view_is (omega arith) refl in
    elim c.match-matches.branch [
      | in-Spawn w ↦ ap spawns r ∙ spawn_spawns _ w.in-Spawn.site w.in-Spawn.func w.in-Spawn.is
      | in_default w ↦ (let e : false ≡ true = sym w.matches-is ∙ c.if-matches.true in cc)
    ]

pub returns-then-matches : goal.returns-then-matches
returns-then-matches c =
    let l = owner_le c.args.self.now c.args.u in
    let r = event_read c.args.self.now c.self.inside.events.now (c.owner-frame.result - 1) _ c.self.view_is (omega arith) refl in
    let t : spawns (event_at c.args.self.now (c.owner-frame.result - 1)) ≡ true = elim c.match-matches.branch [
      | in-Spawn w ↦ ap spawns r ∙ spawn_spawns _ w.in-Spawn.site w.in-Spawn.func w.in-Spawn.is
      | in_default w ↦ (let e : false ≡ true = sym w.matches-is ∙ c.if-matches.true in cc)
    ] in
    back_is c.args.self.now c.args.burdens (owner c.args.self.now c.args.u) (c.owner-frame.result - 1) c.args.u c.join.result c.args.burdens.join
    (omega arith) (λ _. (c.join.ensures, refl)) (λ n. absurd (both_ways _ n t))

pub returns : goal.returns
returns c =
    let l = owner_le c.args.self.now c.args.u in
    let r = event_read c.args.self.now c.self.inside.events.now (c.owner-frame.result - 1) _ c.self.view_is (omega arith) refl in
    let t : spawns (event_at c.args.self.now (c.owner-frame.result - 1)) ≡ false = elim c.match-matches.branch [
      | in-Spawn w ↦ (let e : true ≡ false = sym w.matches-is ∙ c.if-matches.false in cc)
      | in_default w ↦ ap spawns r ∙ no_spawn _ w.in_default.not-Spawn
    ] in
    back_is c.args.self.now c.args.burdens (owner c.args.self.now c.args.u) (c.owner-frame.result - 1) c.args.u (c.args.u + 1) 0
    (omega arith) (λ y. absurd (both_ways _ t y)) (λ _. (omega arith, refl))
