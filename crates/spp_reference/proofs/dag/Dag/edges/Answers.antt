use Rattle.std.proofs.Common.{◌+◌, refl, arith}
use Rattle.spp_event.specs.declared.records.Event.TheVariants.{Spawn, Ret}
use Rattle.spp_dag.proofs.Shares.{closing_le}
use Rattle.spp_dag.proofs.Bounds.{partner_after}
use Rattle.spp_reference.proofs.Frames.{event_read, child_closing}
use Rattle.spp_reference.proofs.Edges.{return_are, spawn_are, on_are, in_order}
use Rattle.spp_reference.proofs.dag.Dag.edges.Goals as goal

pub overflow_add-result : goal.overflow_add-result
overflow_add-result c =
    let l = closing_le c.args.self.now (c.args.u + 1) (omega arith) in
    let s = c.end.ensures.small.events in
    omega arith

pub returns-in-Ret-clause-are : goal.returns-in-Ret-clause-are
returns-in-Ret-clause-are c =
    let e = event_read c.args.self.now c.self.inside.events.now c.args.u Ret c.self.view_is (omega arith) c.in-Ret.is in
    return_are c.args.self.now c.args.burdens c.args.u c.edge_back.result e c.edge_back.ensures

pub returns-in-Spawn-clause-are : goal.returns-in-Spawn-clause-are
returns-in-Spawn-clause-are c =
    let e = event_read c.args.self.now c.self.inside.events.now c.args.u (Spawn c.in-Spawn.site c.in-Spawn.func) c.self.view_is (omega arith) c.in-Spawn.is in
    let f = child_closing c.args.self.now c.args.u in
    spawn_are c.args.self.now c.args.burdens c.args.u c.in-Spawn.site c.in-Spawn.func (c.args.u + 1) (c.closing.result + 1) e (omega arith) (omega arith)

pub returns-in-Spawn-clause-order : goal.returns-in-Spawn-clause-order
returns-in-Spawn-clause-order c =
    let f = child_closing c.args.self.now c.args.u in
    let a = partner_after c.args.self.now c.args.burdens c.args.u in
    in_order (c.args.u + 1) 0 (c.closing.result + 1) c.args.burdens.continuation (omega arith)

pub returns-in_default : goal.returns-in_default
returns-in_default c =
    let e = event_read c.args.self.now c.self.inside.events.now c.args.u _ c.self.view_is (omega arith) refl in
    record {
      are = on_are c.args.self.now c.args.burdens c.args.u (c.args.u + 1) _ e c.in_default.not-Ret c.in_default.not-Spawn (omega arith);
      order = λ e f p q. cc;
    }
