use Rattle.std.proofs.Common.{◌≡◌, ◌≤◌}
use Rattle.spp_dag.specs.Trace.{event_at, opens, returns}
use Rattle.spp_dag.proofs.Ranges.{count_below}
use Rattle.spp_reference.proofs.dag.depth.Given as goal

-- the events so far, counted, and no more of them than there are
abbrev pub invariant-loop-event : goal.invariant-loop-event
invariant-loop-event l = record {
  opened : l.opened ≡ count_below (λ k. opens (event_at l.events k)) l.event-index;
  closed : l.closed ≡ count_below (λ k. returns (event_at l.events k)) l.event-index;
  few_opened : l.opened ≤ l.event-index;
  few_closed : l.closed ≤ l.event-index;
}
