use Rattle.std.proofs.Common.{◌≡◌, ℕ, ◌<◌, ◌^◌, take, map, Ok}
use Rattle.spp_event.specs.Readers.{Stands}
use Rattle.spp_dag.specs.Trace.{weight}
use Rattle.spp_reference.proofs.answers.events_of.Given as goal

-- the records before `at` are these events
abbrev pub invariant-loop-at : goal.invariant-loop-at
invariant-loop-at l = record {
  are : take l.at l.trace.records ≡ map (λ e. Ok e) l.events.items;
  small : (k : ℕ) → weight l.events.items k < 2 ^ 64;
  next : Stands l.reader l.trace l.at;
}
