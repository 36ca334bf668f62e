-- The figures of a run, as its dag defines them.
use Rattle.std.specs.Prelude.{◌≡◌, List}
use Rattle.spp_event.specs.declared.records.Event.{Event}
use Rattle.spp_event.specs.Recordings.{Record}
use Rattle.spp_maxplus.specs.declared.state.Burdens.{Burdens}
use Rattle.spp_maxplus.specs.State.{unburdened}
use Rattle.spp_frame.specs.Nesting.{AreEvents, IsWellFormed, work}
use Rattle.spp_dag.specs.Dag.{IsSpan}
use Rattle.spp_dag.specs.declared.figures.Figures.{Figures}

-- the records are those of a well-formed trace, whose work and spans these are
pub record AreFigures (records : List Record) (burdens : Burdens) (f : Figures) : Type 0 where
  pub events : List Event
  pub are_events : AreEvents records events
  pub well_formed : IsWellFormed records
  pub work : f.work ≡ work records
  pub span : IsSpan events unburdened f.span
  pub burdened : IsSpan events burdens f.burdened
