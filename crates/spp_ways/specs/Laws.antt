-- What the ways into open frames are for: the one with which the root frame closes gives the rows of the path.
use Rattle.std.specs.Prelude.{◌≡◌, ℕ, Bool, List, [], ◌∷◌, length, Option, None}
use Rattle.spp_event.specs.declared.records.Event.{Event}
use Rattle.spp_maxplus.specs.declared.state.Burdens.{Burdens}
use Rattle.spp_dag.specs.declared.stack.EntryFrame.{EntryFrame}
use Rattle.spp_dag.specs.Trace.{IsWellFormed}
use Rattle.spp_dag.specs.Dag.{IsPath}
use Rattle.spp_dag.specs.Rows.{AreSpans, row, contains}
use Rattle.spp_dag.specs.Steps.{closed_row}
use Rattle.spp_dag.specs.Choices.{IsEntry}
use Rattle.spp_ways.specs.Ways.{Ways, HasWays, rows_at, closed_rows, way_on, takes, state_on, burdens_on}

-- The way into the root frame that it closes with, its own row among the others, has the rows of the path.
abbrev pub WaysGiveRows : Type 0
WaysGiveRows = (es : List Event) → IsWellFormed es → (burdens : Burdens) (root : ℕ) (span : ℕ → ℕ) → AreSpans es span → (on : Bool) (rest : List ℕ)
    → IsPath es (burdens_on on burdens) 0 (length es) rest → (f : EntryFrame) (work : ℕ) (w : Ways)
    → IsEntry es burdens root (length es) (f ∷ []) work → HasWays es burdens root on (length es) (w ∷ []) → (key : Option ℕ)
    → row es root span (contains (0 ∷ rest)) key ≡ rows_at (closed_rows None (closed_row f work) (way_on (takes (state_on on f)) w)) key
