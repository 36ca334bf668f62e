-- How large the numbers of a run can get, where its trace is within the limits.
use Rattle.std.specs.Prelude.{ℕ, ◌+◌, ◌≤◌, ◌<◌, ◌^◌, Bool, List, [], ◌∷◌, length, Option}
use Rattle.spp_event.specs.declared.records.Event.{Event}
use Rattle.spp_frame.specs.Nesting as nesting
use Rattle.spp_maxplus.specs.declared.state.Burdens.{Burdens}
use Rattle.spp_maxplus.specs.State.{close}
use Rattle.spp_dag.specs.declared.row.Row.{Row}
use Rattle.spp_dag.specs.declared.stack.OpenFrame.{OpenFrame}
use Rattle.spp_dag.specs.Trace.{records, weight, IsWellFormed}
use Rattle.spp_dag.specs.Dag.{Walk}
use Rattle.spp_dag.specs.Rows.{AreSpans, row}
use Rattle.spp_dag.specs.Shares.{share}
use Rattle.spp_dag.specs.Laws.{HasStack}

-- a trace within the limits: its number of events, and the count of each strand
pub record IsSmall (es : List Event) : Type 0 where
  pub events : length es ≤ 2 ^ 28
  pub strands : (k : ℕ) → weight es k < 2 ^ 64

pub record AreSmall (burdens : Burdens) : Type 0 where
  pub continuation : burdens.continuation < 2 ^ 32
  pub join : burdens.join < 2 ^ 32

-- the sums of a row fit their types, with room to spare
pub record IsSmallRow (r : Row) : Type 0 where
  pub count : r.count ≤ 2 ^ 28
  pub local : r.local < 2 ^ 92
  pub site_count : r.site_count ≤ 2 ^ 28
  pub site_work : r.site_work < 2 ^ 120
  pub site_span : r.site_span < 2 ^ 120
  pub caller_count : r.caller_count ≤ 2 ^ 28
  pub caller_work : r.caller_work < 2 ^ 120
  pub caller_span : r.caller_span < 2 ^ 120

-- what open frames close with, all together
abbrev pub plain_sum : List OpenFrame → ℕ
plain_sum [] = 0
plain_sum (f ∷ fs) = close f.plain + plain_sum fs

abbrev pub burdened_sum : List OpenFrame → ℕ
burdened_sum [] = 0
burdened_sum (f ∷ fs) = close f.burdened + burdened_sum fs

-- the work of a trace within the limits
abbrev pub WorkFits : Type 0
WorkFits = (es : List Event) → IsSmall es → nesting.work (records es) < 2 ^ 92

-- the weight of a walk
abbrev pub WalkFits : Type 0
WalkFits = (es : List Event) → IsSmall es → (burdens : Burdens) → AreSmall burdens
    → (x y w : ℕ) (rest : List ℕ) → y ≤ length es → Walk es burdens x rest y w → w < 2 ^ 93

-- the weights on the machine's stack
abbrev pub StackFits : Type 0
StackFits = (es : List Event) → IsWellFormed es → IsSmall es → (burdens : Burdens) → AreSmall burdens
    → (k : ℕ) (fs : List OpenFrame) → k ≤ length es → HasStack es burdens k fs → (plain_sum fs < 2 ^ 92) × (burdened_sum fs < 2 ^ 93)

-- the rows, and the share of any range in them
abbrev pub RowsFit : Type 0
RowsFit = (es : List Event) → IsSmall es → (root : ℕ) (span : ℕ → ℕ) → AreSpans es span → (on : ℕ → Bool) (key : Option ℕ)
    → IsSmallRow (row es root span on key) × ((from end : ℕ) → IsSmallRow (share es root span on key from end))
