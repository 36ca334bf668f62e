-- The ways into an open frame: the greatest one along the frame itself, and the greatest one through a child that waits
-- in it, each with the rows of the closed frames that it enters, on one of both paths.
use Rattle.std.specs.Prelude.{◌≡◌, ℕ, zero, suc, ◌+◌, Bool, true, false, cond, nat_lt, is_some, List, [], ◌∷◌, ◌++◌, Option, Some, None}
use Rattle.spp_event.specs.declared.records.Event.{Event}
use Rattle.spp_event.specs.declared.records.Event.TheVariants.{Strand, Call, Spawn, Ret, Sync}
use Rattle.spp_maxplus.specs.declared.state.State.{State}
use Rattle.spp_maxplus.specs.declared.state.Burdens.{Burdens}
use Rattle.spp_maxplus.specs.State.{unburdened, close, taken}
use Rattle.spp_dag.specs.declared.row.Row.{Row}
use Rattle.spp_dag.specs.declared.stack.EntryFrame.{EntryFrame}
use Rattle.spp_dag.specs.declared.stack.FrameKind.{FrameKind}
use Rattle.spp_dag.specs.declared.stack.FrameKind.TheVariants.{Root, Called, Spawned}
use Rattle.spp_dag.specs.Trace.{event_at}
use Rattle.spp_dag.specs.Shares.{plus, zero_row}
use Rattle.spp_dag.specs.Steps.{key_of, same_key, strand_row, closed_row}
use Rattle.spp_dag.specs.Choices.{IsEntry}

-- ---- rows of closed frames

-- what a closed frame adds to the row of its key
pub record Leaf : Type 0 where
  pub key : Option ℕ
  pub row : Row

-- what these add up to in the row of a key
abbrev pub rows_at : List Leaf → Option ℕ → Row
rows_at [] key = zero_row
rows_at (l ∷ ls) key = plus (cond (same_key l.key key) l.row zero_row) (rows_at ls key)

-- ---- the ways into one frame

-- a way from a frame's first position: the rows of the closed frames that it enters, and the counts of the strands that
-- it passes directly in the frame
pub record Way : Type 0 where
  pub rows : List Leaf
  pub own : ℕ

-- The way along the frame, and that through the child that waits in it; nothing is meant by the latter where none waits.
pub record Ways : Type 0 where
  pub along : Way
  pub through : Way

-- before the first event of the frame
abbrev pub no_way : Way
no_way = record { rows = []; own = 0 }

abbrev pub no_ways : Ways
no_ways = record { along = no_way; through = no_way }

-- a strand of the frame
abbrev pub strand_way : ℕ → Way → Way
strand_way count w = record { rows = w.rows; own = w.own + count }

abbrev pub strand_ways : ℕ → Ways → Ways
strand_ways count w = record { along = strand_way count w.along; through = w.through }

-- the way on which the frame goes on where it waits, by whether it takes the child
abbrev pub way_on : Bool → Ways → Way
way_on takes w = cond takes w.through w.along

-- the frame has waited
abbrev pub waited_ways : Bool → Ways → Ways
waited_ways takes w = record { along = way_on takes w; through = no_way }

-- the rows of a way of which the frame closes, its own the last: `row` is what the close adds besides its strands
abbrev pub closed_rows : Option ℕ → Row → Way → List Leaf
closed_rows key row w = w.rows ++ (record { key = key; row = plus (strand_row w.own) row } ∷ [])

-- a way that goes on through these closed frames
abbrev pub way_through : List Leaf → Way → Way
way_through rows w = record { rows = w.rows ++ rows; own = w.own }

-- A frame of that kind, with these rows, has returned to the frame; `wins` where the way through it is greater than
-- that through the child that waits, or none waits.
abbrev pub returned_ways : FrameKind → Bool → List Leaf → Ways → Ways
returned_ways Root wins rows w = w
returned_ways Called wins rows w = record { along = way_through rows w.along; through = w.through }
returned_ways Spawned wins rows w = record { along = w.along; through = cond wins (way_through rows w.along) w.through }

-- ---- on one of both paths

-- the state of a frame on the path without burdens (false), or on that under the burdens (true)
abbrev pub state_on : Bool → EntryFrame → State
state_on false f = f.state
state_on true f = f.burdened

-- the burdens of that path
abbrev pub burdens_on : Bool → Burdens → Burdens
burdens_on false burdens = unburdened
burdens_on true burdens = burdens

-- whether the frame takes the child that waits in it, where it waits itself
abbrev pub takes : State → Bool
takes s = is_some (taken s)

-- whether a way of that weight is greater than that through the child that waits, or none waits
abbrev pub outruns : Option (ℕ × ℕ) → ℕ → Bool
outruns None weight = true
outruns (Some c) weight = nat_lt c.0 weight

-- whether the way through a child of that state, which returns, is greater than that through the one that waits
abbrev pub wins : Burdens → State → State → Bool
wins burdens child parent = outruns parent.child (parent.spine + (close child + burdens.join))

-- ---- the open frames

-- What an event makes of the ways into the open frames, innermost first, where `work` is the work before it.
abbrev pub ways_after : Bool → Burdens → Event → ℕ → List EntryFrame → List Ways → List Ways
ways_after on burdens (Strand count) work (f ∷ fs) (w ∷ ws) = strand_ways count w ∷ ws
ways_after on burdens (Call site func) work (f ∷ fs) (w ∷ ws) = no_ways ∷ w ∷ ws
ways_after on burdens (Spawn site func) work (f ∷ fs) (w ∷ ws) = no_ways ∷ w ∷ ws
ways_after on burdens Sync work (f ∷ fs) (w ∷ ws) = waited_ways (takes (state_on on f)) w ∷ ws
ways_after on burdens Ret work (f ∷ g ∷ fs) (w ∷ v ∷ ws) =
    returned_ways f.kind (wins (burdens_on on burdens) (state_on on f) (state_on on g)) (closed_rows (key_of f) (closed_row f work) (way_on (takes (state_on on f)) w)) v ∷ ws
ways_after on burdens e work fs ws = []

-- before the event at i these are the ways into the open frames, innermost first
abbrev pub HasWays : List Event → Burdens → ℕ → Bool → ℕ → List Ways → Type 0
HasWays es burdens root on zero ws = ws ≡ no_ways ∷ []
HasWays es burdens root on (suc i) ws = (e : Event) × (event_at es i ≡ Some e)
    × ((fs : List EntryFrame) × (work : ℕ) × (vs : List Ways)
    × IsEntry es burdens root i fs work × HasWays es burdens root on i vs × (ws ≡ ways_after on burdens e work fs vs))
