-- The frames of a trace. A trace is a list of events here; a position is a number from 0 to its length, which is
-- the end.
use Rattle.std.specs.Prelude.{ℕ, zero, suc, Bool, true, false, ◌&&◌, nat_eq, nat_le, List, length, map, slice_get, Option, Some, Ok}
use Rattle.spp_event.specs.declared.records.Event.{Event}
use Rattle.spp_event.specs.declared.records.Event.TheVariants.{Strand, Call, Spawn, Ret, Sync}
use Rattle.spp_event.specs.Recordings.{Record}
use Rattle.spp_frame.specs.Nesting as nesting
use Rattle.spp_dag.specs.Ranges.{least_from, greatest_to}

-- the records that spell these events
abbrev pub records : List Event → List Record
records es = map (λ e. Ok e) es

-- nothing is wrong with the records of the trace: each return has its frame, and no frame is open at the end
abbrev pub IsWellFormed : List Event → Type 0
IsWellFormed es = nesting.IsWellFormed (records es)

-- the event at a position; there is none at the end
abbrev pub event_at : List Event → ℕ → Option Event
event_at es i = slice_get es i

abbrev pub weight_of : Option Event → ℕ
weight_of (Some (Strand count)) = count
weight_of _ = 0

-- the weight of a position: the count of a strand, else 0
abbrev pub weight : List Event → ℕ → ℕ
weight es i = weight_of (event_at es i)

abbrev pub opens : Option Event → Bool
opens (Some (Call site func)) = true
opens (Some (Spawn site func)) = true
opens _ = false

abbrev pub spawns : Option Event → Bool
spawns (Some (Spawn site func)) = true
spawns _ = false

abbrev pub returns : Option Event → Bool
returns (Some Ret) = true
returns _ = false

-- whether the frame waits there for its children: at a sync, and at a return, which acts as a sync first
abbrev pub syncs : Option Event → Bool
syncs (Some Sync) = true
syncs (Some Ret) = true
syncs _ = false

-- how many frames besides the root are open before the event at i
abbrev pub depth : List Event → ℕ → ℕ
depth es i = nesting.depth (records es) i

-- the return that closes the frame opened at i: the least later one after which the depth is again that at i
abbrev pub partner : List Event → ℕ → ℕ
partner es i =
    least_from (λ j. returns (event_at es j) && nat_eq (depth es (suc j)) (depth es i)) (suc i) (length es)

-- A frame is named by its first position: 0 for the root, o + 1 for the one opened at o.
abbrev pub is_frame : List Event → ℕ → Bool
is_frame es zero = true
is_frame es (suc o) = opens (event_at es o)

abbrev pub is_spawned : List Event → ℕ → Bool
is_spawned es zero = false
is_spawned es (suc o) = spawns (event_at es o)

-- where a frame ends: at its return, or at the end for the root
abbrev pub closing : List Event → ℕ → ℕ
closing es zero = length es
closing es (suc o) = partner es o

-- The frame that directly holds position k: the one that begins last, of those that begin at or before k and end
-- at or after it.
abbrev pub owner : List Event → ℕ → ℕ
owner es k = greatest_to (λ f. is_frame es f && nat_le k (closing es f)) k

-- Where the parent waits for the child spawned at s: the parent's next sync or return after the child's return, or
-- the end.
abbrev pub join : List Event → ℕ → ℕ
join es s =
    least_from (λ k. syncs (event_at es k) && nat_eq (owner es k) (owner es s)) (suc (partner es s)) (length es)
