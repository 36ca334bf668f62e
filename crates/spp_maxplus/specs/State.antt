-- What an event does to the state of the frame that it belongs to.
use Rattle.std.specs.Prelude.{ℕ, ◌+◌, cond, nat_le, Option, Some, None}
use Rattle.spp_maxplus.specs.declared.state.State.{State}
use Rattle.spp_maxplus.specs.declared.state.Burdens.{Burdens}
use Rattle.spp_maxplus.specs.declared.child.ChildKind.{ChildKind}
use Rattle.spp_maxplus.specs.declared.child.ChildKind.TheVariants.{Called, Spawned}
use Rattle.spp_maxplus.specs.Candidate.{greatest, better}

-- no edge bears anything
abbrev pub unburdened : Burdens
unburdened = record { continuation = 0; join = 0 }

-- edges of both kinds bear the same
abbrev pub equal : ℕ → Burdens
equal burden = record { continuation = burden; join = burden }

-- a frame that was just opened
abbrev pub start : State
start = record { spine = 0; child = None }

-- a strand of that many instructions
abbrev pub after_strand : ℕ → State → State
after_strand count s = record { spine = s.spine + count; child = s.child }

-- a called child has returned, which closed with that weight
abbrev pub after_call : ℕ → State → State
after_call weight s = record { spine = s.spine + weight; child = s.child }

-- A spawned child has returned, which closed with that weight and was spawned at that position. Where the parent next
-- waits, the way through the child bears the burden of its return edge, and the way past it that of the continuation
-- edge.
abbrev pub after_spawn : ℕ → ℕ → Burdens → State → State
after_spawn at weight burdens s = record {
  spine = s.spine + burdens.continuation;
  child = better s.child (Some (s.spine + (weight + burdens.join), at));
}

-- a child of that kind has returned, which closed with that weight and was entered at that position
abbrev pub after_child : Burdens → ChildKind → ℕ → ℕ → State → State
after_child burdens Called at weight s = after_call weight s
after_child burdens Spawned at weight s = after_spawn at weight burdens s

-- the weight with which the frame closes: the greater of spine and child
abbrev pub close : State → ℕ
close s = greatest s.spine s.child

-- the frame has waited for its children
abbrev pub after_sync : State → State
after_sync s = record { spine = close s; child = None }

abbrev pub taken_of : ℕ → Option (ℕ × ℕ) → Option ℕ
taken_of spine None = None
taken_of spine (Some c) = cond (nat_le spine c.0) (Some c.1) None

-- the spawn of the child that the frame takes where it waits: the child wins against an equal spine
abbrev pub taken : State → Option ℕ
taken s = taken_of s.spine s.child
