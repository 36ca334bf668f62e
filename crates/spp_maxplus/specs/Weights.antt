-- What events do to the weights of the frame that they belong to, where of the child that is waited for the weight alone
-- is kept, 0 where there is none.
use Rattle.std.specs.Prelude.{ℕ, ◌+◌, max, Option, Some, None}
use Rattle.spp_maxplus.specs.declared.state.Burdens.{Burdens}
use Rattle.spp_maxplus.specs.declared.state.State.{State}
use Rattle.spp_maxplus.specs.declared.weights.Weights.{Weights}
use Rattle.spp_maxplus.specs.declared.child.ChildKind.{ChildKind}
use Rattle.spp_maxplus.specs.declared.child.ChildKind.TheVariants.{Called, Spawned}

abbrev pub child_weight : Option (ℕ × ℕ) → ℕ
child_weight None = 0
child_weight (Some c) = c.0

-- the weights of a frame in that state
abbrev pub weights_of : State → Weights
weights_of s = record { spine = s.spine; child = child_weight s.child }

abbrev pub start : Weights
start = record { spine = 0; child = 0 }

abbrev pub close : Weights → ℕ
close w = max w.spine w.child

abbrev pub after_strand : ℕ → Weights → Weights
after_strand count w = record { spine = w.spine + count; child = w.child }

abbrev pub after_sync : Weights → Weights
after_sync w = record { spine = close w; child = 0 }

abbrev pub after_call : ℕ → Weights → Weights
after_call weight w = record { spine = w.spine + weight; child = w.child }

abbrev pub after_spawn : ℕ → Burdens → Weights → Weights
after_spawn weight burdens w = record {
  spine = w.spine + burdens.continuation;
  child = max w.child (w.spine + (weight + burdens.join));
}

-- a child of that kind has returned
abbrev pub after_child : Burdens → ChildKind → ℕ → Weights → Weights
after_child burdens Called weight w = after_call weight w
after_child burdens Spawned weight w = after_spawn weight burdens w
