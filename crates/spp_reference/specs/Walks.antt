-- The greatest weight of a walk, where there is one.
use Rattle.std.specs.Prelude.{ℕ, ◌+◌, List, Option, Some, None, get_or}
use Rattle.std.specs.Option.{option_map}
use Rattle.spp_event.specs.declared.records.Event.{Event}
use Rattle.spp_maxplus.specs.declared.state.Burdens.{Burdens}
use Rattle.spp_dag.specs.Dag.{Walk, IsGreatest}
use Rattle.spp_reference.specs.declared.dag.Edge.{Edge}

-- the greatest weight of a walk from x to y, or that there is no walk
abbrev pub IsBest : List Event → Burdens → ℕ → ℕ → Option ℕ → Type 0
IsBest es burdens x y None = (rest : List ℕ) (w : ℕ) → Walk es burdens x rest y w → ⊥
IsBest es burdens x y (Some w) = IsGreatest es burdens x y w

-- there is a walk from x to y
abbrev pub Reaches : List Event → Burdens → ℕ → ℕ → Type 0
Reaches es burdens x y = (rest : List ℕ) × (w : ℕ) × Walk es burdens x rest y w

-- what the edge bears and the weight that `best` has where it leads, where there are both
abbrev pub weight_along : Option Edge → List (Option ℕ) → Option ℕ
weight_along None best = None
weight_along (Some edge) best = option_map (λ w. edge.burden + w) (get_or best edge.to None)
