-- What is looked up of a dag, and its edges as the code holds them.
use Rattle.std.specs.Prelude.{◌≡◌, ℕ, suc, ◌<◌, ◌⊎◌, List, length, slice_get, Some}
use Rattle.spp_event.specs.declared.records.Event.{Event}
use Rattle.spp_dag.specs.Trace.{closing, owner, IsWellFormed}
use Rattle.spp_dag.specs.Limits.{IsSmall}
use Rattle.spp_reference.specs.declared.dag.Edge.{Edge}
use Rattle.spp_reference.specs.declared.dag.Edges.{Edges}

-- the list is f 0, f 1, .., f (n - 1)
abbrev pub Lists : {X : Type 0} → ℕ → (ℕ → X) → List X → Type 0
Lists n f xs = (length xs ≡ n) × ((i : ℕ) → i < n → slice_get xs i ≡ Some (f i))

-- the two tables are those of a well-formed trace within the limits
pub record IsDag (es : List Event) (ends frames : List ℕ) : Type 0 where
  pub well_formed : IsWellFormed es
  pub small : IsSmall es
  pub closings : Lists (suc (length es)) (closing es) ends
  pub owners : Lists (suc (length es)) (owner es) frames

-- an edge to v that bears c
abbrev pub edge : ℕ → ℕ → Edge
edge v c = record { to = v; burden = c }

-- one of them leads to v and bears c
abbrev pub HasEdge : Edges → ℕ → ℕ → Type 0
HasEdge edges v c = (edges.first ≡ Some (edge v c)) ⊎ (edges.second ≡ Some (edge v c))

-- the second leads further than the first
abbrev pub IsInOrder : Edges → Type 0
IsInOrder edges = (e f : Edge) → edges.first ≡ Some e → edges.second ≡ Some f → e.to < f.to
