-- The dag of a run on the positions of its trace, its walks and their weights. Two numbers burden the dag, one each
-- continuation edge and one each return edge.
use Rattle.std.specs.Prelude.{◌≡◌, ℕ, zero, suc, ◌+◌, ◌≤◌, ◌<◌, Bool, true, false, List, [], ◌∷◌, length, Option, Some, None, ◌⊎◌}
use Rattle.spp_event.specs.declared.records.Event.{Event}
use Rattle.spp_event.specs.declared.records.Event.TheVariants.{Strand, Call, Spawn, Ret, Sync}
use Rattle.spp_maxplus.specs.declared.state.Burdens.{Burdens}
use Rattle.spp_dag.specs.Trace.{event_at, weight, spawns, partner, owner, join, is_spawned}

-- out of the return at u of the frame opened at o: of a spawned one to its join, of a called one to what follows
abbrev pub EdgeBack : List Event → Burdens → Bool → ℕ → ℕ → ℕ → ℕ → Type 0
EdgeBack es burdens true o u v c = (v ≡ join es o) × (c ≡ burdens.join)
EdgeBack es burdens false o u v c = (v ≡ suc u) × (c ≡ 0)

-- out of a return at u, by the frame that it closes
abbrev pub ReturnEdge : List Event → Burdens → ℕ → ℕ → ℕ → ℕ → Type 0
ReturnEdge es burdens zero u v c = ⊥
ReturnEdge es burdens (suc o) u v c = EdgeBack es burdens (is_spawned es (suc o)) o u v c

-- out of u, by its event: a spawn leads into the child, and past it along the continuation
abbrev pub EdgeOf : List Event → Burdens → Option Event → ℕ → ℕ → ℕ → Type 0
EdgeOf es burdens None u v c = ⊥
EdgeOf es burdens (Some (Strand count)) u v c = (v ≡ suc u) × (c ≡ 0)
EdgeOf es burdens (Some (Call site func)) u v c = (v ≡ suc u) × (c ≡ 0)
EdgeOf es burdens (Some (Spawn site func)) u v c =
    ((v ≡ suc u) × (c ≡ 0)) ⊎ ((v ≡ suc (partner es u)) × (c ≡ burdens.continuation))
EdgeOf es burdens (Some Ret) u v c = ReturnEdge es burdens (owner es u) u v c
EdgeOf es burdens (Some Sync) u v c = (v ≡ suc u) × (c ≡ 0)

-- there is an edge from u to v, and it bears c
abbrev pub Edge : List Event → Burdens → ℕ → ℕ → ℕ → Type 0
Edge es burdens u v c = EdgeOf es burdens (event_at es u) u v c

-- There is a walk from x to y whose positions after x are `rest`; it weighs w, the weights of its positions and what
-- its edges bear.
abbrev pub Walk : List Event → Burdens → ℕ → List ℕ → ℕ → ℕ → Type 0
Walk es burdens x [] y w = (x ≡ y) × (w ≡ weight es x)
Walk es burdens x (u ∷ rest) y w =
    (c : ℕ) × (tail : ℕ) × Edge es burdens x u c × Walk es burdens u rest y tail × (w ≡ weight es x + (c + tail))

-- no walk from x to y weighs more than w
abbrev pub AtMost : List Event → Burdens → ℕ → ℕ → ℕ → Type 0
AtMost es burdens x y w = (rest : List ℕ) (v : ℕ) → Walk es burdens x rest y v → v ≤ w

-- some walk from x to y weighs w, and none weighs more
abbrev pub IsGreatest : List Event → Burdens → ℕ → ℕ → ℕ → Type 0
IsGreatest es burdens x y w = ((rest : List ℕ) × Walk es burdens x rest y w) × AtMost es burdens x y w

-- the span: the greatest weight of a walk from the first position to the end
abbrev pub IsSpan : List Event → Burdens → ℕ → Type 0
IsSpan es burdens w = IsGreatest es burdens 0 (length es) w

-- dictionary order of two lists of positions
abbrev pub Before : List ℕ → List ℕ → Type 0
Before [] [] = ⊥
Before [] (q ∷ qs) = Unit {0}
Before (p ∷ ps) [] = ⊥
Before (p ∷ ps) (q ∷ qs) = (p < q) ⊎ ((p ≡ q) × Before ps qs)

-- of the walks from x to y of greatest weight the first in dictionary order, by its positions after x
abbrev pub IsPath : List Event → Burdens → ℕ → ℕ → List ℕ → Type 0
IsPath es burdens x y ps = (w : ℕ) × Walk es burdens x ps y w × AtMost es burdens x y w
    × ((qs : List ℕ) → Walk es burdens x qs y w → (qs ≡ ps) ⊎ Before ps qs)

-- the walk from x through `rest` passes i
abbrev pub On : ℕ → List ℕ → ℕ → Type 0
On x [] i = i ≡ x
On x (u ∷ us) i = (i ≡ x) ⊎ On u us i

-- Up to some spawn the two walks from x are one, and there the first enters the child and the second goes on
-- beside it.
abbrev pub FirstEnters : List Event → ℕ → List ℕ → List ℕ → Type 0
FirstEnters es x [] qs = ⊥
FirstEnters es x (u ∷ us) [] = ⊥
FirstEnters es x (u ∷ us) (v ∷ vs) =
    ((spawns (event_at es x) ≡ true) × (u ≡ suc x) × (v ≡ suc (partner es x))) ⊎ ((u ≡ v) × FirstEnters es u us vs)
