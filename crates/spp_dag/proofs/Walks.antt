-- Walks for any scale of the weights and any burdens of each spawn: its spawn edge bears `into`, its continuation edge
-- `go`, its return edge `out`.
use Rattle.std.proofs.Common.{◌≡◌, ℕ, zero, suc, ◌+◌, ◌*◌, Bool, true, false, refl, arith, sym, subst, ◌⊎◌, List, [], ◌∷◌, ◌++◌, Option, Some, None}
use Rattle.spp_event.specs.declared.records.Event.{Event}
use Rattle.spp_event.specs.declared.records.Event.TheVariants.{Strand, Call, Spawn, Ret, Sync}
use Rattle.spp_dag.specs.Trace.{event_at, weight, partner, owner, join, is_spawned, spawns}

-- what the edge into a frame bears, by the event that opens it at o
abbrev pub entry_of : (ℕ → ℕ) → ℕ → Option Event → ℕ
entry_of into o (Some (Spawn s f)) = into o
entry_of into o _ = 0

-- what the edge into the frame bears
abbrev pub entry : List Event → (ℕ → ℕ) → ℕ → ℕ
entry es into zero = 0
entry es into (suc o) = entry_of into o (event_at es o)

pub entry_of_spawned : (into : ℕ → ℕ) (o : ℕ) (e : Option Event) → spawns e ≡ true → entry_of into o e ≡ into o
entry_of_spawned into o None h = cc
entry_of_spawned into o (Some (Strand n)) h = cc
entry_of_spawned into o (Some (Call s f)) h = cc
entry_of_spawned into o (Some (Spawn s f)) h = refl
entry_of_spawned into o (Some Ret) h = cc
entry_of_spawned into o (Some Sync) h = cc

pub entry_of_other : (into : ℕ → ℕ) (o : ℕ) (e : Option Event) → spawns e ≡ false → entry_of into o e ≡ 0
entry_of_other into o None h = refl
entry_of_other into o (Some (Strand n)) h = refl
entry_of_other into o (Some (Call s f)) h = refl
entry_of_other into o (Some (Spawn s f)) h = cc
entry_of_other into o (Some Ret) h = refl
entry_of_other into o (Some Sync) h = refl

module _ (es : List Event) (scale : ℕ) (into go out : ℕ → ℕ) where
  abbrev pub ReturnsTo : Bool → ℕ → ℕ → ℕ → ℕ → Type 0
  ReturnsTo true o u v c = (v ≡ join es o) × (c ≡ out o)
  ReturnsTo false o u v c = (v ≡ suc u) × (c ≡ 0)

  abbrev pub ReturnStep : ℕ → ℕ → ℕ → ℕ → Type 0
  ReturnStep zero u v c = ⊥
  ReturnStep (suc o) u v c = ReturnsTo (is_spawned es (suc o)) o u v c

  abbrev pub StepOf : Option Event → ℕ → ℕ → ℕ → Type 0
  StepOf None u v c = ⊥
  StepOf (Some (Strand n)) u v c = (v ≡ suc u) × (c ≡ 0)
  StepOf (Some (Call s f)) u v c = (v ≡ suc u) × (c ≡ 0)
  StepOf (Some Sync) u v c = (v ≡ suc u) × (c ≡ 0)
  StepOf (Some (Spawn s f)) u v c = ((v ≡ suc u) × (c ≡ into u)) ⊎ ((v ≡ suc (partner es u)) × (c ≡ go u))
  StepOf (Some Ret) u v c = ReturnStep (owner es u) u v c

  abbrev pub Step : ℕ → ℕ → ℕ → Type 0
  Step u v c = StepOf (event_at es u) u v c

  abbrev pub Trail : ℕ → List ℕ → ℕ → ℕ → Type 0
  Trail x [] y w = (x ≡ y) × (w ≡ scale * weight es x)
  Trail x (u ∷ rest) y w = (c : ℕ) × (tail : ℕ) × Step x u c × Trail u rest y tail × (w ≡ scale * weight es x + (c + tail))

  -- two walks, one after the other, with the weight of the place where they meet counted once
  pub joined : (x y z v w : ℕ) (ps qs : List ℕ) → Trail x ps y v → Trail y qs z w → (t : ℕ) × Trail x (ps ++ qs) z t × (t + scale * weight es y ≡ v + w)
  joined x y z v w [] qs a b = (w, subst (λ k. Trail k qs z w) (sym a.0) b, (let e = subst (λ k. v ≡ scale * weight es k) a.0 a.1 in omega arith))
  joined x y z v w (u ∷ ps) qs a b =
      let r = joined u y z a.1 w ps qs a.3 b in
      (scale * weight es x + (a.0 + r.0), (a.0, r.0, a.2, r.1, refl), (let e = r.2 in let f = a.4 in omega arith))

  -- one more step at the end
  pub one_more : (x y z v c : ℕ) (ps : List ℕ) → Trail x ps y v → Step y z c → Trail x (ps ++ z ∷ []) z (v + (c + scale * weight es z))
  one_more x y z v c ps a s =
      let r = joined x y z v (scale * weight es y + (c + scale * weight es z)) ps (z ∷ []) a (c, scale * weight es z, s, (refl, refl), refl) in
      subst (λ t. Trail x (ps ++ z ∷ []) z t) (let q : r.0 ≡ v + (c + scale * weight es z) = omega (arith, r.2) in q) r.1
