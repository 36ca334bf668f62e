-- Two walks with the same ends part after a spawn.
use Rattle.std.proofs.Common.{◌≡◌, ℕ, zero, suc, ◌≤◌, ◌<◌, Bool, true, false, refl, arith, sym, ◌∙◌, ap, ap₂, subst, ◌⊎◌, inl, inr, List, [], ◌∷◌, length, Option, Some, None, nat_eq, ◌&&◌}
use Rattle.spp_event.specs.declared.records.Event.{Event}
use Rattle.spp_event.specs.declared.records.Event.TheVariants.{Strand, Call, Spawn, Ret, Sync}
use Rattle.spp_dag.specs.Trace.{event_at, opens, returns, syncs, spawns, IsWellFormed, partner, owner, join, is_spawned}
use Rattle.spp_dag.specs.Dag.{Before, FirstEnters}
use Rattle.spp_dag.proofs.Ranges.{least_from_spec}
use Rattle.spp_dag.proofs.Depth.{inside_returns, closed}
use Rattle.spp_dag.proofs.Machine.{shape}
use Rattle.spp_dag.proofs.Owner.{owner_is, return_closes}
use Rattle.spp_dag.proofs.Walks.{ReturnsTo, ReturnStep, StepOf, Step, Trail}
use Rattle.spp_dag.proofs.Upper.{spawns_opens}

module _ (es : List Event) (scale : ℕ) (into go out : ℕ → ℕ) where
  -- two steps from one place: the same, or those of a spawn
  abbrev pub Apart : ℕ → ℕ → ℕ → Type 0
  Apart x u v = (spawns (event_at es x) ≡ true) × (u ≡ suc x) × (v ≡ suc (partner es x))

  parts_back : (b : Bool) (o x u v c d : ℕ) → ReturnsTo es scale into go out b o x u c → ReturnsTo es scale into go out b o x v d → u ≡ v
  parts_back true o x u v c d s t = s.0 ∙ sym t.0
  parts_back false o x u v c d s t = s.0 ∙ sym t.0

  parts_return : (f x u v c d : ℕ) → ReturnStep es scale into go out f x u c → ReturnStep es scale into go out f x v d → u ≡ v
  parts_return zero x u v c d s t = absurd s
  parts_return (suc o) x u v c d s t = parts_back (is_spawned es (suc o)) o x u v c d s t

  parts_of : (e : Option Event) (x u v c d : ℕ) → event_at es x ≡ e → StepOf es scale into go out e x u c → StepOf es scale into go out e x v d → (u ≡ v) ⊎ (Apart x u v ⊎ Apart x v u)
  parts_of None x u v c d q s t = absurd s
  parts_of (Some (Strand n)) x u v c d q s t = inl (s.0 ∙ sym t.0)
  parts_of (Some (Call a f)) x u v c d q s t = inl (s.0 ∙ sym t.0)
  parts_of (Some (Spawn a f)) x u v c d q (inl s) (inl t) = inl (s.0 ∙ sym t.0)
  parts_of (Some (Spawn a f)) x u v c d q (inl s) (inr t) = inr (inl (ap spawns q, s.0, t.0))
  parts_of (Some (Spawn a f)) x u v c d q (inr s) (inl t) = inr (inr (ap spawns q, t.0, s.0))
  parts_of (Some (Spawn a f)) x u v c d q (inr s) (inr t) = inl (s.0 ∙ sym t.0)
  parts_of (Some Ret) x u v c d q s t = inl (parts_return (owner es x) x u v c d s t)
  parts_of (Some Sync) x u v c d q s t = inl (s.0 ∙ sym t.0)

  pub parts : (x u v c d : ℕ) → Step es scale into go out x u c → Step es scale into go out x v d → (u ≡ v) ⊎ (Apart x u v ⊎ Apart x v u)
  parts x u v c d s t = parts_of (event_at es x) x u v c d refl s t

module _ (es : List Event) (wf : IsWellFormed es) (scale : ℕ) (into go out : ℕ → ℕ) where
  forward_back : (b : Bool) (o x u c : ℕ) → opens (event_at es o) ≡ true → partner es o ≡ x → ReturnsTo es scale into go out b o x u c → x < u
  forward_back true o x u c t p s =
      let d = closed es wf o t in
      let spec = least_from_spec (λ k. syncs (event_at es k) && nat_eq (owner es k) (owner es o)) (suc (partner es o)) (length es) (let z = d.within in omega arith) in
      let a : suc (partner es o) ≤ join es o = spec.lower in
      omega (arith, s.0)
  forward_back false o x u c t p s = omega (arith, s.0)

  forward_of : (e : Option Event) (x u c : ℕ) → event_at es x ≡ e → StepOf es scale into go out e x u c → x < u
  forward_of None x u c q s = absurd s
  forward_of (Some (Strand n)) x u c q s = omega (arith, s.0)
  forward_of (Some (Call a f)) x u c q s = omega (arith, s.0)
  forward_of (Some (Spawn a f)) x u c q (inl s) = omega (arith, s.0)
  forward_of (Some (Spawn a f)) x u c q (inr s) =
      let d = closed es wf x (ap opens q) in
      let z = d.after in
      omega (arith, s.0)
  forward_of (Some Ret) x u c q s =
      let h = shape es 0 (λ _. 0) (λ _. 0) wf x (let z = inside_returns es x (ap returns q) in omega arith) in
      let r = return_closes es 0 (λ _. 0) (λ _. 0) wf x h (ap returns q) in
      let own = owner_is es 0 (λ _. 0) (λ _. 0) wf x h in
      forward_back (is_spawned es (suc r.0)) r.0 x u c r.1.opened r.2 (subst (λ f. ReturnStep es scale into go out f x u c) (own ∙ r.1.first) s)
  forward_of (Some Sync) x u c q s = omega (arith, s.0)

  -- edges go forward
  pub forward : (x u c : ℕ) → Step es scale into go out x u c → x < u
  forward x u c s = forward_of (event_at es x) x u c refl s

  pub trail_forward : (x y w : ℕ) (ps : List ℕ) → Trail es scale into go out x ps y w → x ≤ y
  trail_forward x y w [] t = omega (arith, t.0)
  trail_forward x y w (u ∷ ps) t =
      let a = forward x u t.0 t.2 in
      let b = trail_forward u y t.1 ps t.3 in
      omega arith

  -- two walks with the same ends are one, or the one enters a child where the other goes on
  pub one_enters : (x y v w : ℕ) (ps qs : List ℕ) → Trail es scale into go out x ps y v → Trail es scale into go out x qs y w
      → (ps ≡ qs) ⊎ (FirstEnters es x ps qs ⊎ FirstEnters es x qs ps)
  one_enters x y v w [] [] s t = inl refl
  one_enters x y v w [] (q ∷ qs) s t =
      let a = forward x q t.0 t.2 in
      let b = trail_forward q y t.1 qs t.3 in
      absurd (omega (arith, s.0))
  one_enters x y v w (p ∷ ps) [] s t =
      let a = forward x p s.0 s.2 in
      let b = trail_forward p y s.1 ps s.3 in
      absurd (omega (arith, t.0))
  one_enters x y v w (p ∷ ps) (q ∷ qs) s t =
      elim (parts es scale into go out x p q s.0 t.0 s.2 t.2) [
        | inl e ↦
            elim (one_enters q y s.1 t.1 ps qs (subst (λ k. Trail es scale into go out k ps y s.1) e s.3) t.3) [
              | inl f ↦ inl (ap₂ (λ a b. a ∷ b) e f)
              | inr g ↦ elim g [
                | inl a ↦ inr (inl (inr (e, subst (λ k. FirstEnters es k ps qs) (sym e) a)))
                | inr a ↦ inr (inr (inr (sym e, a)))
              ]
            ]
        | inr e ↦ elim e [ inl a ↦ inr (inl (inl a)) | inr a ↦ inr (inr (inl a)) ]
      ]

  -- the one that enters comes first in dictionary order
  pub enters_before : (x : ℕ) (ps qs : List ℕ) → FirstEnters es x ps qs → Before ps qs
  enters_before x [] qs h = absurd h
  enters_before x (p ∷ ps) [] h = absurd h
  enters_before x (p ∷ ps) (q ∷ qs) (inl a) =
      let d = closed es wf x (spawns_opens (event_at es x) a.0) in
      let z = d.after in
      inl (let m = a.1 in let n = a.2 in omega arith)
  enters_before x (p ∷ ps) (q ∷ qs) (inr a) = inr (a.0, enters_before p ps qs a.1)

pub before_not_both : (ps qs : List ℕ) → Before ps qs → Before qs ps → ⊥
before_not_both [] [] a b = a
before_not_both [] (q ∷ qs) a b = b
before_not_both (p ∷ ps) [] a b = a
before_not_both (p ∷ ps) (q ∷ qs) (inl a) (inl b) = omega arith
before_not_both (p ∷ ps) (q ∷ qs) (inl a) (inr b) = omega (arith, b.0)
before_not_both (p ∷ ps) (q ∷ qs) (inr a) (inl b) = omega (arith, a.0)
before_not_both (p ∷ ps) (q ∷ qs) (inr a) (inr b) = before_not_both ps qs a.1 b.1

pub before_not_same : (ps : List ℕ) → Before ps ps → ⊥
before_not_same ps a = before_not_both ps ps a a
