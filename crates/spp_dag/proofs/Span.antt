-- A frame closes with the greatest weight of a walk through it, and the root with the span.
use Rattle.std.proofs.Common.{◌≡◌, ℕ, zero, suc, ◌+◌, ◌*◌, ◌≤◌, ◌<◌, Bool, true, false, refl, arith, sym, ◌∙◌, ap, subst, inl, inr, List, [], ◌∷◌, length, Option, Some, None}
use Rattle.std.proofs.lemmas.Bool.{cases_lt}
use Rattle.std.proofs.lemmas.Option.{slice_get_past}
use Rattle.spp_event.specs.declared.records.Event.{Event}
use Rattle.spp_event.specs.declared.records.Event.TheVariants.{Strand, Call, Spawn, Ret, Sync}
use Rattle.spp_dag.specs.Trace.{event_at, weight, weight_of, opens, syncs, IsWellFormed, partner, owner, is_frame, is_spawned, closing}
use Rattle.spp_dag.specs.Dag.{EdgeBack, EdgeOf, ReturnEdge, Walk, IsGreatest, IsSpan}
use Rattle.spp_maxplus.specs.State.{start, close}
use Rattle.spp_maxplus.specs.declared.state.Burdens.{Burdens}
use Rattle.spp_dag.proofs.Depth.{closed_at_end, is_return, closed}
use Rattle.spp_dag.proofs.Machine.{step, stack, Shape}
use Rattle.spp_dag.proofs.Owner.{owner_is, at_closing}
use Rattle.spp_dag.proofs.Walks.{ReturnsTo, ReturnStep, StepOf, Trail, entry}
use Rattle.spp_dag.proofs.Upper.{A, bounded, spines, stops, syncs_stops, top_weight, arrival}
use Rattle.spp_dag.proofs.Lower.{Arrives, Reached, known, closes_with, syncs_weight}

module _ (es : List Event) (scale : ℕ) (into go out : ℕ → ℕ) where
  abbrev pub IsGreatestTrail : ℕ → ℕ → ℕ → Type 0
  IsGreatestTrail x y w = ((rest : List ℕ) × Trail es scale into go out x rest y w) × ((rest : List ℕ) (v : ℕ) → Trail es scale into go out x rest y v → v ≤ w)

module _ (es : List Event) (scale : ℕ) (go back : ℕ → ℕ) (wf : IsWellFormed es) (into out : ℕ → ℕ) (split : (s : ℕ) → back s ≡ into s + out s) where
  weight_end : weight es (length es) ≡ 0
  weight_end = ap weight_of (slice_get_past es (length es) (let z : length es ≤ length es = omega arith in z))

  -- the weight with which a frame begins: what the stack has below it
  begins : (o : ℕ) → opens (event_at es o) ≡ true → stack es scale go back (suc o) ≡ record { first = suc o; state = start } ∷ stack es scale go back o
  begins o t = begins_of (event_at es o) refl t
    where
      begins_of : (e : Option Event) → event_at es o ≡ e → opens e ≡ true → stack es scale go back (suc o) ≡ record { first = suc o; state = start } ∷ stack es scale go back o
      begins_of None q h = cc
      begins_of (Some (Strand n)) q h = cc
      begins_of (Some (Call s f)) q h = ap (λ e. step es scale go back o e (stack es scale go back o)) q
      begins_of (Some (Spawn s f)) q h = ap (λ e. step es scale go back o e (stack es scale go back o)) q
      begins_of (Some Ret) q h = cc
      begins_of (Some Sync) q h = cc

  start_weight : (b : Bool) → top_weight b start ≡ 0
  start_weight true = refl
  start_weight false = refl

  pub reached_top : (p : ℕ) → p ≤ length es → (h : Shape es scale go back p) → Reached es scale into go out p h.top
  reached_top p l h =
      let k = known es scale go back wf into out split p l in
      let e = sym k.shape_at.is ∙ h.is in
      subst (λ f. Reached es scale into go out p f) (let q : k.shape_at.top ≡ h.top = cc in q) k.reached

  -- a frame that waits closes with what its stack says
  pub stop_weight : (p : ℕ) (h : Shape es scale go back p) → stops (event_at es p) ≡ true → A es scale go back wf into out split p ≡ (close h.top.state + entry es into h.top.first) + spines (entry es into) h.rest
  stop_weight p h s = ap (arrival (entry es into) (event_at es p)) h.is ∙ ap (λ b. (top_weight b h.top.state + entry es into h.top.first) + spines (entry es into) h.rest) s

  arrives_trail : (x p a : ℕ) → weight es p ≡ 0 → Arrives es scale into go out x p a → (rest : List ℕ) × Trail es scale into go out x rest p a
  arrives_trail x p a w r =
      let v : scale * weight es p ≡ scale * 0 = ap (λ k. scale * k) w in
      (r.0, subst (λ k. Trail es scale into go out x r.0 p k) (let q : r.1 ≡ a = omega (arith, r.3) in q) r.2)

  pub greatest : (f : ℕ) → is_frame es f ≡ true → (h : Shape es scale go back (closing es f)) → IsGreatestTrail es scale into go out f (closing es f) (close h.top.state)
  greatest zero t h =
      let l : length es ≤ length es = omega arith in
      let e = slice_get_past es (length es) l in
      let r = reached_top (length es) l h in
      let c = closes_with es scale go back wf into out split h.top.first (length es) h.top.state.spine h.top.state.child l (owner_is es scale go back wf (length es) h) (λ z. absurd (omega arith)) weight_end r.spine r.child in
      elim h.case [
        | inl w ↦
            let d = arrives_trail 0 (length es) (close h.top.state) weight_end (subst (λ x. Arrives es scale into go out x (length es) (close h.top.state)) w.first c) in (
              d,
              λ rest v s.
                  let b = bounded es scale go back wf into out split 0 (length es) v rest s in
                  let m = stop_weight (length es) h (ap stops e) in
                  let n : spines (entry es into) h.rest ≡ 0 = ap (spines (entry es into)) w.alone in
                  let i : entry es into h.top.first ≡ 0 = ap (entry es into) w.first in
                  let k : scale * weight es (length es) ≡ scale * 0 = ap (λ x. scale * x) weight_end in
                  omega arith,
            )
        | inr w ↦ absurd (omega (arith, w.1.level, closed_at_end es wf))
      ]
  greatest (suc o) t h =
      let c = closed es wf o t in
      let p : ℕ = partner es o in
      let w = at_closing es scale go back wf o t h in
      let l : p ≤ length es = (let z = c.within in omega arith) in
      let e = is_return (event_at es p) c.return in
      let z : weight es p ≡ 0 = ap weight_of e in
      let r = reached_top p l h in
      let d = closes_with es scale go back wf into out split h.top.first p h.top.state.spine h.top.state.child l (owner_is es scale go back wf p h) (λ _. ap syncs e) z r.spine r.child in (
        arrives_trail (suc o) p (close h.top.state) z (subst (λ x. Arrives es scale into go out x p (close h.top.state)) w.first d),
        λ rest v s.
            let b = bounded es scale go back wf into out split (suc o) p v rest s in
            let m = stop_weight p h (ap stops e) in
            let n : spines (entry es into) h.rest ≡ spines (entry es into) (stack es scale go back o) = ap (spines (entry es into)) w.below in
            let i : entry es into h.top.first ≡ entry es into (suc o) = ap (entry es into) w.first in
            let a : A es scale go back wf into out split (suc o) ≡ (top_weight (stops (event_at es (suc o))) start + entry es into (suc o)) + spines (entry es into) (stack es scale go back o) = ap (arrival (entry es into) (event_at es (suc o))) (begins o t) in
            let j = start_weight (stops (event_at es (suc o))) in
            let k : scale * weight es p ≡ scale * 0 = ap (λ x. scale * x) z in
            omega arith,
      )

  -- where the frame that is on top at p began, the stack had what it has below that frame
  pub first_weight : (p : ℕ) (h : Shape es scale go back p) → A es scale go back wf into out split h.top.first ≡ entry es into h.top.first + spines (entry es into) h.rest
  first_weight p h = elim h.case [
    | inl r ↦
        let a : A es scale go back wf into out split h.top.first ≡ A es scale go back wf into out split 0 = ap (A es scale go back wf into out split) r.first in
        let b = start_weight (stops (event_at es 0)) in
        let c : spines (entry es into) h.rest ≡ 0 = ap (spines (entry es into)) r.alone in
        let d : entry es into h.top.first ≡ 0 = ap (entry es into) r.first in
        omega arith
    | inr w ↦
        let o : ℕ = w.0 in
        let a : A es scale go back wf into out split h.top.first ≡ A es scale go back wf into out split (suc o) = ap (A es scale go back wf into out split) w.1.first in
        let b : A es scale go back wf into out split (suc o) ≡ (top_weight (stops (event_at es (suc o))) start + entry es into (suc o)) + spines (entry es into) (stack es scale go back o) = ap (arrival (entry es into) (event_at es (suc o))) (begins o w.1.opened) in
        let c = start_weight (stops (event_at es (suc o))) in
        let d : spines (entry es into) h.rest ≡ spines (entry es into) (stack es scale go back o) = ap (spines (entry es into)) w.1.below in
        let e : entry es into h.top.first ≡ entry es into (suc o) = ap (entry es into) w.1.first in
        omega arith
  ]

  -- wherever a frame waits: the greatest weight of a walk from its beginning
  pub greatest_at : (p : ℕ) → p ≤ length es → (p < length es → syncs (event_at es p) ≡ true) → (h : Shape es scale go back p) → IsGreatestTrail es scale into go out h.top.first p (close h.top.state)
  greatest_at p l n h =
      let stop : (stops (event_at es p) ≡ true) × (weight es p ≡ 0) = elim (cases_lt p (length es)) [
        | inl a ↦ (syncs_stops (event_at es p) (n a), syncs_weight (event_at es p) (n a))
        | inr b ↦ (ap stops (slice_get_past es p b), ap weight_of (slice_get_past es p b))
      ] in
      let z = stop.1 in
      let r = reached_top p l h in
      let d = closes_with es scale go back wf into out split h.top.first p h.top.state.spine h.top.state.child l (owner_is es scale go back wf p h) n z r.spine r.child in (
        arrives_trail h.top.first p (close h.top.state) z d,
        λ rest v s.
            let b = bounded es scale go back wf into out split h.top.first p v rest s in
            let m = stop_weight p h stop.0 in
            let a = first_weight p h in
            let k : scale * weight es p ≡ scale * 0 = ap (λ x. scale * x) z in
            omega arith,
      )

-- the walks of the definitions are those of scale 1 and one pair of burdens
module _ (es : List Event) (burdens : Burdens) where
  return_to : (b : Bool) (o u v c : ℕ) → EdgeBack es burdens b o u v c → ReturnsTo es 1 (λ _. 0) (λ _. burdens.continuation) (λ _. burdens.join) b o u v c
  return_to true o u v c s = s
  return_to false o u v c s = s

  return_from : (b : Bool) (o u v c : ℕ) → ReturnsTo es 1 (λ _. 0) (λ _. burdens.continuation) (λ _. burdens.join) b o u v c → EdgeBack es burdens b o u v c
  return_from true o u v c s = s
  return_from false o u v c s = s

  step_to : (e : Option Event) (f u v c : ℕ) → f ≡ owner es u → EdgeOf es burdens e u v c → StepOf es 1 (λ _. 0) (λ _. burdens.continuation) (λ _. burdens.join) e u v c
  step_to None f u v c q s = s
  step_to (Some (Strand n)) f u v c q s = s
  step_to (Some (Call a b)) f u v c q s = s
  step_to (Some (Spawn a b)) f u v c q s = s
  step_to (Some Ret) zero u v c q s = absurd (subst (λ k. ReturnEdge es burdens k u v c) (sym q) s)
  step_to (Some Ret) (suc o) u v c q s =
      subst (λ k. ReturnStep es 1 (λ _. 0) (λ _. burdens.continuation) (λ _. burdens.join) k u v c) q
      (return_to (is_spawned es (suc o)) o u v c (subst (λ k. ReturnEdge es burdens k u v c) (sym q) s))
  step_to (Some Sync) f u v c q s = s

  step_from : (e : Option Event) (f u v c : ℕ) → f ≡ owner es u → StepOf es 1 (λ _. 0) (λ _. burdens.continuation) (λ _. burdens.join) e u v c → EdgeOf es burdens e u v c
  step_from None f u v c q s = s
  step_from (Some (Strand n)) f u v c q s = s
  step_from (Some (Call a b)) f u v c q s = s
  step_from (Some (Spawn a b)) f u v c q s = s
  step_from (Some Ret) zero u v c q s = absurd (subst (λ k. ReturnStep es 1 (λ _. 0) (λ _. burdens.continuation) (λ _. burdens.join) k u v c) (sym q) s)
  step_from (Some Ret) (suc o) u v c q s =
      subst (λ k. ReturnEdge es burdens k u v c) q
      (return_from (is_spawned es (suc o)) o u v c (subst (λ k. ReturnStep es 1 (λ _. 0) (λ _. burdens.continuation) (λ _. burdens.join) k u v c) (sym q) s))
  step_from (Some Sync) f u v c q s = s

  pub trail_of : (x y w : ℕ) (rest : List ℕ) → Walk es burdens x rest y w → Trail es 1 (λ _. 0) (λ _. burdens.continuation) (λ _. burdens.join) x rest y w
  trail_of x y w [] t = (t.0, (let z = t.1 in omega arith))
  trail_of x y w (u ∷ rest) t = (t.0, t.1, step_to (event_at es x) (owner es x) x u t.0 refl t.2, trail_of u y t.1 rest t.3, (let z = t.4 in omega arith))

  pub walk_of : (x y w : ℕ) (rest : List ℕ) → Trail es 1 (λ _. 0) (λ _. burdens.continuation) (λ _. burdens.join) x rest y w → Walk es burdens x rest y w
  walk_of x y w [] t = (t.0, (let z = t.1 in omega arith))
  walk_of x y w (u ∷ rest) t = (t.0, t.1, step_from (event_at es x) (owner es x) x u t.0 refl t.2, walk_of u y t.1 rest t.3, (let z = t.4 in omega arith))

-- a frame closes with the greatest weight of a walk through it
pub closes_with_greatest : (es : List Event) (burdens : Burdens) → IsWellFormed es → (f : ℕ) → is_frame es f ≡ true
    → (h : Shape es 1 (λ _. burdens.continuation) (λ _. burdens.join) (closing es f)) → IsGreatest es burdens f (closing es f) (close h.top.state)
closes_with_greatest es burdens wf f t h =
    let g = greatest es 1 (λ _. burdens.continuation) (λ _. burdens.join) wf (λ _. 0) (λ _. burdens.join) (λ s. let z : burdens.join ≡ 0 + burdens.join = omega arith in z) f t h in
    ((g.0.0, walk_of es burdens f (closing es f) (close h.top.state) g.0.0 g.0.1), λ rest v s. g.1 rest v (trail_of es burdens f (closing es f) v rest s))

pub root_closes_with_span : (es : List Event) (burdens : Burdens) → IsWellFormed es → (h : Shape es 1 (λ _. burdens.continuation) (λ _. burdens.join) (length es)) → IsSpan es burdens (close h.top.state)
root_closes_with_span es burdens wf h = closes_with_greatest es burdens wf 0 refl h
