-- Where a path goes at a spawn.
use Rattle.std.proofs.Common.{◌≡◌, ℕ, suc, ◌≤◌, ◌<◌, ◌⊎◌, Bool, true, false, List, [], ◌∷◌, length, Option, Some, None, refl, sym, ap, subst, ◌∙◌, arith, inl, inr}
use Rattle.spp_event.specs.declared.records.Event.{Event}
use Rattle.spp_event.specs.declared.records.Event.TheVariants.{Strand, Call, Spawn, Ret, Sync}
use Rattle.spp_maxplus.specs.declared.state.Burdens.{Burdens}
use Rattle.spp_dag.specs.Trace.{event_at, spawns, returns, partner, owner, join, is_spawned}
use Rattle.spp_dag.specs.Dag.{Walk, Edge, EdgeOf, EdgeBack, ReturnEdge, On}
use Rattle.spp_dag.proofs.Depth.{closed}
use Rattle.spp_dag.proofs.Upper.{spawns_opens}
use Rattle.spp_dag.proofs.Crossing.{owner_closing}
use Rattle.spp_dag.proofs.PathLaws.{whole_of, child_returns}
use Rattle.spp_dag.proofs.Bounds.{edge_forward, partner_after}
use Rattle.spp_advice.specs.Laws.{Goes, SpawnsAreLeft, ChildrenAreLeft}

pub none_past : (es : List Event) → event_at es (length es) ≡ None
none_past [] = refl
none_past (e ∷ es) = none_past es

module _ (es : List Event) (burdens : Burdens) where
  -- an edge out of a spawn
  spawn_edge : (e : Option Event) (u v c : ℕ) → spawns e ≡ true → EdgeOf es burdens e u v c → (v ≡ suc u) ⊎ (v ≡ suc (partner es u))
  spawn_edge None u v c t h = absurd h
  spawn_edge (Some (Strand n)) u v c t h = absurd cc
  spawn_edge (Some (Call s f)) u v c t h = absurd cc
  spawn_edge (Some (Spawn s f)) u v c t (inl h) = inl h.0
  spawn_edge (Some (Spawn s f)) u v c t (inr h) = inr h.0
  spawn_edge (Some Ret) u v c t h = absurd cc
  spawn_edge (Some Sync) u v c t h = absurd cc

  -- no walk goes back
  pub on_from : (x y w j : ℕ) (ps : List ℕ) → Walk es burdens x ps y w → On x ps j → x ≤ j
  on_from x y w j [] h on = omega (arith, on)
  on_from x y w j (p ∷ ps) h (inl e) = omega (arith, e)
  on_from x y w j (p ∷ ps) h (inr on) =
      let l = on_from p y h.1 j ps h.3 on in
      let f = edge_forward es burdens (event_at es x) x p h.0 h.2 in
      let g : x < p = f.0 in
      omega (arith, g, l)

  pub on_head : (x : ℕ) (ps : List ℕ) → On x ps x
  on_head x [] = refl
  on_head x (p ∷ ps) = inl refl

  -- an end is no spawn
  no_spawn : (x w u : ℕ) → Walk es burdens x [] (length es) w → spawns (event_at es u) ≡ true → On x [] u → ⊥
  no_spawn x w u h t on =
      let e : u ≡ length es = on ∙ h.0 in
      let z : spawns None ≡ true = ap spawns (sym (ap (λ (k : ℕ). event_at es k) e ∙ none_past es)) ∙ t in
      absurd cc

  here : (u w p : ℕ) (ps : List ℕ) → Walk es burdens u (p ∷ ps) (length es) w → spawns (event_at es u) ≡ true
      → (On u (p ∷ ps) (suc u) → Goes u (p ∷ ps) u (suc u)) × ((On u (p ∷ ps) (suc u) → ⊥) → Goes u (p ∷ ps) u (suc (partner es u)))
  here u w p ps h t =
      elim (spawn_edge (event_at es u) u p h.0 t h.2) [
        | inl e ↦ ((λ on. inl (refl, e)), (λ off. absurd (off (inr (subst (λ (k : ℕ). On p ps k) e (on_head p ps))))))
        | inr e ↦ (
          (λ on. absurd (elim on [
            | inl same ↦ (let z : suc u ≡ u = same in omega arith)
            | inr there ↦ (let l : p ≤ suc u = on_from p (length es) h.1 (suc u) ps h.3 there in let q = partner_after es burdens u in omega (arith, l, q, e))
          ])),
          (λ off. inl (refl, e)),
        )
      ]

  left : (x w u : ℕ) (ps : List ℕ) → Walk es burdens x ps (length es) w → spawns (event_at es u) ≡ true → On x ps u
      → (On x ps (suc u) → Goes x ps u (suc u)) × ((On x ps (suc u) → ⊥) → Goes x ps u (suc (partner es u)))
  left x w u [] h t on = absurd (no_spawn x w u h t on)
  left x w u (p ∷ ps) h t (inl e) =
      subst (λ (k : ℕ). (On k (p ∷ ps) (suc u) → Goes k (p ∷ ps) u (suc u)) × ((On k (p ∷ ps) (suc u) → ⊥) → Goes k (p ∷ ps) u (suc (partner es u)))) e
      (here u w p ps (subst (λ (k : ℕ). Walk es burdens k (p ∷ ps) (length es) w) (sym e) h) t)
  left x w u (p ∷ ps) h t (inr on) =
      let rest = left p h.1 u ps h.3 t on in
      let f = edge_forward es burdens (event_at es x) x p h.0 h.2 in
      let g : x < p = f.0 in
      let l : p ≤ u = on_from p (length es) h.1 u ps h.3 on in (
        (λ both. elim both [ inl e ↦ absurd (let z : suc u ≡ x = e in omega (arith, g, l)) | inr there ↦ inr (rest.0 there) ]),
        (λ off. inr (rest.1 (λ there. off (inr there)))),
      )

  spawn_past : (e : Option Event) (u : ℕ) → spawns e ≡ true → EdgeOf es burdens e u (suc (partner es u)) burdens.continuation
  spawn_past None u t = absurd cc
  spawn_past (Some (Strand n)) u t = absurd cc
  spawn_past (Some (Call s f)) u t = absurd cc
  spawn_past (Some (Spawn s f)) u t = inr (refl, refl)
  spawn_past (Some Ret) u t = absurd cc
  spawn_past (Some Sync) u t = absurd cc

  -- a walk goes on from each position but its end
  goes_on : (x w u : ℕ) (ps : List ℕ) → Walk es burdens x ps (length es) w → On x ps u → u < length es → (v : ℕ) × (c : ℕ) × Edge es burdens u v c × Goes x ps u v
  goes_on x w u [] h on lt = absurd (let e = h.0 in omega (arith, on, e))
  goes_on x w u (p ∷ ps) h (inl e) lt = (p, h.0, subst (λ (k : ℕ). Edge es burdens k p h.0) (sym e) h.2, inl (sym e, refl))
  goes_on x w u (p ∷ ps) h (inr on) lt = let r = goes_on p h.1 u ps h.3 on lt in (r.0, r.1, r.2, inr r.3)

  -- an edge out of a spawned child
  back_edge : (b : Bool) (s u v c : ℕ) → b ≡ true → EdgeBack es burdens b s u v c → (v ≡ join es s) × (c ≡ burdens.join)
  back_edge true s u v c t h = h
  back_edge false s u v c t h = absurd cc

  return_edge : (e : Option Event) (s u v c : ℕ) → returns e ≡ true → owner es u ≡ suc s → spawns (event_at es s) ≡ true → EdgeOf es burdens e u v c → (v ≡ join es s) × (c ≡ burdens.join)
  return_edge None s u v c r own t h = absurd h
  return_edge (Some (Strand n)) s u v c r own t h = absurd cc
  return_edge (Some (Call a f)) s u v c r own t h = absurd cc
  return_edge (Some (Spawn a f)) s u v c r own t h = absurd cc
  return_edge (Some Ret) s u v c r own t h = back_edge (is_spawned es (suc s)) s u v c t (subst (λ (f : ℕ). ReturnEdge es burdens f u v c) own h)
  return_edge (Some Sync) s u v c r own t h = absurd cc

pub spawns_are_left : SpawnsAreLeft
spawns_are_left es burdens ps path u t on =
    let l = left es burdens 0 path.0 u ps path.1 t on in
    (l.0, (λ off. (l.1 off, spawn_past es burdens (event_at es u) u t)))

pub children_are_left : ChildrenAreLeft
children_are_left es wf burdens ps path s t on =
    let whole = whole_of es wf burdens ps path in
    let o = spawns_opens (event_at es s) t in
    let c = closed es wf s o in
    let ret : On 0 ps (partner es s) = child_returns es wf burdens ps whole.0 s whole.1 t on in
    let r = goes_on es burdens 0 path.0 (partner es s) ps path.1 ret c.within in
    let e = return_edge es burdens (event_at es (partner es s)) s (partner es s) r.0 r.1 c.return (owner_closing es wf s o) t r.2 in (
      subst (λ (v : ℕ). Goes 0 ps (partner es s) v) e.0 r.3,
      subst (λ (b : ℕ). Edge es burdens (partner es s) (join es s) b) e.1 (subst (λ (v : ℕ). Edge es burdens (partner es s) v r.1) e.0 r.2),
    )
