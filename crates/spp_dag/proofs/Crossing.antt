-- Which positions a walk cannot pass by: where it enters a frame, where it leaves one, and where a frame waits.
use Rattle.std.proofs.Common.{◌≡◌, ℕ, zero, suc, ◌+◌, ◌*◌, ◌≤◌, ◌<◌, Bool, true, false, refl, arith, sym, ◌∙◌, ap, subst, ◌⊎◌, inl, inr, List, [], ◌∷◌, ◌++◌, length, Option, Some, None, nat_eq, ◌&&◌}
use Rattle.std.proofs.lemmas.Bool.{cases_lt, both_ways, cases_order, and_parts, and_from, eq-eqb, eqb-true}
use Rattle.spp_event.specs.declared.records.Event.{Event}
use Rattle.spp_event.specs.declared.records.Event.TheVariants.{Strand, Call, Spawn, Ret, Sync}
use Rattle.spp_dag.specs.Trace.{event_at, weight, opens, returns, syncs, spawns, IsWellFormed, partner, owner, join, is_spawned}
use Rattle.spp_dag.specs.Dag.{On}
use Rattle.spp_dag.proofs.Ranges.{IsLeast, least_from_spec, least_le}
use Rattle.spp_dag.proofs.Depth.{is_return, inside_returns, inside_opens, closed, deeper, opens_not_returns}
use Rattle.spp_dag.proofs.Machine.{Shape, shape}
use Rattle.spp_dag.proofs.Owner.{owner_is, return_closes, at_closing, above}
use Rattle.spp_dag.proofs.Walks.{ReturnsTo, ReturnStep, StepOf, Step, Trail}
use Rattle.spp_dag.proofs.Upper.{spawns_opens}
use Rattle.spp_dag.proofs.Parting.{forward, trail_forward}

module _ (es : List Event) (wf : IsWellFormed es) where
  abbrev zeros : ℕ → ℕ
  zeros s = 0

  abbrev Any : ℕ → Type 0
  Any = Shape es 0 zeros zeros

  any : (p : ℕ) → p ≤ length es → Any p
  any p l = shape es 0 zeros zeros wf p l

  -- of two frames the inner one closes first
  pub nested : (o s : ℕ) → opens (event_at es o) ≡ true → opens (event_at es s) ≡ true → o < s → s ≤ partner es o → partner es s < partner es o
  nested o s t u a b =
      let c = closed es wf o t in
      let d = closed es wf s u in
      let apart : s ≡ partner es o → ⊥ = λ q. both_ways (returns (event_at es s)) (opens_not_returns (event_at es s) u) (subst (λ x. returns (event_at es x) ≡ true) (sym q) c.return) in
      let e = deeper es wf o s t a b in
      elim (cases_lt (partner es s) (partner es o)) [
        | inl l ↦ l
        | inr l ↦
            let f = deeper es wf s (partner es o) u (omega (arith, apart)) l in
            absurd (omega (arith, c.depth_at))
      ]

  -- a frame that holds p begins at or before its owner's first position
  pub within_owner : (o p : ℕ) → opens (event_at es o) ≡ true → o < p → p ≤ partner es o → o < owner es p
  within_owner o p t a b =
      let c = closed es wf o t in
      let h = any p (let z = c.within in omega arith) in
      let d = above es 0 zeros zeros wf p h o t a b in
      let e = owner_is es 0 zeros zeros wf p h in
      omega arith

  pub record Owned (p o : ℕ) : Type 0 where
    pub opened : opens (event_at es o) ≡ true
    pub after : o < p
    pub within : p ≤ partner es o

  -- the owner, if not the root, is a frame that holds p
  pub owned : (p o : ℕ) → p ≤ length es → owner es p ≡ suc o → Owned p o
  owned p o l e =
      let h = any p l in
      let d = owner_is es 0 zeros zeros wf p h in
      elim h.case [
        | inl r ↦ absurd (omega (arith, r.first))
        | inr w ↦
            let q : w.0 ≡ o = omega (arith, w.1.first) in
            subst (λ k. Owned p k) q (record { opened = w.1.opened; after = w.1.after; within = w.1.within })
      ]

  pub owner_le : (p : ℕ) → p ≤ length es → owner es p ≤ p
  owner_le p l = owner_le_of p l (owner es p) refl
    where
      owner_le_of : (p : ℕ) → p ≤ length es → (f : ℕ) → owner es p ≡ f → owner es p ≤ p
      owner_le_of p l zero e = omega arith
      owner_le_of p l (suc o) e = let w = (owned p o l e).after in omega arith

  abbrev pub waits_for : ℕ → ℕ → Bool
  waits_for s k = syncs (event_at es k) && nat_eq (owner es k) (owner es s)

  pub join_spec : (s : ℕ) → opens (event_at es s) ≡ true → IsLeast (waits_for s) (suc (partner es s)) (length es) (join es s)
  join_spec s t = least_from_spec (waits_for s) (suc (partner es s)) (length es) (let z = (closed es wf s t).within in omega arith)

  pub owner_closing : (o : ℕ) → opens (event_at es o) ≡ true → owner es (partner es o) ≡ suc o
  owner_closing o t =
      let h = any (partner es o) (let z = (closed es wf o t).within in omega arith) in
      owner_is es 0 zeros zeros wf (partner es o) h ∙ (at_closing es 0 zeros zeros wf o t h).first

  -- a child joins no later than its parent's return
  pub join_within : (s o : ℕ) → opens (event_at es s) ≡ true → owner es s ≡ suc o → join es s ≤ partner es o
  join_within s o t e =
      let l = inside_opens es s t in
      let w = owned s o (omega arith) e in
      let n = nested o s w.opened t w.after w.within in
      let c = closed es wf o w.opened in
      least_le (waits_for s) (suc (partner es s)) (length es) (partner es o) n c.within
      (and_from _ _ (ap syncs (is_return (event_at es (partner es o)) c.return)) (eq-eqb _ _ (owner_closing o w.opened ∙ sym e)))

  -- a step over i, from within its frame, is out of a child that i's frame has not waited for
  pub record OutOf (i x u : ℕ) : Type 0 where
    pub child : ℕ
    pub spawned : spawns (event_at es child) ≡ true
    pub from : partner es child ≡ x
    pub to : u ≡ join es child
    pub own : owner es child ≡ owner es i

module _ (es : List Event) (wf : IsWellFormed es) (scale : ℕ) (into go out : ℕ → ℕ) where
  -- the child lies in i's frame
  starts_after : (i x o f : ℕ) → owner es i ≡ f → f ≤ x → x < i → i ≤ length es → opens (event_at es o) ≡ true → partner es o ≡ x → f ≤ o
  starts_after i x o zero q a d l t p = omega arith
  starts_after i x o (suc m) q a d l t p =
      let w = owned es wf i m l q in
      let b : i ≤ partner es m = w.within in
      elim (cases_order o m) [
        | inl e ↦ let z : partner es o ≡ partner es m = ap (λ k. partner es k) e in absurd (omega arith)
        | inr e ↦ elim e [
          | inl c ↦ let n = nested es wf o m t w.opened c (omega arith) in absurd (omega arith)
          | inr c ↦ c
        ]
      ]

  lower : (i o f : ℕ) → owner es i ≡ f → i ≤ length es → f ≤ o → o < i → f ≤ owner es o
  lower i o zero q l a d = omega arith
  lower i o (suc m) q l a d =
      let w = owned es wf i m l q in
      let b : i ≤ partner es m = w.within in
      within_owner es wf m o w.opened a (omega arith)

  upper : (i o h : ℕ) → owner es o ≡ h → i ≤ length es → opens (event_at es o) ≡ true → o < i → i < join es o → owner es i ≤ o → h ≤ owner es i
  upper i o zero q l t d g a = omega arith
  upper i o (suc m) q l t d g a =
      let w = owned es wf o m (omega arith) q in
      let j = join_within es wf o m t q in
      let b : m < o = w.after in
      within_owner es wf m i w.opened (omega arith) (omega arith)

  jump_back : (i x u c o : ℕ) (b : Bool) → is_spawned es (suc o) ≡ b → i ≤ length es → owner es i ≤ x → x < i → i < u → opens (event_at es o) ≡ true → partner es o ≡ x
      → ReturnsTo es scale into go out b o x u c → OutOf es wf i x u
  jump_back i x u c o false e l a d g t p s = absurd (omega (arith, s.0))
  jump_back i x u c o true e l a d g t p s =
      let z = (closed es wf o t).after in
      let f1 = starts_after i x o (owner es i) refl a d l t p in
      let f2 = lower i o (owner es i) refl l f1 (omega arith) in
      let f3 = upper i o (owner es o) refl l t (omega arith) (omega (arith, s.0)) f1 in
      record { child = o; spawned = e; from = p; to = s.0; own = omega arith }

  jump_of : (i x u c : ℕ) (e : Option Event) → event_at es x ≡ e → i ≤ length es → owner es i ≤ x → x < i → i < u → StepOf es scale into go out e x u c → OutOf es wf i x u
  jump_of i x u c None q l a d g s = absurd s
  jump_of i x u c (Some (Strand n)) q l a d g s = absurd (omega (arith, s.0))
  jump_of i x u c (Some (Call k f)) q l a d g s = absurd (omega (arith, s.0))
  jump_of i x u c (Some (Spawn k f)) q l a d g (inl s) = absurd (omega (arith, s.0))
  jump_of i x u c (Some (Spawn k f)) q l a d g (inr s) =
      let w = within_owner es wf x i (ap opens q) d (omega (arith, s.0)) in
      absurd (omega arith)
  jump_of i x u c (Some Ret) q l a d g s =
      let h = any es wf x (omega arith) in
      let r = return_closes es 0 (zeros es wf) (zeros es wf) wf x h (ap returns q) in
      let own = owner_is es 0 (zeros es wf) (zeros es wf) wf x h in
      jump_back i x u c r.0 (is_spawned es (suc r.0)) refl l a d g r.1.opened r.2 (subst (λ f. ReturnStep es scale into go out f x u c) (own ∙ r.1.first) s)
  jump_of i x u c (Some Sync) q l a d g s = absurd (omega (arith, s.0))

  pub jump : (i x u c : ℕ) → i ≤ length es → owner es i ≤ x → x < i → i < u → Step es scale into go out x u c → OutOf es wf i x u
  jump i x u c l a d g s = jump_of i x u c (event_at es x) refl l a d g s

  -- a walk passes each place where its frame waits
  pub passes_wait : (x y w k : ℕ) (ps : List ℕ) → Trail es scale into go out x ps y w → k < length es → syncs (event_at es k) ≡ true → owner es k ≤ x → x ≤ k → k ≤ y → On x ps k
  passes_wait x y w k [] t l n a b c = omega (arith, t.0)
  passes_wait x y w k (u ∷ ps) t l n a b c =
      elim (cases_lt x k) [
        | inl d ↦ elim (cases_lt k u) [
          | inl g ↦
              let j = jump k x u t.0 (omega arith) a d g t.2 in
              let o = spawns_opens (event_at es j.child) j.spawned in
              let m = least_le (waits_for es wf j.child) (suc (partner es j.child)) (length es) k (let z = j.from in omega arith) l (and_from _ _ n (eq-eqb _ _ (sym j.own))) in
              absurd (omega (arith, j.to))
          | inr g ↦ let f = forward es wf scale into go out x u t.0 t.2 in inr (passes_wait u y t.1 k ps t.3 l n (omega arith) g c)
        ]
        | inr d ↦ inl (omega arith)
      ]

  -- a walk into a frame passes its opening and its first position
  enters_step : (x u c o : ℕ) (e : Option Event) → event_at es x ≡ e → opens (event_at es o) ≡ true → x < o → o < u → u ≤ partner es o → StepOf es scale into go out e x u c → ⊥
  enters_step x u c o None q t a b l s = s
  enters_step x u c o (Some (Strand n)) q t a b l s = omega (arith, s.0)
  enters_step x u c o (Some (Call k f)) q t a b l s = omega (arith, s.0)
  enters_step x u c o (Some (Spawn k f)) q t a b l (inl s) = omega (arith, s.0)
  enters_step x u c o (Some (Spawn k f)) q t a b l (inr s) =
      let p = ap opens q in
      let r = closed es wf x p in
      let apart : o ≡ partner es x → ⊥ = λ z. both_ways (returns (event_at es o)) (opens_not_returns (event_at es o) t) (subst (λ k. returns (event_at es k) ≡ true) (sym z) r.return) in
      let n = nested es wf x o p t a (omega (arith, s.0)) in
      omega (arith, s.0)
  enters_step x u c o (Some Ret) q t a b l s =
      let h = any es wf x (let z = inside_returns es x (ap returns q) in omega arith) in
      let r = return_closes es 0 (zeros es wf) (zeros es wf) wf x h (ap returns q) in
      let own = owner_is es 0 (zeros es wf) (zeros es wf) wf x h in
      enters_back x u c o r.0 (is_spawned es (suc r.0)) refl t a b l r.1.opened r.2 (subst (λ f. ReturnStep es scale into go out f x u c) (own ∙ r.1.first) s)
    where
      enters_back : (x u c o r : ℕ) (b : Bool) → is_spawned es (suc r) ≡ b → opens (event_at es o) ≡ true → x < o → o < u → u ≤ partner es o → opens (event_at es r) ≡ true → partner es r ≡ x
          → ReturnsTo es scale into go out b r x u c → ⊥
      enters_back x u c o r false e t a b l n p s = omega (arith, s.0)
      enters_back x u c o r true e t a b l n p s =
          let spec = join_spec es wf r n in
          let d = closed es wf o t in
          let m : u < length es = (let z = d.within in omega arith) in
          let same : owner es (join es r) ≡ owner es r = eqb-true _ _ (and_parts _ _ (spec.passes (omega (arith, s.0)))).1 in
          let v : owner es u ≡ owner es (join es r) = ap (λ k. owner es k) s.0 in
          let w = within_owner es wf o u t b l in
          let y = (closed es wf r n).after in
          let z = owner_le es wf r (let i = inside_opens es r n in omega arith) in
          omega arith
  enters_step x u c o (Some Sync) q t a b l s = omega (arith, s.0)

  opens_step : (x u c : ℕ) (e : Option Event) → opens e ≡ true → StepOf es scale into go out e x u c → (u ≡ suc x) ⊎ (u ≡ suc (partner es x))
  opens_step x u c None t s = absurd s
  opens_step x u c (Some (Strand n)) t s = inl s.0
  opens_step x u c (Some (Call k f)) t s = inl s.0
  opens_step x u c (Some (Spawn k f)) t (inl s) = inl s.0
  opens_step x u c (Some (Spawn k f)) t (inr s) = inr s.0
  opens_step x u c (Some Ret) t s = cc
  opens_step x u c (Some Sync) t s = inl s.0

  pub on_head : (x : ℕ) (ps : List ℕ) → On x ps x
  on_head x [] = refl
  on_head x (u ∷ ps) = inl refl

  pub passes_opening : (x y w o : ℕ) (ps : List ℕ) → Trail es scale into go out x ps y w → opens (event_at es o) ≡ true → x ≤ o → o < y → y ≤ partner es o → On x ps o × On x ps (suc o)
  passes_opening x y w o [] t q a b c = absurd (omega (arith, t.0))
  passes_opening x y w o (u ∷ ps) t q a b c =
      let f = forward es wf scale into go out x u t.0 t.2 in
      let g = trail_forward es wf scale into go out u y t.1 ps t.3 in
      elim (cases_lt x o) [
        | inl l ↦ elim (cases_lt o u) [
          | inl m ↦ absurd (enters_step x u t.0 o (event_at es x) refl q l m (omega arith) t.2)
          | inr m ↦ let r = passes_opening u y t.1 o ps t.3 q m b c in (inr r.0, inr r.1)
        ]
        | inr l ↦
            let e : x ≡ o = omega arith in
            elim (opens_step x u t.0 (event_at es x) (subst (λ k. opens (event_at es k) ≡ true) (sym e) q) t.2) [
              | inl m ↦ (inl (sym e), inr (subst (λ k. On u ps k) (let z : u ≡ suc o = omega arith in z) (on_head u ps)))
              | inr m ↦ absurd (let z : partner es x ≡ partner es o = ap (λ k. partner es k) e in omega arith)
            ]
      ]

  pub passes_exit : (x y w o : ℕ) (ps : List ℕ) → Trail es scale into go out x ps y w → opens (event_at es o) ≡ true → o < x → x ≤ partner es o → partner es o < y → On x ps (partner es o)
  passes_exit x y w o [] t q a b c = absurd (omega (arith, t.0))
  passes_exit x y w o (u ∷ ps) t q a b c =
      elim (cases_lt x (partner es o)) [
        | inl l ↦
            elim (cases_lt (partner es o) u) [
              | inl m ↦
                  let d = closed es wf o q in
                  let e = owner_closing es wf o q in
                  let j = jump (partner es o) x u t.0 (let z = d.within in omega arith) (omega arith) l m t.2 in
                  let k = join_within es wf j.child o (spawns_opens (event_at es j.child) j.spawned) (j.own ∙ e) in
                  absurd (omega (arith, j.to))
              | inr m ↦ let f = forward es wf scale into go out x u t.0 t.2 in inr (passes_exit u y t.1 o ps t.3 q (omega arith) m c)
            ]
        | inr l ↦ inl (omega arith)
      ]

  -- a walk cut in two where it passes i
  pub record Split (x i y : ℕ) (ps : List ℕ) (w : ℕ) : Type 0 where
    pub before : List ℕ
    pub after : List ℕ
    pub first : ℕ
    pub second : ℕ
    pub left : Trail es scale into go out x before i first
    pub right : Trail es scale into go out i after y second
    pub is : ps ≡ before ++ after
    pub sum : first + second ≡ w + scale * weight es i

  split_here : (x i y : ℕ) (ps : List ℕ) (w : ℕ) → Trail es scale into go out x ps y w → i ≡ x → Split x i y ps w
  split_here x i y ps w t e = record {
    before = [];
    after = ps;
    first = scale * weight es x;
    second = w;
    left = (sym e, refl);
    right = subst (λ k. Trail es scale into go out k ps y w) (sym e) t;
    is = refl;
    sum = (let z : scale * weight es i ≡ scale * weight es x = ap (λ k. scale * weight es k) e in omega arith);
  }

  pub split_at : (x i y : ℕ) (ps : List ℕ) (w : ℕ) → Trail es scale into go out x ps y w → On x ps i → Split x i y ps w
  split_at x i y [] w t e = split_here x i y [] w t e
  split_at x i y (u ∷ ps) w t (inl e) = split_here x i y (u ∷ ps) w t e
  split_at x i y (u ∷ ps) w t (inr e) =
      let r = split_at u i y ps t.1 t.3 e in
      record {
        before = u ∷ r.before;
        after = r.after;
        first = scale * weight es x + (t.0 + r.first);
        second = r.second;
        left = (t.0, r.first, t.2, r.left, refl);
        right = r.right;
        is = ap (λ k. u ∷ k) r.is;
        sum = (let z = r.sum in let y = t.4 in omega arith);
      }

  pub on_left : (x j : ℕ) (ps qs : List ℕ) → On x ps j → On x (ps ++ qs) j
  on_left x j [] [] h = h
  on_left x j [] (q ∷ qs) h = inl h
  on_left x j (u ∷ ps) qs (inl h) = inl h
  on_left x j (u ∷ ps) qs (inr h) = inr (on_left u j ps qs h)

  pub on_right : (x i j v : ℕ) (ps qs : List ℕ) → Trail es scale into go out x ps i v → On i qs j → On x (ps ++ qs) j
  on_right x i j v [] qs t h = subst (λ k. On k qs j) (sym t.0) h
  on_right x i j v (u ∷ ps) qs t h = inr (on_right u i j t.1 ps qs t.3 h)

  pub on_either : (x i j v : ℕ) (ps qs : List ℕ) → Trail es scale into go out x ps i v → On x (ps ++ qs) j → On x ps j ⊎ On i qs j
  on_either x i j v [] qs t h = inr (subst (λ k. On k qs j) t.0 h)
  on_either x i j v (u ∷ ps) qs t (inl h) = inl (inl h)
  on_either x i j v (u ∷ ps) qs t (inr h) = elim (on_either u i j t.1 ps qs t.3 h) [ inl a ↦ inl (inr a) | inr a ↦ inr a ]

  pub on_bounds : (x y j w : ℕ) (ps : List ℕ) → Trail es scale into go out x ps y w → On x ps j → (x ≤ j) × (j ≤ y)
  on_bounds x y j w [] t h = (omega arith, omega (arith, t.0))
  on_bounds x y j w (u ∷ ps) t (inl h) =
      let f = forward es wf scale into go out x u t.0 t.2 in
      let g = trail_forward es wf scale into go out u y t.1 ps t.3 in
      (omega arith, omega arith)
  on_bounds x y j w (u ∷ ps) t (inr h) =
      let f = forward es wf scale into go out x u t.0 t.2 in
      let r = on_bounds u y j t.1 ps t.3 h in
      (let z = r.0 in omega arith, r.1)

  pub on_last : (x y w : ℕ) (ps : List ℕ) → Trail es scale into go out x ps y w → On x ps y
  on_last x y w [] t = sym t.0
  on_last x y w (u ∷ ps) t = inr (on_last u y t.1 ps t.3)
