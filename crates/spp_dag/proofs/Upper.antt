-- No walk weighs more than the stack says.
use Rattle.std.proofs.Common.{◌≡◌, ℕ, zero, suc, pred, ◌+◌, ◌-◌, ◌*◌, ◌≤◌, ◌<◌, Bool, true, false, refl, arith, sym, ◌∙◌, ap, ap₂, subst, ◌⊎◌, inl, inr, List, [], ◌∷◌, length, Option, Some, None, nat_lt, nat_eq, ◌&&◌, cond}
use Rattle.std.proofs.lemmas.Bool.{cases_lt, both_ways, cases_Bool, and_parts, and_from, ltb-false, ltb-true, eq-eqb, eqb-true}
use Rattle.std.proofs.Math.Nat.{le-max_left, le-max_right}
use Rattle.std.proofs.lemmas.Option.{slice_get_past}
use Rattle.spp_event.specs.declared.records.Event.{Event}
use Rattle.spp_event.specs.declared.records.Event.TheVariants.{Strand, Call, Spawn, Ret, Sync}
use Rattle.spp_dag.specs.Trace.{event_at, weight, weight_of, opens, returns, syncs, spawns, depth, IsWellFormed, partner, owner, join, is_spawned}
use Rattle.spp_maxplus.specs.declared.state.State.{State}
use Rattle.spp_maxplus.specs.Candidate.{greatest, better}
use Rattle.spp_maxplus.specs.State.{close, after_spawn, after_call}
use Rattle.spp_dag.proofs.Ranges.{IsLeast, least_from_spec}
use Rattle.spp_dag.proofs.Depth.{is_return, closed_at_end, inside_returns, slice_get_no, closed}
use Rattle.spp_dag.proofs.Machine.{Frame, at_spawn, on_return, step, stack, Opened, Shape, shape}
use Rattle.spp_dag.proofs.Owner.{owner_is, at_closing, return_closes}
use Rattle.spp_dag.proofs.Walks.{ReturnsTo, ReturnStep, StepOf, Step, Trail, entry, entry_of_spawned, entry_of_other}

abbrev pub child_weight : Option (ℕ × ℕ) → ℕ
child_weight None = 0
child_weight (Some c) = c.0

spine_le : (s : ℕ) (c : Option (ℕ × ℕ)) → s ≤ greatest s c
spine_le s None = omega arith
spine_le s (Some c) = le-max_left s c.0

child_le : (s : ℕ) (c : Option (ℕ × ℕ)) → child_weight c ≤ greatest s c
child_le s None = omega arith
child_le s (Some c) = le-max_right s c.0

pub spine_le_close : (s : State) → s.spine ≤ close s
spine_le_close s = spine_le s.spine s.child

pub child_le_close : (s : State) → child_weight s.child ≤ close s
child_le_close s = child_le s.spine s.child

pub offered_old : (c : Option (ℕ × ℕ)) (new : ℕ × ℕ) → child_weight c ≤ child_weight (better c (Some new))
offered_old None new = omega arith
offered_old (Some c) new = go (nat_lt c.0 new.0) refl
  where
    go : (b : Bool) → nat_lt c.0 new.0 ≡ b → c.0 ≤ child_weight (cond b (Some new) (Some c))
    go true e = let l = ltb-true c.0 new.0 e in omega arith
    go false e = omega arith

pub offered_new : (c : Option (ℕ × ℕ)) (new : ℕ × ℕ) → new.0 ≤ child_weight (better c (Some new))
offered_new None new = omega arith
offered_new (Some c) new = go (nat_lt c.0 new.0) refl
  where
    go : (b : Bool) → nat_lt c.0 new.0 ≡ b → new.0 ≤ child_weight (cond b (Some new) (Some c))
    go true e = omega arith
    go false e = ltb-false c.0 new.0 e

abbrev pub spines : (ℕ → ℕ) → List Frame → ℕ
spines entered [] = 0
spines entered (f ∷ fs) = (f.state.spine + entered f.first) + spines entered fs

-- the events before which a frame waits for its children, and the end
abbrev pub stops : Option Event → Bool
stops None = true
stops (Some Sync) = true
stops (Some Ret) = true
stops _ = false

abbrev pub top_weight : Bool → State → ℕ
top_weight true s = close s
top_weight false s = s.spine

-- the weight with which the stack says that the event is reached
abbrev pub arrival : (ℕ → ℕ) → Option Event → List Frame → ℕ
arrival entered e [] = 0
arrival entered e (f ∷ fs) = (top_weight (stops e) f.state + entered f.first) + spines entered fs

pub spine_le_top : (b : Bool) (s : State) → s.spine ≤ top_weight b s
spine_le_top true s = spine_le_close s
spine_le_top false s = omega arith

pub spines_le_arrival : (entered : ℕ → ℕ) (e : Option Event) (fs : List Frame) → spines entered fs ≤ arrival entered e fs
spines_le_arrival entered e [] = omega arith
spines_le_arrival entered e (f ∷ fs) = let a = spine_le_top (stops e) f.state in omega arith

pub spawns_opens : (e : Option Event) → spawns e ≡ true → opens e ≡ true
spawns_opens None h = h
spawns_opens (Some (Strand n)) h = h
spawns_opens (Some (Call s f)) h = refl
spawns_opens (Some (Spawn s f)) h = refl
spawns_opens (Some Ret) h = h
spawns_opens (Some Sync) h = h

pub syncs_stops : (e : Option Event) → syncs e ≡ true → stops e ≡ true
syncs_stops None h = refl
syncs_stops (Some (Strand n)) h = h
syncs_stops (Some (Call s f)) h = h
syncs_stops (Some (Spawn s f)) h = h
syncs_stops (Some Ret) h = refl
syncs_stops (Some Sync) h = refl

module _ (es : List Event) (scale : ℕ) (go back : ℕ → ℕ) where
  pub returned_called : (f g : Frame) → is_spawned es f.first ≡ false → (on_return es scale go back f g).state ≡ after_call (close f.state) g.state
  returned_called f g e = rw (e, on_return)

  pub returned_spawned : (f g : Frame) → is_spawned es f.first ≡ true → (on_return es scale go back f g).state ≡ after_spawn (pred f.first) (close f.state) (at_spawn es scale go back (pred f.first)) g.state
  returned_spawned f g e = rw (e, on_return)

  -- a return keeps the candidates of the frame below
  child_kept : (f g : Frame) → child_weight g.state.child ≤ child_weight (on_return es scale go back f g).state.child
  child_kept f g = elim (cases_Bool (is_spawned es f.first)) [
    | inl t ↦ subst (λ s. child_weight g.state.child ≤ child_weight s.child) (sym (returned_spawned f g t)) (offered_old g.state.child _)
    | inr n ↦ subst (λ s. child_weight g.state.child ≤ child_weight s.child) (sym (returned_called f g n)) (let z : child_weight g.state.child ≤ child_weight g.state.child = omega arith in z)
  ]

  -- the frame that begins at `first` is on the stack, over these frames, with a candidate of at least this weight
  abbrev pub Held : ℕ → ℕ → List Frame → List Frame → Type 0
  Held first least below [] = ⊥
  Held first least below (f ∷ fs) = ((f.first ≡ first) × (fs ≡ below) × (least ≤ child_weight f.state.child)) ⊎ Held first least below fs

  -- the frame on top is another one or waits for nobody
  held_return : (first least : ℕ) (below : List Frame) (top g : Frame) (rest : List Frame) → (top.first ≡ first → ⊥)
      → Held first least below (top ∷ g ∷ rest) → Held first least below (on_return es scale go back top g ∷ rest)
  held_return first least below top g rest n h = elim h [
    | inl a ↦ absurd (n a.0)
    | inr b ↦ elim b [
      | inl c ↦ inl (c.0, c.1, (let k = child_kept top g in let z = c.2 in omega arith))
      | inr d ↦ inr d
    ]
  ]

module _ (es : List Event) (scale : ℕ) (go back : ℕ → ℕ) (wf : IsWellFormed es) where
  abbrev St : ℕ → List Frame
  St = stack es scale go back

  abbrev pub Sh : ℕ → Type 0
  Sh = Shape es scale go back

  held_step : (first least : ℕ) (below : List Frame) (k : ℕ) → k < length es → (syncs (event_at es k) ≡ true → owner es k ≡ first → ⊥)
      → (e : Option Event) → event_at es k ≡ e → (h : Sh k) → Held es scale go back first least below (h.top ∷ h.rest) → Held es scale go back first least below (St (suc k))
  held_step first least below k l calm None q h a = absurd (slice_get_no es k l q)
  held_step first least below k l calm (Some (Strand n)) q h a =
      subst (λ fs. Held es scale go back first least below fs) (sym (ap₂ (step es scale go back k) q h.is))
      (elim a [ inl b ↦ inl (b.0, b.1, b.2) | inr c ↦ inr c ])
  held_step first least below k l calm (Some (Call s u)) q h a =
      subst (λ fs. Held es scale go back first least below fs) (sym (ap₂ (step es scale go back k) q h.is)) (inr a)
  held_step first least below k l calm (Some (Spawn s u)) q h a =
      subst (λ fs. Held es scale go back first least below fs) (sym (ap₂ (step es scale go back k) q h.is)) (inr a)
  held_step first least below k l calm (Some Sync) q h a =
      let not_top : h.top.first ≡ first → ⊥ = λ z. calm (ap syncs q) (owner_is es scale go back wf k h ∙ z) in
      subst (λ fs. Held es scale go back first least below fs) (sym (ap₂ (step es scale go back k) q h.is))
      (elim a [ inl b ↦ absurd (not_top b.0) | inr c ↦ inr c ])
  held_step first least below k l calm (Some Ret) q h a =
      let not_top : h.top.first ≡ first → ⊥ = λ z. calm (ap syncs q) (owner_is es scale go back wf k h ∙ z) in
      let r = return_closes es scale go back wf k h (ap returns q) in
      let o : ℕ = r.0 in
      let g = shape es scale go back wf o (let z = r.1.after in omega arith) in
      let e : h.rest ≡ g.top ∷ g.rest = r.1.below ∙ g.is in
      subst (λ fs. Held es scale go back first least below fs) (sym (ap₂ (step es scale go back k) q (h.is ∙ ap (λ x. h.top ∷ x) e)))
      (held_return es scale go back first least below h.top g.top g.rest not_top (subst (λ x. Held es scale go back first least below (h.top ∷ x)) e a))

  -- while the frame has not waited, the candidate is held
  held_until : (first least : ℕ) (below : List Frame) (j d : ℕ) → j + d ≤ length es
      → ((k : ℕ) → j ≤ k → k < j + d → syncs (event_at es k) ≡ true → owner es k ≡ first → ⊥)
      → Held es scale go back first least below (St j) → Held es scale go back first least below (St (j + d))
  held_until first least below j zero l calm h = subst (λ k. Held es scale go back first least below (St k)) (let q : j ≡ j + 0 = omega arith in q) h
  held_until first least below j (suc d) l calm h =
      let ih = held_until first least below j d (omega arith) (λ k a b. calm k a (omega arith)) h in
      let s = shape es scale go back wf (j + d) (omega arith) in
      subst (λ k. Held es scale go back first least below (St k)) (let q : suc (j + d) ≡ j + suc d = omega arith in q)
      (held_step first least below (j + d) (omega arith) (calm (j + d) (omega arith) (omega arith)) (event_at es (j + d)) refl s (subst (λ fs. Held es scale go back first least below fs) s.is ih))

  -- frames on the stack have begun
  held_begun : (first least : ℕ) (below : List Frame) (n p : ℕ) → p < n → p ≤ length es → Held es scale go back first least below (St p) → first ≤ p
  held_begun first least below zero p a l h = absurd (omega arith)
  held_begun first least below (suc n) p a l h =
      let s = shape es scale go back wf p l in
      elim (subst (λ fs. Held es scale go back first least below fs) s.is h) [
        | inl b ↦ elim s.case [
          | inl r ↦ (let z = b.0 in omega (arith, r.first))
          | inr w ↦ (let z = b.0 in let y = w.1.after in omega (arith, w.1.first))
        ]
        | inr c ↦ elim s.case [
          | inl r ↦ absurd (subst (λ fs. Held es scale go back first least below fs) r.alone c)
          | inr w ↦
              let y = w.1.after in
              let i = held_begun first least below n w.0 (omega arith) (omega arith) (subst (λ fs. Held es scale go back first least below fs) w.1.below c) in
              omega arith
        ]
      ]

  -- after a return its parent is on top again
  pub after_return : (p : ℕ) (h : Sh p) (o : ℕ) (g : Sh o) → returns (event_at es p) ≡ true → Opened es scale go back p h.top h.rest o → St (suc p) ≡ on_return es scale go back h.top g.top ∷ g.rest
  after_return p h o g t r = ap₂ (step es scale go back p) (is_return (event_at es p) t) (h.is ∙ ap (λ fs. h.top ∷ fs) (r.below ∙ g.is))

module _ (es : List Event) (scale : ℕ) (go back : ℕ → ℕ) (wf : IsWellFormed es) (into out : ℕ → ℕ) (split : (s : ℕ) → back s ≡ into s + out s) where
  abbrev pub Sk : ℕ → List Frame
  Sk = stack es scale go back

  abbrev pub Sp : ℕ → Type 0
  Sp = Shape es scale go back

  abbrev pub In : ℕ → ℕ
  In = entry es into

  -- the weight with which the stack says that p is reached
  abbrev pub A : ℕ → ℕ
  A p = arrival In (event_at es p) (Sk p)

  -- an edge to the next position, where the stack gains as much
  rises_next : (u n : ℕ) (fs : List Frame) → Sk (suc u) ≡ fs → n ≤ spines In fs → n ≤ A (suc u)
  rises_next u n fs e l =
      let a = spines_le_arrival In (event_at es (suc u)) (Sk (suc u)) in
      let b = ap (spines In) e in
      omega arith

  abbrev pub waits_for : ℕ → ℕ → Bool
  waits_for o k = syncs (event_at es k) && nat_eq (owner es k) (owner es o)

  -- there it is the frame on top that has it
  pub held_top : (o v least : ℕ) (g : Sp o) (s : Sp v) → v ≤ length es → owner es o ≡ g.top.first → (v < length es → waits_for o v ≡ true)
      → Held es scale go back g.top.first least g.rest (Sk v) → (s.top.first ≡ g.top.first) × (s.rest ≡ g.rest) × (least ≤ child_weight s.top.state.child)
  held_top o v least g s l own passes held =
      elim (subst (λ fs. Held es scale go back g.top.first least g.rest fs) s.is held) [
        | inl b ↦ b
        | inr c ↦ absurd (elim s.case [
          | inl r ↦ subst (λ fs. Held es scale go back g.top.first least g.rest fs) r.alone c
          | inr w ↦
              let y = w.1.after in
              let i = held_begun es scale go back wf g.top.first least g.rest (suc w.0) w.0 (omega arith) (omega arith) (subst (λ fs. Held es scale go back g.top.first least g.rest fs) w.1.below c) in
              elim (cases_lt v (length es)) [
                | inl a ↦
                    let same : owner es v ≡ owner es o = eqb-true (owner es v) (owner es o) (and_parts (syncs (event_at es v)) (nat_eq (owner es v) (owner es o)) (passes a)).1 in
                    let own_v = owner_is es scale go back wf v s in
                    let z = w.1.first in
                    omega arith
                | inr b ↦
                    let q : v ≡ length es = omega arith in
                    let d : depth es v ≡ 0 = subst (λ k. depth es k ≡ 0) (sym q) (closed_at_end es wf) in
                    omega (arith, w.1.level)
              ]
        ])
      ]

  rises_held : (o v least : ℕ) (g : Sp o) (n : ℕ) → v ≤ length es → owner es o ≡ g.top.first → (v < length es → waits_for o v ≡ true)
      → Held es scale go back g.top.first least g.rest (Sk v) → n ≤ (least + In g.top.first) + spines In g.rest → n ≤ A v
  rises_held o v least g n l own passes held m =
      let s = shape es scale go back wf v l in
      let stop : stops (event_at es v) ≡ true = elim (cases_lt v (length es)) [
        | inl a ↦ syncs_stops (event_at es v) (and_parts _ _ (passes a)).0
        | inr b ↦ ap stops (slice_get_past es v b)
      ] in
      let weight_is : A v ≡ (close s.top.state + In s.top.first) + spines In s.rest = ap (arrival In (event_at es v)) s.is ∙ ap (λ b. (top_weight b s.top.state + In s.top.first) + spines In s.rest) stop in
      let b = held_top o v least g s l own passes held in
      let c = child_le_close s.top.state in
      let d = ap (spines In) b.1 in
      let e = b.2 in
      let i : In s.top.first ≡ In g.top.first = ap In b.0 in
      omega arith

  abbrev pub candidate : (u o : ℕ) (h : Sp u) (g : Sp o) → ℕ
  candidate u o h g = g.top.state.spine + (close h.top.state + back o)

  -- where the parent waits, it still has the candidate
  pub held_join : (u o : ℕ) (h : Sp u) → returns (event_at es u) ≡ true → Opened es scale go back u h.top h.rest o → partner es o ≡ u → is_spawned es (suc o) ≡ true
      → (g : Sp o) → Held es scale go back g.top.first (candidate u o h g) g.rest (Sk (join es o))
  held_join u o h t r p b g =
      let e = after_return es scale go back wf u h o g t r in
      let l : u < length es = inside_returns es u t in
      let spec : IsLeast (waits_for o) (suc u) (length es) (join es o) = subst (λ k. IsLeast (waits_for o) (suc k) (length es) (join es o)) p
      (least_from_spec (waits_for o) (suc (partner es o)) (length es) (omega arith)) in
      let least : ℕ = candidate u o h g in
      let own = owner_is es scale go back wf o g in
      let calm = λ (k : ℕ) (a : suc u ≤ k) (c : k < suc u + (join es o - suc u)) (s : syncs (event_at es k) ≡ true) (w : owner es k ≡ g.top.first).
      both_ways (waits_for o k) (spec.before k a (let z = spec.lower in omega arith)) (and_from _ _ s (eq-eqb _ _ (w ∙ sym own))) in
      let spawned : is_spawned es h.top.first ≡ true = subst (λ f. is_spawned es f ≡ true) (sym r.first) b in
      let offer : least ≤ child_weight (on_return es scale go back h.top g.top).state.child =
      subst (λ s. least ≤ child_weight s.child) (sym (returned_spawned es scale go back h.top g.top spawned))
      (subst (λ f. least ≤ child_weight (better g.top.state.child (Some (g.top.state.spine + (close h.top.state + back (pred f)), pred f)))) (sym r.first)
      (offered_new g.top.state.child (least, o))) in
      let begin : Held es scale go back g.top.first least g.rest (Sk (suc u)) = subst (λ fs. Held es scale go back g.top.first least g.rest fs) (sym e) (inl (refl, refl, offer)) in
      subst (λ k. Held es scale go back g.top.first least g.rest (Sk k)) (let q : suc u + (join es o - suc u) ≡ join es o = omega (arith, spec.lower) in q)
      (held_until es scale go back wf g.top.first least g.rest (suc u) (join es o - suc u) (omega (arith, spec.lower, spec.upper)) calm begin)

  join_least : (u o : ℕ) → returns (event_at es u) ≡ true → partner es o ≡ u → IsLeast (waits_for o) (suc u) (length es) (join es o)
  join_least u o t p =
      let l : u < length es = inside_returns es u t in
      subst (λ k. IsLeast (waits_for o) (suc k) (length es) (join es o)) p (least_from_spec (waits_for o) (suc (partner es o)) (length es) (omega arith))

  rises_join : (u o : ℕ) (h : Sp u) → returns (event_at es u) ≡ true → Opened es scale go back u h.top h.rest o → partner es o ≡ u → is_spawned es (suc o) ≡ true
      → (g : Sp o) → ((close h.top.state + In h.top.first) + spines In h.rest) + out o ≤ A (join es o)
  rises_join u o h t r p b g =
      let below : spines In h.rest ≡ (g.top.state.spine + In g.top.first) + spines In g.rest = ap (spines In) (r.below ∙ g.is) in
      let spec = join_least u o t p in
      let n : In h.top.first ≡ into o = ap In r.first ∙ entry_of_spawned into o (event_at es o) b in
      let s = split o in
      rises_held o (join es o) (candidate u o h g) g (((close h.top.state + In h.top.first) + spines In h.rest) + out o) spec.upper (owner_is es scale go back wf o g) (λ z. spec.passes z)
      (held_join u o h t r p b g) (omega arith)

  -- a spawn's continuation edge
  rises_on : (u : ℕ) (h : Sp u) → spawns (event_at es u) ≡ true → u < length es → ((h.top.state.spine + In h.top.first) + spines In h.rest) + go u ≤ A (suc (partner es u))
  rises_on u h t l =
      let o = spawns_opens (event_at es u) t in
      let c = closed es wf u o in
      let k = shape es scale go back wf (partner es u) (let z = c.within in omega arith) in
      let r = at_closing es scale go back wf u o k in
      let spawned : is_spawned es k.top.first ≡ true = subst (λ f. is_spawned es f ≡ true) (sym r.first) t in
      let e : (on_return es scale go back k.top h.top).state.spine ≡ h.top.state.spine + go u =
      ap (λ s. s.spine) (returned_spawned es scale go back k.top h.top spawned) ∙ ap (λ f. h.top.state.spine + go (pred f)) r.first in
      rises_next (partner es u) _ _ (after_return es scale go back wf (partner es u) k u h c.return r) (omega arith)

  rises_back : (u v c o : ℕ) (b : Bool) → is_spawned es (suc o) ≡ b → (h : Sp u) → returns (event_at es u) ≡ true → Opened es scale go back u h.top h.rest o → partner es o ≡ u
      → ReturnsTo es scale into go out b o u v c → ((close h.top.state + In h.top.first) + spines In h.rest) + c ≤ A v
  rises_back u v c o true b h t r p s =
      let g = shape es scale go back wf o (let z = r.after in let y = inside_returns es u t in omega arith) in
      subst (λ k. ((close h.top.state + In h.top.first) + spines In h.rest) + c ≤ A k) (sym s.0)
      (subst (λ k. ((close h.top.state + In h.top.first) + spines In h.rest) + k ≤ A (join es o)) (sym s.1) (rises_join u o h t r p b g))
  rises_back u v c o false b h t r p s =
      let g = shape es scale go back wf o (let z = r.after in let y = inside_returns es u t in omega arith) in
      let below : spines In h.rest ≡ (g.top.state.spine + In g.top.first) + spines In g.rest = ap (spines In) (r.below ∙ g.is) in
      let called : is_spawned es h.top.first ≡ false = subst (λ f. is_spawned es f ≡ false) (sym r.first) b in
      let e : (on_return es scale go back h.top g.top).state.spine ≡ g.top.state.spine + close h.top.state =
      ap (λ s. s.spine) (returned_called es scale go back h.top g.top called) in
      subst (λ k. ((close h.top.state + In h.top.first) + spines In h.rest) + c ≤ A k) (sym s.0)
      (rises_next u _ _ (after_return es scale go back wf u h o g t r)
      (let z = s.1 in let n : In h.top.first ≡ 0 = ap In r.first ∙ entry_of_other into o (event_at es o) b in omega arith))

  -- an edge never reaches its end with more than the stack has there
  rises_of : (u v c : ℕ) (e : Option Event) → event_at es u ≡ e → (h : Sp u) → u < length es → StepOf es scale into go out e u v c
      → (arrival In e (h.top ∷ h.rest) + scale * weight_of e) + c ≤ A v
  rises_of u v c None q h l s = absurd s
  rises_of u v c (Some (Strand n)) q h l s =
      subst (λ k. (arrival In (Some (Strand n)) (h.top ∷ h.rest) + scale * n) + c ≤ A k) (sym s.0)
      (rises_next u _ _ (ap₂ (step es scale go back u) q h.is) (let z = s.1 in omega arith))
  rises_of u v c (Some (Call a f)) q h l s =
      subst (λ k. (arrival In (Some (Call a f)) (h.top ∷ h.rest) + scale * 0) + c ≤ A k) (sym s.0)
      (rises_next u _ _ (ap₂ (step es scale go back u) q h.is) (let z = s.1 in omega arith))
  rises_of u v c (Some (Spawn a f)) q h l (inl s) =
      subst (λ k. (arrival In (Some (Spawn a f)) (h.top ∷ h.rest) + scale * 0) + c ≤ A k) (sym s.0)
      (rises_next u _ _ (ap₂ (step es scale go back u) q h.is)
      (let z = s.1 in let n : In (suc u) ≡ into u = entry_of_spawned into u (event_at es u) (ap spawns q) in omega arith))
  rises_of u v c (Some (Spawn a f)) q h l (inr s) =
      subst (λ k. (arrival In (Some (Spawn a f)) (h.top ∷ h.rest) + scale * 0) + c ≤ A k) (sym s.0)
      (let z = rises_on u h (ap spawns q) l in let y = s.1 in omega arith)
  rises_of u v c (Some Sync) q h l s =
      subst (λ k. (arrival In (Some Sync) (h.top ∷ h.rest) + scale * 0) + c ≤ A k) (sym s.0)
      (rises_next u _ _ (ap₂ (step es scale go back u) q h.is) (let z = s.1 in omega arith))
  rises_of u v c (Some Ret) q h l s =
      let r = return_closes es scale go back wf u h (ap returns q) in
      let own = owner_is es scale go back wf u h in
      let t = subst (λ f. ReturnStep es scale into go out f u v c) (own ∙ r.1.first) s in
      let z = rises_back u v c r.0 (is_spawned es (suc r.0)) refl h (ap returns q) r.1 r.2 t in
      omega arith

  pub rises : (u v c : ℕ) → u < length es → Step es scale into go out u v c → (A u + scale * weight es u) + c ≤ A v
  rises u v c l s =
      let h = shape es scale go back wf u (omega arith) in
      let e : A u ≡ arrival In (event_at es u) (h.top ∷ h.rest) = ap (arrival In (event_at es u)) h.is in
      let z = rises_of u v c (event_at es u) refl h l s in
      omega arith

  pub step_inside : (u v c : ℕ) → Step es scale into go out u v c → u < length es
  step_inside u v c s = elim (cases_lt u (length es)) [
    | inl l ↦ l
    | inr g ↦ absurd (subst (λ e. StepOf es scale into go out e u v c) (slice_get_past es u g) s)
  ]

  -- no walk weighs more than the stacks at its ends are apart
  pub bounded : (x y w : ℕ) (rest : List ℕ) → Trail es scale into go out x rest y w → A x + w ≤ A y + scale * weight es y
  bounded x y w [] t =
      let a = ap A t.0 in
      let b : w ≡ scale * weight es y = subst (λ k. w ≡ scale * weight es k) t.0 t.1 in
      omega arith
  bounded x y w (u ∷ rest) t =
      let a = rises x u t.0 (step_inside x u t.0 t.2) t.2 in
      let b = bounded u y t.1 rest t.3 in
      let c = t.4 in
      omega arith
