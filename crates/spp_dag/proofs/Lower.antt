-- The stack's weights are weights of walks.
use Rattle.std.proofs.Common.{◌≡◌, ℕ, zero, suc, pred, ◌+◌, ◌*◌, ◌≤◌, ◌<◌, Bool, true, false, refl, arith, sym, ◌∙◌, ap, ap₂, subst, inl, inr, List, [], ◌∷◌, ◌++◌, length, Option, Some, None, nat_lt, nat_eq, ◌&&◌, cond, max}
use Rattle.std.proofs.lemmas.Bool.{cases_lt, both_ways, and_parts, and_from, eq-eqb, eqb-true}
use Rattle.spp_event.specs.declared.records.Event.{Event}
use Rattle.spp_event.specs.declared.records.Event.TheVariants.{Strand, Call, Spawn, Ret, Sync}
use Rattle.spp_dag.specs.Trace.{event_at, weight, weight_of, opens, returns, syncs, spawns, IsWellFormed, partner, owner, join, is_spawned}
use Rattle.spp_maxplus.specs.Candidate.{greatest, better}
use Rattle.spp_maxplus.specs.State.{start, close, after_spawn, after_call}
use Rattle.spp_dag.proofs.Ranges.{least_le, IsLeast, least_from_spec}
use Rattle.spp_dag.proofs.Depth.{is_return, slice_get_no, closed}
use Rattle.spp_dag.proofs.Machine.{Frame, new_frame, on_strand, on_sync, at_spawn, on_return, step, stack, Opened, Shape, shape}
use Rattle.spp_dag.proofs.Owner.{above, owner_is, at_closing, return_closes}
use Rattle.spp_dag.proofs.Walks.{ReturnsTo, ReturnStep, StepOf, Step, Trail, joined, one_more, entry, entry_of, entry_of_spawned, entry_of_other}
use Rattle.spp_dag.proofs.Upper.{spawns_opens, after_return, returned_called, returned_spawned}

pub opens_weight : (e : Option Event) → opens e ≡ true → weight_of e ≡ 0
opens_weight None h = refl
opens_weight (Some (Strand n)) h = cc
opens_weight (Some (Call s f)) h = refl
opens_weight (Some (Spawn s f)) h = refl
opens_weight (Some Ret) h = refl
opens_weight (Some Sync) h = refl

pub syncs_weight : (e : Option Event) → syncs e ≡ true → weight_of e ≡ 0
syncs_weight None h = refl
syncs_weight (Some (Strand n)) h = cc
syncs_weight (Some (Call s f)) h = refl
syncs_weight (Some (Spawn s f)) h = refl
syncs_weight (Some Ret) h = refl
syncs_weight (Some Sync) h = refl

opens_not_syncs : (e : Option Event) → opens e ≡ true → syncs e ≡ false
opens_not_syncs None h = refl
opens_not_syncs (Some (Strand n)) h = refl
opens_not_syncs (Some (Call s f)) h = refl
opens_not_syncs (Some (Spawn s f)) h = refl
opens_not_syncs (Some Ret) h = cc
opens_not_syncs (Some Sync) h = cc

module _ (es : List Event) (scale : ℕ) (into go out : ℕ → ℕ) where
  -- a walk from x to p that weighs a before p's own weight
  abbrev pub Arrives : ℕ → ℕ → ℕ → Type 0
  Arrives x p a = (rest : List ℕ) × (v : ℕ) × Trail es scale into go out x rest p v × (v ≡ a + scale * weight es p)

  -- a child of the frame f, spawned at s, has returned before p, and f has not waited for it
  pub record Candidate (f p w s : ℕ) : Type 0 where
    pub spawned : spawns (event_at es s) ≡ true
    pub own : owner es s ≡ f
    pub before : partner es s < p
    pub waiting : p ≤ join es s
    pub reached : ℕ
    pub walk : Arrives f (partner es s) reached
    pub is : w ≡ reached + out s

  abbrev pub ChildAt : ℕ → ℕ → Option (ℕ × ℕ) → Type 0
  ChildAt f p None = Unit {0}
  ChildAt f p (Some c) = Candidate f p c.0 c.1

  pub record Reached (p : ℕ) (f : Frame) : Type 0 where
    pub spine : Arrives f.first p f.state.spine
    pub child : ChildAt f.first p f.state.child

  -- one step more
  further : (x u v a c : ℕ) → Arrives x u a → Step es scale into go out u v c → Arrives x v ((a + scale * weight es u) + c)
  further x u v a c r s =
      (r.0 ++ v ∷ [], r.1 + (c + scale * weight es v), one_more es scale into go out x u v r.1 c r.0 r.2 s, (let e = r.3 in omega arith))

  -- through a child: to its opening at o, and on within it
  through : (x o p a b c : ℕ) → opens (event_at es o) ≡ true → Step es scale into go out o (suc o) c → Arrives x o a → Arrives (suc o) p b → Arrives x p ((a + c) + b)
  through x o p a b c t s r q =
      let f = further x o (suc o) a c r s in
      let j = joined es scale into go out x (suc o) p f.1 q.1 f.0 q.0 f.2 q.2 in
      let w : scale * weight es o ≡ 0 = ap (λ k. scale * k) (opens_weight (event_at es o) t) ∙ (let z : scale * 0 ≡ 0 = omega arith in z) in
      (f.0 ++ q.0, j.0, j.1, (let e = f.3 in let g = q.3 in let k = j.2 in omega arith))

  pub enters_of : (o : ℕ) (e : Option Event) → opens e ≡ true → StepOf es scale into go out e o (suc o) (entry_of into o e)
  enters_of o None h = cc
  enters_of o (Some (Strand n)) h = cc
  enters_of o (Some (Call s f)) h = (refl, refl)
  enters_of o (Some (Spawn s f)) h = inl (refl, refl)
  enters_of o (Some Ret) h = cc
  enters_of o (Some Sync) h = cc

  pub goes_on_of : (o : ℕ) (e : Option Event) → spawns e ≡ true → StepOf es scale into go out e o (suc (partner es o)) (go o)
  goes_on_of o None h = cc
  goes_on_of o (Some (Strand n)) h = cc
  goes_on_of o (Some (Call s f)) h = cc
  goes_on_of o (Some (Spawn s f)) h = inr (refl, refl)
  goes_on_of o (Some Ret) h = cc
  goes_on_of o (Some Sync) h = cc

  pub returns_of : (u v c o : ℕ) → event_at es u ≡ Some Ret → owner es u ≡ suc o → ReturnsTo es scale into go out (is_spawned es (suc o)) o u v c → Step es scale into go out u v c
  returns_of u v c o e f s =
      subst (λ k. StepOf es scale into go out k u v c) (sym e) (subst (λ k. ReturnStep es scale into go out k u v c) (sym f) s)

module _ (es : List Event) (scale : ℕ) (go back : ℕ → ℕ) (wf : IsWellFormed es) (into out : ℕ → ℕ) (split : (s : ℕ) → back s ≡ into s + out s) where
  abbrev St : ℕ → List Frame
  St = stack es scale go back

  abbrev Sh : ℕ → Type 0
  Sh = Shape es scale go back

  abbrev At : ℕ → Frame → Type 0
  At = Reached es scale into go out

  abbrev waits_for : ℕ → ℕ → Bool
  waits_for o k = syncs (event_at es k) && nat_eq (owner es k) (owner es o)

  join_spec : (s : ℕ) → opens (event_at es s) ≡ true → IsLeast (waits_for s) (suc (partner es s)) (length es) (join es s)
  join_spec s t =
      let c = closed es wf s t in
      least_from_spec (waits_for s) (suc (partner es s)) (length es) (let z = c.within in omega arith)

  -- a frame that has not waited at p waits later
  still : (s p q : ℕ) → opens (event_at es s) ≡ true → p ≤ join es s → p ≤ q → q ≤ length es
      → ((k : ℕ) → p ≤ k → k < q → syncs (event_at es k) ≡ true → owner es k ≡ owner es s → ⊥) → q ≤ join es s
  still s p q t a b l calm =
      let spec = join_spec s t in
      elim (cases_lt (join es s) q) [
        | inl r ↦
            let passes = and_parts _ _ (spec.passes (omega arith)) in
            absurd (calm (join es s) a r passes.0 (eqb-true _ _ passes.1))
        | inr g ↦ g
      ]

  child_later : (f p q : ℕ) (c : Option (ℕ × ℕ)) → p ≤ q → q ≤ length es
      → ((k : ℕ) → p ≤ k → k < q → syncs (event_at es k) ≡ true → owner es k ≡ f → ⊥) → ChildAt es scale into go out f p c → ChildAt es scale into go out f q c
  child_later f p q None b l calm h = tt
  child_later f p q (Some c) b l calm h = record {
    spawned = h.spawned;
    own = h.own;
    reached = h.reached;
    walk = h.walk;
    is = h.is;
    before = (let z = h.before in omega arith);
    waiting = still c.1 p q (spawns_opens (event_at es c.1) h.spawned) h.waiting b l (λ k x y s w. calm k x y s (w ∙ h.own));
  }

  -- the edge out of a spawned child
  pub out_of : (s : ℕ) → spawns (event_at es s) ≡ true → Step es scale into go out (partner es s) (join es s) (out s)
  out_of s t =
      let o = spawns_opens (event_at es s) t in
      let c = closed es wf s o in
      let k = shape es scale go back wf (partner es s) (let z = c.within in omega arith) in
      let r = at_closing es scale go back wf s o k in
      returns_of es scale into go out (partner es s) (join es s) (out s) s (is_return (event_at es (partner es s)) c.return) (owner_is es scale go back wf (partner es s) k ∙ r.first)
      (subst (λ b. ReturnsTo es scale into go out b s (partner es s) (join es s) (out s)) (sym t) (refl, refl))

  -- where a frame waits, what it closes with is reached
  pub closes_with : (f p : ℕ) (w : ℕ) (c : Option (ℕ × ℕ)) → p ≤ length es → owner es p ≡ f → (p < length es → syncs (event_at es p) ≡ true) → weight es p ≡ 0
      → Arrives es scale into go out f p w → ChildAt es scale into go out f p c → Arrives es scale into go out f p (greatest w c)
  closes_with f p w None l own t z a h = a
  closes_with f p w (Some c) l own t z a h = elim (cases_lt w c.0) [
    | inl i ↦ subst (λ k. Arrives es scale into go out f p k) (let q : c.0 ≡ max w c.0 = omega arith in q) by_child
    | inr i ↦ subst (λ k. Arrives es scale into go out f p k) (let q : w ≡ max w c.0 = omega arith in q) a
  ]
    where
      here : join es c.1 ≡ p
      here =
          let spec = join_spec c.1 (spawns_opens (event_at es c.1) h.spawned) in
          let m = h.waiting in
          elim (cases_lt p (length es)) [
            | inl i ↦
                let u = least_le (waits_for c.1) (suc (partner es c.1)) (length es) p h.before i (and_from _ _ (t i) (eq-eqb _ _ (own ∙ sym h.own))) in
                omega arith
            | inr i ↦ let u = spec.upper in omega arith
          ]

      by_child : Arrives es scale into go out f p c.0
      by_child =
          let o = spawns_opens (event_at es c.1) h.spawned in
          let d = closed es wf c.1 o in
          let x : weight es (partner es c.1) ≡ 0 = syncs_weight (event_at es (partner es c.1)) (ap syncs (is_return (event_at es (partner es c.1)) d.return)) in
          let e = further es scale into go out f (partner es c.1) p h.reached (out c.1) h.walk (subst (λ k. Step es scale into go out (partner es c.1) k (out c.1)) here (out_of c.1 h.spawned)) in
          let y : scale * weight es (partner es c.1) ≡ 0 = ap (λ k. scale * k) x ∙ (let q : scale * 0 ≡ 0 = omega arith in q) in
          (e.0, e.1, e.2, (let q = e.3 in let i = h.is in omega arith))

  -- what is known at p: the stack's shape, and that its innermost frame's weights are those of walks
  pub record Known (p : ℕ) : Type 0 where
    pub shape_at : Sh p
    pub reached : At p shape_at.top

  top_is : (a b : Frame) (xs ys : List Frame) (fs : List Frame) → fs ≡ a ∷ xs → fs ≡ b ∷ ys → a ≡ b
  top_is a b xs ys fs p q = let r = sym p ∙ q in cc

  known_from : (p : ℕ) → p ≤ length es → (top : Frame) (rest : List Frame) → St p ≡ top ∷ rest → At p top → Known p
  known_from p l top rest e a =
      let s = shape es scale go back wf p l in
      record { shape_at = s; reached = subst (λ f. At p f) (top_is top s.top rest s.rest (St p) e s.is) a }

  -- where no frame waits, the children wait on
  calm_at : (p : ℕ) → syncs (event_at es p) ≡ false → (f k : ℕ) → p ≤ k → k < suc p → syncs (event_at es k) ≡ true → owner es k ≡ f → ⊥
  calm_at p n f k a b s w = both_ways (syncs (event_at es p)) n (subst (λ x. syncs (event_at es x) ≡ true) (let q : k ≡ p = omega arith in q) s)

  first_le : (p : ℕ) (h : Sh p) → h.top.first ≤ p
  first_le p h = elim h.case [
    | inl r ↦ omega (arith, r.first)
    | inr w ↦ let z = w.1.after in omega (arith, w.1.first)
  ]

  -- a parent waits for none of its children while another of them runs
  calm_below : (o p : ℕ) (g : Sh o) → opens (event_at es o) ≡ true → p ≤ partner es o → p < length es → (k : ℕ) → o ≤ k → k < suc p → syncs (event_at es k) ≡ true → owner es k ≡ g.top.first → ⊥
  calm_below o p g t l m k a b s w =
      elim (cases_lt o k) [
        | inl c ↦
            let h = shape es scale go back wf k (omega arith) in
            let d = above es scale go back wf k h o t c (omega arith) in
            let e = owner_is es scale go back wf k h in
            let f = first_le o g in
            absurd (omega arith)
        | inr c ↦
            let q : k ≡ o = omega arith in
            both_ways (syncs (event_at es o)) (opens_not_syncs (event_at es o) t) (subst (λ x. syncs (event_at es x) ≡ true) q s)
      ]

  offered_at : (f p : ℕ) (c : Option (ℕ × ℕ)) (new : ℕ × ℕ) → ChildAt es scale into go out f p c → ChildAt es scale into go out f p (Some new) → ChildAt es scale into go out f p (better c (Some new))
  offered_at f p None new a b = b
  offered_at f p (Some c) new a b = pick (nat_lt c.0 new.0)
    where
      pick : (x : Bool) → ChildAt es scale into go out f p (cond x (Some new) (Some c))
      pick true = b
      pick false = a

  -- through the child that returns at p
  inner_of : (p o : ℕ) (k : Known p) (g : Known o) → p < length es → returns (event_at es p) ≡ true → Opened es scale go back p k.shape_at.top k.shape_at.rest o
      → Arrives es scale into go out g.shape_at.top.first p ((g.shape_at.top.state.spine + entry es into (suc o)) + close k.shape_at.top.state)
  inner_of p o k g l t r =
      let h = k.shape_at in
      let s = g.shape_at in
      let y : syncs (event_at es p) ≡ true = ap syncs (is_return (event_at es p) t) in
      let w : weight es p ≡ 0 = syncs_weight (event_at es p) y in
      let c = closes_with h.top.first p h.top.state.spine h.top.state.child (omega arith) (owner_is es scale go back wf p h) (λ _. y) w k.reached.spine k.reached.child in
      let d = subst (λ f. Arrives es scale into go out f p (close h.top.state)) r.first c in
      through es scale into go out s.top.first o p s.top.state.spine (close h.top.state) (entry es into (suc o)) r.opened (enters_of es scale into go out o (event_at es o) r.opened) g.reached.spine d

  older_of : (p o : ℕ) (g : Known o) → p < length es → opens (event_at es o) ≡ true → o < p → p ≤ partner es o → ChildAt es scale into go out g.shape_at.top.first (suc p) g.shape_at.top.state.child
  older_of p o g l t a b =
      child_later g.shape_at.top.first o (suc p) g.shape_at.top.state.child (omega arith) l (calm_below o p g.shape_at t b l) g.reached.child

  returned_at : (p o : ℕ) (k : Known p) (g : Known o) → p < length es → returns (event_at es p) ≡ true → Opened es scale go back p k.shape_at.top k.shape_at.rest o → partner es o ≡ p
      → (b : Bool) → is_spawned es (suc o) ≡ b → At (suc p) (on_return es scale go back k.shape_at.top g.shape_at.top)
  returned_at p o k g l t r q false e =
      let h = k.shape_at in
      let s = g.shape_at in
      let inner = inner_of p o k g l t r in
      let ret = is_return (event_at es p) t in
      let own = owner_is es scale go back wf p h ∙ r.first in
      let m = further es scale into go out s.top.first p (suc p) ((s.top.state.spine + entry es into (suc o)) + close h.top.state) 0 inner
      (returns_of es scale into go out p (suc p) 0 o ret own (subst (λ b. ReturnsTo es scale into go out b o p (suc p) 0) (sym e) (refl, refl))) in
      let w : scale * weight es p ≡ scale * 0 = ap (λ x. scale * x) (syncs_weight (event_at es p) (ap syncs ret)) in
      let n : entry es into (suc o) ≡ 0 = entry_of_other into o (event_at es o) e in
      let new : At (suc p) (record { first = s.top.first; state = after_call (close h.top.state) s.top.state }) = record {
        spine = (m.0, m.1, m.2, (let z = m.3 in omega arith));
        child = older_of p o g l r.opened r.after r.within;
      } in
      subst (λ x. At (suc p) (record { first = s.top.first; state = x })) (sym (returned_called es scale go back h.top s.top (subst (λ f. is_spawned es f ≡ false) (sym r.first) e))) new
  returned_at p o k g l t r q true e =
      let h = k.shape_at in
      let s = g.shape_at in
      let inner = inner_of p o k g l t r in
      let own = owner_is es scale go back wf o s in
      let on = further es scale into go out s.top.first o (suc (partner es o)) s.top.state.spine (go o) g.reached.spine (goes_on_of es scale into go out o (event_at es o) e) in
      let m = subst (λ x. Arrives es scale into go out s.top.first (suc x) ((s.top.state.spine + scale * weight es o) + go o)) q on in
      let w : scale * weight es o ≡ scale * 0 = ap (λ x. scale * x) (opens_weight (event_at es o) r.opened) in
      let spec = join_spec o r.opened in
      let candidate : Candidate es scale into go out s.top.first (suc p) (s.top.state.spine + (close h.top.state + back o)) o = record {
        spawned = e;
        own = own;
        before = omega arith;
        waiting = (let z = spec.lower in omega arith);
        reached = (s.top.state.spine + entry es into (suc o)) + close h.top.state;
        walk = subst (λ x. Arrives es scale into go out s.top.first x ((s.top.state.spine + entry es into (suc o)) + close h.top.state)) (sym q) inner;
        is = (let n : entry es into (suc o) ≡ into o = entry_of_spawned into o (event_at es o) e in let z = split o in omega arith);
      } in
      let new : At (suc p) (record { first = s.top.first; state = after_spawn o (close h.top.state) (at_spawn es scale go back o) s.top.state }) = record {
        spine = (m.0, m.1, m.2, (let z = m.3 in omega arith));
        child = offered_at s.top.first (suc p) s.top.state.child (s.top.state.spine + (close h.top.state + back o), o) (older_of p o g l r.opened r.after r.within) candidate;
      } in
      let state_is = returned_spawned es scale go back h.top s.top (subst (λ f. is_spawned es f ≡ true) (sym r.first) e)
      ∙ ap (λ f. after_spawn (pred f) (close h.top.state) (at_spawn es scale go back (pred f)) s.top.state) r.first in
      subst (λ x. At (suc p) (record { first = s.top.first; state = x })) (sym state_is) new

  known_return : (p o : ℕ) (k : Known p) (g : Known o) → p < length es → returns (event_at es p) ≡ true → Opened es scale go back p k.shape_at.top k.shape_at.rest o → partner es o ≡ p
      → (b : Bool) → is_spawned es (suc o) ≡ b → Known (suc p)
  known_return p o k g l t r q b e =
      known_from (suc p) l (on_return es scale go back k.shape_at.top g.shape_at.top) g.shape_at.rest
      (after_return es scale go back wf p k.shape_at o g.shape_at t r) (returned_at p o k g l t r q b e)

  known_step : (p : ℕ) → p < length es → (e : Option Event) → event_at es p ≡ e → Known p → ((o : ℕ) → o < p → Known o) → Known (suc p)
  known_step p l None q k below = absurd (slice_get_no es p l q)
  known_step p l (Some (Strand n)) q k below =
      let h = k.shape_at in
      let f = k.reached in
      let m = further es scale into go out h.top.first p (suc p) h.top.state.spine 0 f.spine (subst (λ e. StepOf es scale into go out e p (suc p) 0) (sym q) (refl, refl)) in
      known_from (suc p) l (on_strand (scale * n) h.top) h.rest (ap₂ (step es scale go back p) q h.is) (record {
        spine = (m.0, m.1, m.2, (let e = m.3 in let w : weight es p ≡ n = ap weight_of q in let v : scale * weight es p ≡ scale * n = ap (λ x. scale * x) w in omega arith));
        child = child_later h.top.first p (suc p) h.top.state.child (omega arith) l (calm_at p (ap syncs q) h.top.first) f.child;
      })
  known_step p l (Some (Call a f)) q k below =
      known_from (suc p) l (new_frame p) (St p) (ap (λ e. step es scale go back p e (St p)) q) (record { spine = ([], scale * weight es (suc p), (refl, refl), omega arith); child = tt })
  known_step p l (Some (Spawn a f)) q k below =
      known_from (suc p) l (new_frame p) (St p) (ap (λ e. step es scale go back p e (St p)) q) (record { spine = ([], scale * weight es (suc p), (refl, refl), omega arith); child = tt })
  known_step p l (Some Sync) q k below =
      let h = k.shape_at in
      let f = k.reached in
      let z : weight es p ≡ 0 = ap weight_of q in
      let c = closes_with h.top.first p h.top.state.spine h.top.state.child (omega arith) (owner_is es scale go back wf p h) (λ _. ap syncs q) z f.spine f.child in
      let m = further es scale into go out h.top.first p (suc p) (close h.top.state) 0 c (subst (λ e. StepOf es scale into go out e p (suc p) 0) (sym q) (refl, refl)) in
      known_from (suc p) l (on_sync h.top) h.rest (ap₂ (step es scale go back p) q h.is) (record {
        spine = (m.0, m.1, m.2, (let e = m.3 in let v : scale * weight es p ≡ scale * 0 = ap (λ x. scale * x) z in omega arith));
        child = tt;
      })
  known_step p l (Some Ret) q k below =
      let r = return_closes es scale go back wf p k.shape_at (ap returns q) in
      known_return p r.0 k (below r.0 r.1.after) l (ap returns q) r.1 r.2 (is_spawned es (suc r.0)) refl

  known_below : (n p : ℕ) → p < n → p ≤ length es → Known p
  known_below zero p a b = absurd (omega arith)
  known_below (suc n) zero a b =
      known_from 0 b (record { first = 0; state = start }) [] refl (record { spine = ([], scale * weight es 0, (refl, refl), omega arith); child = tt })
  known_below (suc n) (suc p) a b = known_step p b (event_at es p) refl (known_below n p (omega arith) (omega arith)) (λ o l. known_below n o (omega arith) (omega arith))

  pub known : (p : ℕ) → p ≤ length es → Known p
  known p l = known_below (suc p) p (omega arith) l
