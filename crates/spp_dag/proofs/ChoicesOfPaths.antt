-- The plain stack, with its rule for equal candidates, takes the children that the prizes choose.
use Rattle.std.proofs.Common.{◌≡◌, ℕ, zero, suc, pred, ◌+◌, ◌*◌, ◌≤◌, ◌<◌, Bool, true, false, refl, arith, sym, ◌∙◌, ap, ap₂, subst, inl, inr, List, [], ◌∷◌, length, Option, Some, None, nat_le, nat_lt, mul-add, max}
use Rattle.std.proofs.Math.Nat.{mul-suc, mul-le-mul_left}
use Rattle.std.proofs.lemmas.Bool.{cases_lt, lt-ltb, le-ltb, le-leb, lt-leb}
use Rattle.spp_event.specs.declared.records.Event.{Event}
use Rattle.spp_event.specs.declared.records.Event.TheVariants.{Strand, Call, Spawn, Ret, Sync}
use Rattle.spp_dag.specs.Trace.{event_at, returns, IsWellFormed, is_spawned}
use Rattle.spp_maxplus.specs.declared.state.Burdens.{Burdens}
use Rattle.spp_maxplus.specs.declared.state.State.{State}
use Rattle.spp_maxplus.specs.Candidate.{greatest, better}
use Rattle.spp_maxplus.specs.State.{start, close, after_spawn, after_call, taken, taken_of}
use Rattle.spp_dag.proofs.Depth.{slice_get_no}
use Rattle.spp_dag.proofs.Machine.{Frame, new_frame, on_strand, on_sync, on_return, step, stack, Shape, shape, Opened}
use Rattle.spp_dag.proofs.Owner.{return_closes}
use Rattle.spp_dag.proofs.Upper.{after_return, returned_called, returned_spawned}
use Rattle.spp_dag.proofs.Ties.{room, room_halves, room_falls, room_positive, prize}

abbrev both : ℕ → ℕ → Burdens
both m n = record { continuation = m; join = n }

module _ (es : List Event) where
  abbrev B : ℕ
  B = room es 0

  -- the same child in both states, the second's prize high enough
  abbrev pub ChildPair : ℕ → ℕ → ℕ → Option (ℕ × ℕ) → Option (ℕ × ℕ) → Type 0
  ChildPair f p beta None None = Unit {0}
  ChildPair f p beta None (Some d) = ⊥
  ChildPair f p beta (Some c) None = ⊥
  ChildPair f p beta (Some c) (Some d) =
      (gamma : ℕ) × (d.0 ≡ B * c.0 + gamma) × (d.1 ≡ c.1) × (beta + room es p ≤ gamma) × (gamma + room es p ≤ room es f)

  -- a state of the plain stack and one with prizes, in the frame that begins at f, at p
  pub record Pair (f p : ℕ) (s t : State) : Type 0 where
    pub beta : ℕ
    pub spine : t.spine ≡ B * s.spine + beta
    pub fits : beta + room es p ≤ room es f
    pub child : ChildPair f p beta s.child t.child

  -- what closing gives on both sides
  record Closing (f p : ℕ) (s t : State) : Type 0 where
    delta : ℕ
    closes : close t ≡ B * close s + delta
    fits : delta + room es p ≤ room es f
    same : taken s ≡ taken t

  scaled_le : (a b : ℕ) → a ≤ b → B * a ≤ B * b
  scaled_le a b l = mul-le-mul_left B l

  scaled_lt : (a b : ℕ) → a < b → B * a + B ≤ B * b
  scaled_lt a b l = let e = scaled_le (suc a) b l in let f : B * suc a ≡ B * a + B = mul-suc B a in omega arith

  closing_of : (f p spine spine' beta : ℕ) (c d : Option (ℕ × ℕ)) → spine' ≡ B * spine + beta → beta + room es p ≤ room es f → ChildPair f p beta c d
      → (delta : ℕ) × (greatest spine' d ≡ B * greatest spine c + delta) × (delta + room es p ≤ room es f) × (taken_of spine c ≡ taken_of spine' d)
  closing_of f p spine spine' beta None None e l h = (beta, e, l, refl)
  closing_of f p spine spine' beta None (Some d) e l h = absurd h
  closing_of f p spine spine' beta (Some c) None e l h = absurd h
  closing_of f p spine spine' beta (Some c) (Some d) e l h =
      elim (cases_lt c.0 spine) [
        | inl m ↦
            let gamma : ℕ = h.0 in
            let a = scaled_lt c.0 spine m in
            let whole = room_falls es 0 f (let z : 0 ≤ f = omega arith in z) in
            let pos = room_positive es p in
            let x : nat_le spine c.0 ≡ false = lt-leb _ _ m in
            let y : nat_le spine' d.0 ≡ false = lt-leb _ _ (let q : d.0 < spine' = omega (arith, h.1, h.4) in q) in
            let p : max spine c.0 ≡ spine = omega arith in
            let q : max spine' d.0 ≡ spine' = omega (arith, h.1, h.4) in
            (beta, q ∙ e ∙ ap (λ k. B * k + beta) (sym p), l, rw (x, y, taken_of))
        | inr m ↦
            let gamma : ℕ = h.0 in
            let a = scaled_le spine c.0 m in
            let pos = room_positive es p in
            let x : nat_le spine c.0 ≡ true = le-leb _ _ m in
            let y : nat_le spine' d.0 ≡ true = le-leb _ _ (let q : spine' ≤ d.0 = omega (arith, h.1, h.3) in q) in
            let p : max spine c.0 ≡ c.0 = omega arith in
            let q : max spine' d.0 ≡ d.0 = omega (arith, h.1, h.3) in
            (gamma, q ∙ h.1 ∙ ap (λ k. B * k + gamma) (sym p), h.4, rw (x, y, taken_of) (ap Some (sym h.2)))
      ]

  closing_pair : (f p : ℕ) (s t : State) → Pair f p s t → Closing f p s t
  closing_pair f p s t h =
      let r = closing_of f p s.spine t.spine h.beta s.child t.child h.spine h.fits h.child in
      record { delta = r.0; closes = r.1; fits = r.2; same = r.3 }

  -- later, and with a higher spine
  child_on : (f p q beta more : ℕ) (c d : Option (ℕ × ℕ)) → more + room es q ≤ beta + room es p → room es q ≤ room es p → ChildPair f p beta c d → ChildPair f q more c d
  child_on f p q beta more None None a b h = tt
  child_on f p q beta more None (Some d) a b h = absurd h
  child_on f p q beta more (Some c) None a b h = absurd h
  child_on f p q beta more (Some c) (Some d) a b h = (h.0, h.1, h.2, (let z = h.3 in omega arith), (let z = h.4 in omega arith))

  offered_pair : (f p beta gamma : ℕ) (c d : Option (ℕ × ℕ)) (new new' : ℕ × ℕ) → new'.0 ≡ B * new.0 + gamma → new'.1 ≡ new.1 → beta + room es p ≤ gamma → gamma + room es p ≤ room es f
      → ((x y : ℕ × ℕ) → c ≡ Some x → d ≡ Some y → (g : ℕ) → y.0 ≡ B * x.0 + g → gamma ≤ g)
      → ChildPair f p beta c d → ChildPair f p beta (better c (Some new)) (better d (Some new'))
  offered_pair f p beta gamma None None new new' e i a b less h = (gamma, e, i, a, b)
  offered_pair f p beta gamma None (Some d) new new' e i a b less h = absurd h
  offered_pair f p beta gamma (Some c) None new new' e i a b less h = absurd h
  offered_pair f p beta gamma (Some c) (Some d) new new' e i a b less h =
      let pos = room_positive es p in
      elim (cases_lt c.0 new.0) [
        | inl m ↦
            let q = scaled_lt c.0 new.0 m in
            let whole = room_falls es 0 f (let z : 0 ≤ f = omega arith in z) in
            let x : nat_lt c.0 new.0 ≡ true = lt-ltb _ _ m in
            let y : nat_lt d.0 new'.0 ≡ true = lt-ltb _ _ (let z : d.0 < new'.0 = omega (arith, h.1, h.4) in z) in
            rw (x, y, better) (gamma, e, i, a, b)
        | inr m ↦
            let q = scaled_le new.0 c.0 m in
            let k = less c d refl refl h.0 h.1 in
            let x : nat_lt c.0 new.0 ≡ false = le-ltb _ _ m in
            let y : nat_lt d.0 new'.0 ≡ false = le-ltb _ _ (let z : new'.0 ≤ d.0 = omega (arith, h.1) in z) in
            rw (x, y, better) h
      ]

  less_of : (f p beta gamma : ℕ) (c d : Option (ℕ × ℕ)) → ChildPair f p beta c d → gamma ≤ beta + room es p
      → (x y : ℕ × ℕ) → c ≡ Some x → d ≡ Some y → (g : ℕ) → y.0 ≡ B * x.0 + g → gamma ≤ g
  less_of f p beta gamma None d h l x y q r g e = cc
  less_of f p beta gamma (Some c) None h l x y q r g e = cc
  less_of f p beta gamma (Some c) (Some d) h l x y q r g e =
      let a : c ≡ x = cc in
      let b : d ≡ y = cc in
      let m : B * c.0 ≡ B * x.0 = ap (λ k. B * k.0) a in
      let n : d.0 ≡ y.0 = ap (λ k. k.0) b in
      omega (arith, h.1, h.3)

module _ (es : List Event) (wf : IsWellFormed es) (mc mr : ℕ) where
  abbrev Bs : ℕ
  Bs = room es 0

  abbrev pub Sh1 : ℕ → Type 0
  Sh1 = Shape es 1 (λ _. mc) (λ _. mr)

  abbrev pub Sh2 : ℕ → Type 0
  Sh2 = Shape es Bs (λ _. Bs * mc) (λ s. prize es s + Bs * mr)

  -- the two stacks at p have the same innermost frame, and its states are a pair
  abbrev pub Match : ℕ → Frame → Frame → Type 0
  Match p f g = (f.first ≡ g.first) × Pair es f.first p f.state g.state

  pub record Matched (p : ℕ) : Type 0 where
    pub one : Sh1 p
    pub two : Sh2 p
    pub pair : Match p one.top two.top

  top_is : (a b : Frame) (xs ys : List Frame) (fs : List Frame) → fs ≡ a ∷ xs → fs ≡ b ∷ ys → a ≡ b
  top_is a b xs ys fs p q = let r = sym p ∙ q in cc

  matched_from : (p : ℕ) → p ≤ length es → (f g : Frame) (fs gs : List Frame) → stack es 1 (λ _. mc) (λ _. mr) p ≡ f ∷ fs → stack es Bs (λ _. Bs * mc) (λ s. prize es s + Bs * mr) p ≡ g ∷ gs → Match p f g → Matched p
  matched_from p l f g fs gs a b m =
      let s = shape es 1 (λ _. mc) (λ _. mr) wf p l in
      let t = shape es Bs (λ _. Bs * mc) (λ s. prize es s + Bs * mr) wf p l in
      let x : f ≡ s.top = top_is f s.top fs s.rest _ a s.is in
      let y : g ≡ t.top = top_is g t.top gs t.rest _ b t.is in
      record { one = s; two = t; pair = subst (λ k. Match p k t.top) x (subst (λ k. Match p f k) y m) }

  step1 : ℕ → Option Event → List Frame → List Frame
  step1 = step es 1 (λ _. mc) (λ _. mr)

  -- a returned child's figures
  matched_return : (p o : ℕ) (k : Matched p) (g : Matched o) → p < length es → returns (event_at es p) ≡ true
      → Opened es 1 (λ _. mc) (λ _. mr) p k.one.top k.one.rest o → Opened es Bs (λ _. Bs * mc) (λ s. prize es s + Bs * mr) p k.two.top k.two.rest o
      → (b : Bool) → is_spawned es (suc o) ≡ b → Matched (suc p)
  matched_return p o k g l t r s false e =
      let a = k.one.top in
      let b = k.two.top in
      let x = g.one.top in
      let y = g.two.top in
      let c = closing_pair es a.first p a.state b.state k.pair.1 in
      let h = g.pair.1 in
      let fits : c.delta + room es p ≤ room es (suc o) = subst (λ f. c.delta + room es p ≤ room es f) r.first c.fits in
      let f1 = room_falls es p (suc p) (let z : p ≤ suc p = omega arith in z) in
      let f2 = room_falls es o (suc o) (let z : o ≤ suc o = omega arith in z) in
      let after : o < p = r.after in
      let f3 = room_falls es o (suc p) (let z : o ≤ suc p = omega arith in z) in
      let m = mul-add Bs x.state.spine (close a.state) in
      let new : Match (suc p) (record { first = x.first; state = after_call (close a.state) x.state }) (record { first = y.first; state = after_call (close b.state) y.state }) = (
        g.pair.0,
        record {
          beta = h.beta + c.delta;
          spine = (let z = h.spine in let w = c.closes in omega arith);
          fits = (let z = h.fits in omega arith);
          child = child_on es x.first o (suc p) h.beta (h.beta + c.delta) x.state.child y.state.child (let z = h.fits in omega arith) f3 h.child;
        },
      ) in
      let ea = returned_called es 1 (λ _. mc) (λ _. mr) a x (subst (λ f. is_spawned es f ≡ false) (sym r.first) e) in
      let eb = returned_called es Bs (λ _. Bs * mc) (λ s. prize es s + Bs * mr) b y (subst (λ f. is_spawned es f ≡ false) (sym s.first) e) in
      matched_from (suc p) l (on_return es 1 (λ _. mc) (λ _. mr) a x) (on_return es Bs (λ _. Bs * mc) (λ s. prize es s + Bs * mr) b y) g.one.rest g.two.rest
      (after_return es 1 (λ _. mc) (λ _. mr) wf p k.one o g.one t r) (after_return es Bs (λ _. Bs * mc) (λ s. prize es s + Bs * mr) wf p k.two o g.two t s)
      (subst (λ u. Match (suc p) (record { first = x.first; state = u }) (on_return es Bs (λ _. Bs * mc) (λ s. prize es s + Bs * mr) b y)) (sym ea)
      (subst (λ u. Match (suc p) (record { first = x.first; state = after_call (close a.state) x.state }) (record { first = y.first; state = u })) (sym eb) new))
  matched_return p o k g l t r s true e =
      let a = k.one.top in
      let b = k.two.top in
      let x = g.one.top in
      let y = g.two.top in
      let c = closing_pair es a.first p a.state b.state k.pair.1 in
      let h = g.pair.1 in
      let fits : c.delta + room es p ≤ room es (suc o) = subst (λ f. c.delta + room es p ≤ room es f) r.first c.fits in
      let f1 = room_falls es p (suc p) (let z : p ≤ suc p = omega arith in z) in
      let after : o < p = r.after in
      let f2 = room_falls es (suc o) (suc p) (let z : suc o ≤ suc p = omega arith in z) in
      let f3 = room_falls es o (suc p) (let z : o ≤ suc p = omega arith in z) in
      let two = room_halves es o (let z : o ≤ length es = omega arith in z) in
      let pos = room_positive es p in
      let old = child_on es x.first o (suc p) h.beta h.beta x.state.child y.state.child (omega arith) f3 h.child in
      let m = mul-add Bs x.state.spine (close a.state + mr) in
      let n = mul-add Bs (close a.state) mr in
      let v = mul-add Bs x.state.spine mc in
      let gamma : ℕ = h.beta + (c.delta + room es (suc o)) in
      let new : Match (suc p) (record { first = x.first; state = after_spawn o (close a.state) (both mc mr) x.state }) (record { first = y.first; state = after_spawn o (close b.state) (both (Bs * mc) (prize es o + Bs * mr)) y.state }) = (
        g.pair.0,
        record {
          beta = h.beta;
          spine = (let z = h.spine in omega arith);
          fits = (let z = h.fits in omega arith);
          child = offered_pair es x.first (suc p) h.beta gamma x.state.child y.state.child (x.state.spine + (close a.state + mr), o) (y.state.spine + (close b.state + (prize es o + Bs * mr)), o)
              (let z = h.spine in let w = c.closes in omega arith) refl (omega arith) (let z = h.fits in omega arith)
              (less_of es x.first o h.beta gamma x.state.child y.state.child h.child (omega arith)) old;
        },
      ) in
      let ea = returned_spawned es 1 (λ _. mc) (λ _. mr) a x (subst (λ f. is_spawned es f ≡ true) (sym r.first) e)
      ∙ ap (λ f. after_spawn (pred f) (close a.state) (both mc mr) x.state) r.first in
      let eb = returned_spawned es Bs (λ _. Bs * mc) (λ s. prize es s + Bs * mr) b y (subst (λ f. is_spawned es f ≡ true) (sym s.first) e)
      ∙ ap (λ f. after_spawn (pred f) (close b.state) (both (Bs * mc) (prize es (pred f) + Bs * mr)) y.state) s.first in
      matched_from (suc p) l (on_return es 1 (λ _. mc) (λ _. mr) a x) (on_return es Bs (λ _. Bs * mc) (λ s. prize es s + Bs * mr) b y) g.one.rest g.two.rest
      (after_return es 1 (λ _. mc) (λ _. mr) wf p k.one o g.one t r) (after_return es Bs (λ _. Bs * mc) (λ s. prize es s + Bs * mr) wf p k.two o g.two t s)
      (subst (λ u. Match (suc p) (record { first = x.first; state = u }) (on_return es Bs (λ _. Bs * mc) (λ s. prize es s + Bs * mr) b y)) (sym ea)
      (subst (λ u. Match (suc p) (record { first = x.first; state = after_spawn o (close a.state) (both mc mr) x.state }) (record { first = y.first; state = u })) (sym eb) new))

  matched_step : (p : ℕ) → p < length es → (e : Option Event) → event_at es p ≡ e → Matched p → ((o : ℕ) → o < p → Matched o) → Matched (suc p)
  matched_step p l None q k below = absurd (slice_get_no es p l q)
  matched_step p l (Some (Strand n)) q k below =
      let h = k.pair.1 in
      let f = room_falls es p (suc p) (let z : p ≤ suc p = omega arith in z) in
      matched_from (suc p) l (on_strand (1 * n) k.one.top) (on_strand (Bs * n) k.two.top) k.one.rest k.two.rest
      (ap₂ (step es 1 (λ _. mc) (λ _. mr) p) q k.one.is) (ap₂ (step es Bs (λ _. Bs * mc) (λ s. prize es s + Bs * mr) p) q k.two.is) (
        k.pair.0,
        record {
          beta = h.beta;
          spine = (let z = h.spine in let e : 1 * n ≡ n = omega arith in let m : Bs * (k.one.top.state.spine + 1 * n) ≡ Bs * k.one.top.state.spine + Bs * n = mul-add Bs k.one.top.state.spine (1 * n) ∙ ap (λ x. Bs * k.one.top.state.spine + Bs * x) e in omega arith);
          fits = (let z = h.fits in omega arith);
          child = child_on es k.one.top.first p (suc p) h.beta h.beta k.one.top.state.child k.two.top.state.child (omega arith) f h.child;
        },
      )
  matched_step p l (Some (Call a u)) q k below =
      matched_from (suc p) l (new_frame p) (new_frame p) (stack es 1 (λ _. mc) (λ _. mr) p) (stack es Bs (λ _. Bs * mc) (λ s. prize es s + Bs * mr) p)
      (ap (λ e. step es 1 (λ _. mc) (λ _. mr) p e (stack es 1 (λ _. mc) (λ _. mr) p)) q) (ap (λ e. step es Bs (λ _. Bs * mc) (λ s. prize es s + Bs * mr) p e (stack es Bs (λ _. Bs * mc) (λ s. prize es s + Bs * mr) p)) q)
      (refl, record { beta = 0; spine = (let z : 0 ≡ Bs * 0 + 0 = omega arith in z); fits = omega arith; child = tt })
  matched_step p l (Some (Spawn a u)) q k below =
      matched_from (suc p) l (new_frame p) (new_frame p) (stack es 1 (λ _. mc) (λ _. mr) p) (stack es Bs (λ _. Bs * mc) (λ s. prize es s + Bs * mr) p)
      (ap (λ e. step es 1 (λ _. mc) (λ _. mr) p e (stack es 1 (λ _. mc) (λ _. mr) p)) q) (ap (λ e. step es Bs (λ _. Bs * mc) (λ s. prize es s + Bs * mr) p e (stack es Bs (λ _. Bs * mc) (λ s. prize es s + Bs * mr) p)) q)
      (refl, record { beta = 0; spine = (let z : 0 ≡ Bs * 0 + 0 = omega arith in z); fits = omega arith; child = tt })
  matched_step p l (Some Sync) q k below =
      let c = closing_pair es k.one.top.first p k.one.top.state k.two.top.state k.pair.1 in
      let f = room_falls es p (suc p) (let z : p ≤ suc p = omega arith in z) in
      matched_from (suc p) l (on_sync k.one.top) (on_sync k.two.top) k.one.rest k.two.rest
      (ap₂ (step es 1 (λ _. mc) (λ _. mr) p) q k.one.is) (ap₂ (step es Bs (λ _. Bs * mc) (λ s. prize es s + Bs * mr) p) q k.two.is)
      (k.pair.0, record { beta = c.delta; spine = c.closes; fits = (let z = c.fits in omega arith); child = tt })
  matched_step p l (Some Ret) q k below =
      let r = return_closes es 1 (λ _. mc) (λ _. mr) wf p k.one (ap returns q) in
      let s = return_closes es Bs (λ _. Bs * mc) (λ s. prize es s + Bs * mr) wf p k.two (ap returns q) in
      let same : s.0 ≡ r.0 = (let a = k.pair.0 in omega (arith, r.1.first, s.1.first)) in
      matched_return p r.0 k (below r.0 r.1.after) l (ap returns q) r.1
      (subst (λ o. Opened es Bs (λ _. Bs * mc) (λ s. prize es s + Bs * mr) p k.two.top k.two.rest o) same s.1) (is_spawned es (suc r.0)) refl

  matched_below : (n p : ℕ) → p < n → p ≤ length es → Matched p
  matched_below zero p a b = absurd (omega arith)
  matched_below (suc n) zero a b =
      matched_from 0 b (record { first = 0; state = start }) (record { first = 0; state = start }) [] [] refl refl
      (refl, record { beta = 0; spine = (let z : 0 ≡ Bs * 0 + 0 = omega arith in z); fits = omega arith; child = tt })
  matched_below (suc n) (suc p) a b = matched_step p b (event_at es p) refl (matched_below n p (omega arith) (omega arith)) (λ o l. matched_below n o (omega arith) (omega arith))

  pub matched : (p : ℕ) → p ≤ length es → Matched p
  matched p l = matched_below (suc p) p (omega arith) l

  -- wherever a frame waits, the plain stack takes the child that the prizes choose
  pub same_taken : (p : ℕ) → p ≤ length es → (h : Sh1 p) (k : Sh2 p) → taken h.top.state ≡ taken k.top.state
  same_taken p l h k =
      let m = matched p l in
      let c = closing_pair es m.one.top.first p m.one.top.state m.two.top.state m.pair.1 in
      let x : m.one.top ≡ h.top = top_is m.one.top h.top m.one.rest h.rest _ m.one.is h.is in
      let y : m.two.top ≡ k.top = top_is m.two.top k.top m.two.rest k.rest _ m.two.is k.is in
      sym (ap (λ f. taken f.state) x) ∙ (c.same ∙ ap (λ f. taken f.state) y)

  -- where the plain stack waits for no child, neither does the one with prizes
  pub same_waiting : (p : ℕ) → p ≤ length es → (h : Sh1 p) (k : Sh2 p) → h.top.state.child ≡ None → k.top.state.child ≡ None
  same_waiting p l h k e =
      let m = matched p l in
      let x : m.one.top ≡ h.top = top_is m.one.top h.top m.one.rest h.rest _ m.one.is h.is in
      let y : m.two.top ≡ k.top = top_is m.two.top k.top m.two.rest k.rest _ m.two.is k.is in
      let c : m.one.top.state.child ≡ None = ap (λ f. f.state.child) x ∙ e in
      sym (ap (λ f. f.state.child) y) ∙ none_too m.one.top.first p m.pair.1.beta m.two.top.state.child (subst (λ o. ChildPair es m.one.top.first p m.pair.1.beta o m.two.top.state.child) c m.pair.1.child)
    where
      none_too : (f q beta : ℕ) (d : Option (ℕ × ℕ)) → ChildPair es f q beta None d → d ≡ None
      none_too f q beta None h = refl
      none_too f q beta (Some d) h = absurd h
