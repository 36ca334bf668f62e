-- The child that waits in an open frame. Where the path enters a child, that child waits from its return to its join.
use Rattle.std.proofs.Common.{◌≡◌, ℕ, zero, suc, ◌+◌, ◌*◌, ◌≤◌, ◌<◌, Bool, true, false, cond, refl, arith, sym, ◌∙◌, ap, ap₂, subst, inl, inr, List, ◌∷◌, length, Option, Some, None, nat_le, nat_lt, nat_eq}
use Rattle.std.proofs.lemmas.Bool.{cases_lt, and_parts, and_from, both_ways, eqb-true, eq-eqb}
use Rattle.spp_event.specs.declared.records.Event.{Event}
use Rattle.spp_event.specs.declared.records.Event.TheVariants.{Strand, Call, Spawn, Ret, Sync}
use Rattle.spp_maxplus.specs.declared.state.State.{State}
use Rattle.spp_maxplus.specs.declared.state.Burdens.{Burdens}
use Rattle.spp_maxplus.specs.Candidate.{better}
use Rattle.spp_maxplus.specs.State.{close, taken_of, after_spawn, after_call}
use Rattle.spp_dag.specs.Trace.{event_at, opens, spawns, syncs, partner, owner, join, IsWellFormed}
use Rattle.spp_dag.specs.Dag.{IsPath, On}
use Rattle.spp_dag.proofs.Ranges.{least_le}
use Rattle.spp_dag.proofs.Depth.{closed, inside_opens, is_return, slice_get_no}
use Rattle.spp_dag.proofs.Machine.{Frame, on_strand, on_return, step, Shape, shape}
use Rattle.spp_dag.proofs.Owner.{owner_is, at_closing}
use Rattle.spp_dag.proofs.Upper.{spawns_opens}
use Rattle.spp_dag.proofs.Lower.{ChildAt}
use Rattle.spp_dag.proofs.Span.{reached_top}
use Rattle.spp_dag.proofs.Crossing.{within_owner, owner_le, waits_for, join_spec}
use Rattle.spp_dag.proofs.PathLaws.{path_enters}
use Rattle.spp_ways.specs.Ways.{outruns, wins}

abbrev pub waiting_of : Option (ℕ × ℕ) → Option ℕ
waiting_of None = None
waiting_of (Some c) = Some c.1

-- the spawn of the child that waits in a frame of that state
abbrev pub waiting : State → Option ℕ
waiting s = waiting_of s.child

-- what is taken waits
pub taken_waits : (spine : ℕ) (c : Option (ℕ × ℕ)) (s : ℕ) → taken_of spine c ≡ Some s → waiting_of c ≡ Some s
taken_waits spine None s e = e
taken_waits spine (Some c) s e = pick (nat_le spine c.0) e
  where
    pick : (b : Bool) → cond b (Some c.1) None ≡ Some s → Some c.1 ≡ Some s
    pick true e = e
    pick false e = let z : None ≡ Some s = e in cc

better_waits : (c : Option (ℕ × ℕ)) (weight at : ℕ) → waiting_of (better c (Some (weight, at))) ≡ cond (outruns c weight) (Some at) (waiting_of c)
better_waits None weight at = refl
better_waits (Some c) weight at = pick (nat_lt c.0 weight)
  where
    pick : (b : Bool) → waiting_of (cond b (Some (weight, at)) (Some c)) ≡ cond b (Some at) (Some c.1)
    pick true = refl
    pick false = refl

pub opens_not_syncs : (e : Option Event) → opens e ≡ true → syncs e ≡ false
opens_not_syncs None h = refl
opens_not_syncs (Some (Strand n)) h = refl
opens_not_syncs (Some (Call s f)) h = refl
opens_not_syncs (Some (Spawn s f)) h = refl
opens_not_syncs (Some Ret) h = cc
opens_not_syncs (Some Sync) h = cc

module _ (es : List Event) (wf : IsWellFormed es) (bd : Burdens) where
  abbrev pub co : ℕ → ℕ
  co s = bd.continuation

  abbrev pub re : ℕ → ℕ
  re s = bd.join

  -- the stack of the machine that bears these, before the event at a position
  abbrev pub At : ℕ → Type 0
  At = Shape es 1 co re

  -- the child spawned at s waits in the frame f before the event at p
  pub record WaitsIn (f p s : ℕ) : Type 0 where
    pub spawned : spawns (event_at es s) ≡ true
    pub own : owner es s ≡ f
    pub before : partner es s < p
    pub upto : p ≤ join es s

  pub waited : (p : ℕ) → p ≤ length es → (h : At p) (s : ℕ) → waiting h.top.state ≡ Some s → WaitsIn h.top.first p s
  waited p l h s e = by h.top.state.child (reached_top es 1 co re wf (λ _. 0) re (λ s. let z : bd.join ≡ 0 + bd.join = omega arith in z) p l h).child e
    where
      by : (c : Option (ℕ × ℕ)) → ChildAt es 1 (λ _. 0) co re h.top.first p c → waiting_of c ≡ Some s → WaitsIn h.top.first p s
      by None d e = let z : None ≡ Some s = e in cc
      by (Some c) d e =
          let z : Some c.1 ≡ Some s = e in
          let q : c.1 ≡ s = cc in
          subst (λ k. WaitsIn h.top.first p k) q (record { spawned = d.spawned; own = d.own; before = d.before; upto = d.waiting })

  -- ---- a return

  -- the child that waits after the return of the frame opened at o
  pub return_waits : (f g : Frame) (o : ℕ) → f.first ≡ suc o
      → waiting (on_return es 1 co re f g).state ≡ cond (spawns (event_at es o)) (cond (wins bd f.state g.state) (Some o) (waiting g.state)) (waiting g.state)
  return_waits f g o e =
      subst (λ k. waiting (on_return es 1 co re (record { first = k; state = f.state }) g).state ≡ cond (spawns (event_at es o)) (cond (wins bd f.state g.state) (Some o) (waiting g.state)) (waiting g.state))
      (sym e) (pick (spawns (event_at es o)))
    where
      pick : (b : Bool) → waiting (elim b [ true ↦ after_spawn o (close f.state) bd g.state | false ↦ after_call (close f.state) g.state ])
          ≡ cond b (cond (wins bd f.state g.state) (Some o) (waiting g.state)) (waiting g.state)
      pick true = better_waits g.state.child (g.state.spine + (close f.state + bd.join)) o
      pick false = refl

  -- the stack after the return at p, by that before the frame was opened at o
  pub record Back (o p : ℕ) (g : At o) (h : At p) (k : At (suc p)) : Type 0 where
    pub first : h.top.first ≡ suc o
    pub is : k.top ≡ on_return es 1 co re h.top g.top
    pub rest : k.rest ≡ g.rest
    pub own : owner es (suc p) ≡ owner es o

  pub goes_back : (o : ℕ) → opens (event_at es o) ≡ true → (g : At o) (h : At (partner es o)) (k : At (suc (partner es o))) → Back o (partner es o) g h k
  goes_back o t g h k =
      let c = closed es wf o t in
      let p : ℕ = partner es o in
      let r = at_closing es 1 co re wf o t h in
      let e = sym k.is ∙ ap₂ (step es 1 co re p) (is_return (event_at es p) c.return) (h.is ∙ ap (λ x. h.top ∷ x) (r.below ∙ g.is)) in
      let top : k.top ≡ on_return es 1 co re h.top g.top = cc in
      record {
        first = r.first;
        is = top;
        rest = cc;
        own = owner_is es 1 co re wf (suc p) k ∙ ap (λ (f : Frame). f.first) top ∙ sym (owner_is es 1 co re wf o g);
      }

  -- a child that waits where another frame is opened joins behind that frame's return
  pub joins_past : (s o : ℕ) → spawns (event_at es s) ≡ true → opens (event_at es o) ≡ true → owner es s ≡ owner es o → partner es s < o → o ≤ join es s → partner es o < join es s
  joins_past s o t u own before upto = elim (cases_lt (partner es o) (join es s)) [
    | inl z ↦ z
    | inr z ↦
        let ot = spawns_opens (event_at es s) t in
        let c = closed es wf o u in
        let d = closed es wf s ot in
        let within : partner es o < length es = c.within in
        let w = and_parts (syncs (event_at es (join es s))) (nat_eq (owner es (join es s)) (owner es s)) ((join_spec es wf s ot).passes (omega arith)) in
        elim (cases_lt o (join es s)) [
          | inl y ↦
              let m = within_owner es wf o (join es s) u y z in
              let same : owner es (join es s) ≡ owner es s = eqb-true _ _ w.1 in
              let after : s < partner es s = d.after in
              let inside = inside_opens es s ot in
              let le = owner_le es wf s (omega arith) in
              absurd (omega arith)
          | inr y ↦
              let same : join es s ≡ o = omega arith in
              absurd (both_ways _ (opens_not_syncs (event_at es o) u) (subst (λ k. syncs (event_at es k) ≡ true) same w.0))
        ]
  ]

  -- ---- the child that the path enters

  module _ (ps : List ℕ) (path : IsPath es bd 0 (length es) ps) (s : ℕ) (t : spawns (event_at es s) ≡ true) (on : On 0 ps (suc s)) where
    at_join : (h : At (join es s)) → waiting h.top.state ≡ Some s
    at_join h = taken_waits h.top.state.spine h.top.state.child s ((path_enters es wf bd ps path s t h).0 on).1

    -- before the event at i, where it waits behind that event
    before : (i : ℕ) → i < join es s → partner es s < i → owner es i ≡ owner es s → (h : At i)
        → ((k : ℕ) → i < k → k ≤ join es s → owner es k ≡ owner es s → (g : At k) → waiting g.top.state ≡ Some s) → waiting h.top.state ≡ Some s
    before i x c d h later = by (event_at es i) refl
      where
        inside : i < length es
        inside = let z = (join_spec es wf s (spawns_opens (event_at es s) t)).upper in omega arith

        no_sync : syncs (event_at es i) ≡ true → ⊥
        no_sync y =
            let j = least_le (waits_for es wf s) (suc (partner es s)) (length es) i c inside (and_from _ _ y (eq-eqb _ _ d)) in
            omega arith

        opened : opens (event_at es i) ≡ true → waiting h.top.state ≡ Some s
        opened u =
            let cl = closed es wf i u in
            let a : i < partner es i = cl.after in
            let b : partner es i < length es = cl.within in
            let g = shape es 1 co re wf (partner es i) (omega arith) in
            let k = shape es 1 co re wf (suc (partner es i)) b in
            let r = goes_back i u h g k in
            let past = joins_past s i t u (sym d) c (omega arith) in
            let w = later (suc (partner es i)) (omega arith) past (r.own ∙ d) k in
            pick (spawns (event_at es i)) (wins bd g.top.state h.top.state) (sym (ap (λ (f : Frame). waiting f.state) r.is ∙ return_waits g.top h.top i r.first) ∙ w)
          where
            pick : (a b : Bool) → cond a (cond b (Some i) (waiting h.top.state)) (waiting h.top.state) ≡ Some s → waiting h.top.state ≡ Some s
            pick true true e =
                let z : Some i ≡ Some s = e in
                let same : i ≡ s = cc in
                let after : s < partner es s = (closed es wf s (spawns_opens (event_at es s) t)).after in
                absurd (omega arith)
            pick true false e = e
            pick false b e = e

        by : (e : Option Event) → event_at es i ≡ e → waiting h.top.state ≡ Some s
        by None q = absurd (slice_get_no es i inside q)
        by (Some (Strand n)) q =
            let k = shape es 1 co re wf (suc i) inside in
            let e = sym k.is ∙ ap₂ (step es 1 co re i) q h.is in
            let top : k.top ≡ on_strand (1 * n) h.top = cc in
            let own : owner es (suc i) ≡ owner es s = owner_is es 1 co re wf (suc i) k ∙ ap (λ (f : Frame). f.first) top ∙ sym (owner_is es 1 co re wf i h) ∙ d in
            sym (ap (λ (f : Frame). waiting f.state) top) ∙ later (suc i) (omega arith) x own k
        by (Some (Call a f)) q = opened (ap opens q)
        by (Some (Spawn a f)) q = opened (ap opens q)
        by (Some Ret) q = absurd (no_sync (ap syncs q))
        by (Some Sync) q = absurd (no_sync (ap syncs q))

    kept_by : (n i : ℕ) → i ≤ join es s → join es s ≤ i + n → partner es s < i → owner es i ≡ owner es s → (h : At i) → waiting h.top.state ≡ Some s
    kept_by zero i a b c d h = subst (λ k. (g : At k) → waiting g.top.state ≡ Some s) (let z : join es s ≡ i = omega arith in z) at_join h
    kept_by (suc n) i a b c d h = elim (cases_lt i (join es s)) [
      | inl x ↦ before i x c d h (λ k l m o g. kept_by n k m (omega arith) (omega arith) o g)
      | inr x ↦ subst (λ k. (g : At k) → waiting g.top.state ≡ Some s) (let z : join es s ≡ i = omega arith in z) at_join h
    ]

    -- from its return to its join it waits, where its parent is the innermost frame
    pub kept : (i : ℕ) → partner es s < i → i ≤ join es s → owner es i ≡ owner es s → (h : At i) → waiting h.top.state ≡ Some s
    kept i c a d h = kept_by (join es s) i a (omega arith) c d h
