-- The stack machine of the definitions is the stack by position.
use Rattle.std.proofs.Common.{◌≡◌, ℕ, suc, ◌+◌, ◌*◌, ◌≤◌, ◌<◌, Bool, true, false, refl, arith, sym, ◌∙◌, ap, ap₂, subst, inl, inr, List, [], ◌∷◌, length, map, Some}
use Rattle.spp_event.specs.declared.records.Event.{Event}
use Rattle.spp_event.specs.declared.records.Event.TheVariants.{Strand, Call, Spawn, Ret, Sync}
use Rattle.spp_dag.specs.Trace.{event_at, returns, spawns, IsWellFormed, is_spawned}
use Rattle.spp_dag.specs.Dag.{IsSpan}
use Rattle.spp_maxplus.specs.declared.state.State.{State}
use Rattle.spp_dag.proofs.Depth.{closed_at_end}
use Rattle.spp_maxplus.specs.declared.state.Burdens.{Burdens}
use Rattle.spp_maxplus.specs.State.{unburdened, close, after_strand}
use Rattle.spp_dag.specs.declared.stack.OpenFrame.{OpenFrame}
use Rattle.spp_dag.specs.declared.stack.FrameKind.{FrameKind}
use Rattle.spp_dag.specs.declared.stack.FrameKind.TheVariants.{Root, Called, Spawned}
use Rattle.spp_dag.specs.Stack.{after_child, advance, run, root_frame}
use Rattle.spp_dag.proofs.Machine.{Frame, on_return, step, stack, Shape, shape}
use Rattle.spp_dag.proofs.Owner.{return_closes}
use Rattle.spp_dag.proofs.Upper.{returned_called, returned_spawned}
use Rattle.spp_dag.proofs.Span.{root_closes_with_span}

abbrev pub first_of : FrameKind → ℕ → ℕ
first_of Root at = 0
first_of Called at = suc at
first_of Spawned at = suc at

abbrev pub plain_frame : OpenFrame → Frame
plain_frame f = record { first = first_of f.kind f.at; state = f.plain }

abbrev pub burdened_frame : OpenFrame → Frame
burdened_frame f = record { first = first_of f.kind f.at; state = f.burdened }

abbrev spawned_kind : FrameKind → Bool
spawned_kind Root = false
spawned_kind Called = false
spawned_kind Spawned = true

-- the frames' kinds are those of the trace
abbrev Fitting : List Event → List OpenFrame → Type 0
Fitting es [] = Unit {0}
Fitting es (f ∷ fs) = (is_spawned es (first_of f.kind f.at) ≡ spawned_kind f.kind) × Fitting es fs

module _ (es : List Event) (wf : IsWellFormed es) (burdens : Burdens) where
  abbrev P : ℕ → List Frame
  P = stack es 1 (λ _. 0) (λ _. 0)

  abbrev Q : ℕ → List Frame
  Q = stack es 1 (λ _. burdens.continuation) (λ _. burdens.join)

  -- the machine's stack before p is the stack by position, for both burdens
  pub record Same (p : ℕ) (fs : List OpenFrame) : Type 0 where
    pub plain : map plain_frame fs ≡ P p
    pub burdened : map burdened_frame fs ≡ Q p
    pub fitting : Fitting es fs

  pub not_empty : (p : ℕ) → p ≤ length es → Same p [] → ⊥
  not_empty p l h =
      let s = shape es 1 (λ _. 0) (λ _. 0) wf p l in
      let e = h.plain ∙ s.is in
      cc

  strand_once : (n : ℕ) → n ≡ 1 * n
  strand_once n = omega arith

  -- a return stands above another frame, and closes a frame that was opened
  returning : (p : ℕ) (f : Frame) (fs : List Frame) → p < length es → returns (event_at es p) ≡ true → f ∷ fs ≡ P p → (f.first ≡ 0 → ⊥) × (fs ≡ [] → ⊥)
  returning p f fs l t e =
      let s = shape es 1 (λ _. 0) (λ _. 0) wf p (omega arith) in
      let r = return_closes es 1 (λ _. 0) (λ _. 0) wf p s t in
      let g = shape es 1 (λ _. 0) (λ _. 0) wf r.0 (let z = r.1.after in omega arith) in
      let d = e ∙ s.is in
      let x : f ≡ s.top = cc in
      let y : fs ≡ s.rest = cc in
      let b = r.1.below ∙ g.is in (
        (λ z. let k : f.first ≡ s.top.first = ap (λ u. u.first) x in omega (arith, r.1.first)),
        (λ z. let k = sym z ∙ (y ∙ b) in cc),
      )

  -- what the return does to the parent, on either side
  return_state : (own : Burdens) (k : FrameKind) (at first : ℕ) (s t : State) → (first_of k at ≡ 0 → ⊥) → is_spawned es (first_of k at) ≡ spawned_kind k
      → record { first = first; state = after_child own k at (close s) t } ≡ on_return es 1 (λ _. own.continuation) (λ _. own.join) (record { first = first_of k at; state = s }) (record { first = first; state = t })
  return_state own Root at first s t n e = absurd (n refl)
  return_state own Called at first s t n e =
      ap (λ u. record { first = first; state = u }) (sym (returned_called es 1 (λ _. own.continuation) (λ _. own.join) (record { first = suc at; state = s }) (record { first = first; state = t }) e))
  return_state own Spawned at first s t n e =
      ap (λ u. record { first = first; state = u }) (sym (returned_spawned es 1 (λ _. own.continuation) (λ _. own.join) (record { first = suc at; state = s }) (record { first = first; state = t }) e))

  advances : (p : ℕ) (e : Event) (fs : List OpenFrame) → p < length es → event_at es p ≡ Some e → Same p fs → (gs : List OpenFrame) × (advance burdens p e fs ≡ Some gs) × Same (suc p) gs
  advances p e [] l q h = absurd (not_empty p (omega arith) h)
  advances p (Strand n) (f ∷ fs) l q h = (
    _,
    refl,
    record {
      plain = ap (λ k. record { first = first_of f.kind f.at; state = after_strand k f.plain } ∷ map plain_frame fs) (strand_once n) ∙ sym (ap₂ (step es 1 (λ _. 0) (λ _. 0) p) q (sym h.plain));
      burdened = ap (λ k. record { first = first_of f.kind f.at; state = after_strand k f.burdened } ∷ map burdened_frame fs) (strand_once n) ∙ sym (ap₂ (step es 1 (λ _. burdens.continuation) (λ _. burdens.join) p) q (sym h.burdened));
      fitting = h.fitting;
    },
  )
  advances p (Call a u) (f ∷ fs) l q h = (
    _,
    refl,
    record {
      plain = sym (ap₂ (step es 1 (λ _. 0) (λ _. 0) p) q (sym h.plain));
      burdened = sym (ap₂ (step es 1 (λ _. burdens.continuation) (λ _. burdens.join) p) q (sym h.burdened));
      fitting = (ap spawns q, h.fitting);
    },
  )
  advances p (Spawn a u) (f ∷ fs) l q h = (
    _,
    refl,
    record {
      plain = sym (ap₂ (step es 1 (λ _. 0) (λ _. 0) p) q (sym h.plain));
      burdened = sym (ap₂ (step es 1 (λ _. burdens.continuation) (λ _. burdens.join) p) q (sym h.burdened));
      fitting = (ap spawns q, h.fitting);
    },
  )
  advances p Sync (f ∷ fs) l q h = (
    _,
    refl,
    record {
      plain = sym (ap₂ (step es 1 (λ _. 0) (λ _. 0) p) q (sym h.plain));
      burdened = sym (ap₂ (step es 1 (λ _. burdens.continuation) (λ _. burdens.join) p) q (sym h.burdened));
      fitting = h.fitting;
    },
  )
  advances p Ret (f ∷ []) l q h = absurd ((returning p (plain_frame f) [] l (ap returns q) h.plain).1 refl)
  advances p Ret (f ∷ g ∷ fs) l q h =
      let n = (returning p (plain_frame f) (plain_frame g ∷ map plain_frame fs) l (ap returns q) h.plain).0 in (
        _,
        refl,
        record {
          plain = ap (λ x. x ∷ map plain_frame fs) (return_state unburdened f.kind f.at (first_of g.kind g.at) f.plain g.plain n h.fitting.0) ∙ sym (ap₂ (step es 1 (λ _. 0) (λ _. 0) p) q (sym h.plain));
          burdened = ap (λ x. x ∷ map burdened_frame fs) (return_state burdens f.kind f.at (first_of g.kind g.at) f.burdened g.burdened n h.fitting.0) ∙ sym (ap₂ (step es 1 (λ _. burdens.continuation) (λ _. burdens.join) p) q (sym h.burdened));
          fitting = h.fitting.1;
        },
      )

  -- the machine runs through any stretch of the trace
  pub runs : (p : ℕ) (part : List Event) (fs : List OpenFrame) → p + length part ≤ length es → ((k : ℕ) → k < length part → event_at part k ≡ event_at es (p + k)) → Same p fs
      → (gs : List OpenFrame) × (run burdens p part fs ≡ Some gs) × Same (p + length part) gs
  runs p [] fs l e h = (fs, refl, subst (λ k. Same k fs) (let z : p ≡ p + 0 = omega arith in z) h)
  runs p (x ∷ part) fs l e h =
      let q : Some x ≡ event_at es p = e 0 (omega arith) ∙ ap (λ k. event_at es k) (let z : p + 0 ≡ p = omega arith in z) in
      let a = advances p x fs (omega arith) (sym q) h in
      let r = runs (suc p) part a.0 (omega arith) (λ k m. e (suc k) (omega arith) ∙ ap (λ k. event_at es k) (let z : p + suc k ≡ suc p + k = omega arith in z)) a.2 in
      (r.0, rw (a.1, run) r.1, subst (λ k. Same k r.0) (let z : suc p + length part ≡ p + suc (length part) = omega arith in z) r.2)

  alone_at_end : (h : Shape es 1 (λ _. 0) (λ _. 0) (length es)) → h.rest ≡ []
  alone_at_end h = elim h.case [
    | inl r ↦ r.alone
    | inr w ↦ absurd (omega (arith, w.1.level, closed_at_end es wf))
  ]

  abbrev pub Ends : ℕ → Type 0
  Ends func = (f : OpenFrame) × (run burdens 0 es (root_frame func ∷ []) ≡ Some (f ∷ [])) × IsSpan es unburdened (close f.plain) × IsSpan es burdens (close f.burdened)

  end_of : (func : ℕ) (gs : List OpenFrame) → run burdens 0 es (root_frame func ∷ []) ≡ Some gs → Same (length es) gs → Ends func
  end_of func [] e h = absurd (not_empty (length es) (let z : length es ≤ length es = omega arith in z) h)
  end_of func (f ∷ []) e h =
      let l : length es ≤ length es = omega arith in
      let s = shape es 1 (λ _. 0) (λ _. 0) wf (length es) l in
      let t = shape es 1 (λ _. burdens.continuation) (λ _. burdens.join) wf (length es) l in
      let x : plain_frame f ≡ s.top = (let d = h.plain ∙ s.is in cc) in
      let y : burdened_frame f ≡ t.top = (let d = h.burdened ∙ t.is in cc) in
      (f, e, subst (λ k. IsSpan es unburdened (close k.state)) (sym x) (root_closes_with_span es unburdened wf s), subst (λ k. IsSpan es burdens (close k.state)) (sym y) (root_closes_with_span es burdens wf t))
  end_of func (f ∷ g ∷ gs) e h =
      let s = shape es 1 (λ _. 0) (λ _. 0) wf (length es) (let z : length es ≤ length es = omega arith in z) in
      let d = h.plain ∙ s.is in
      let r = alone_at_end s in
      absurd (cc)

  -- at the end the one frame left closes with the span and with the burdened span
  pub ends_with_spans : (func : ℕ) → Ends func
  ends_with_spans func =
      let r = runs 0 es (root_frame func ∷ []) (omega arith) (λ k m. ap (λ x. event_at es x) (let z : k ≡ 0 + k = omega arith in z)) (record { plain = refl; burdened = refl; fitting = (refl, tt) }) in
      end_of func r.0 r.1 (subst (λ k. Same k r.0) (let z : 0 + length es ≡ length es = omega arith in z) r.2)
