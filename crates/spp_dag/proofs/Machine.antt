-- The stack as a function of the position, for any scale of the weights and any burdens of each spawn.
use Rattle.std.proofs.Common.{◌≡◌, ℕ, zero, suc, pred, ◌*◌, ◌≤◌, ◌<◌, true, false, refl, arith, ◌∙◌, ap, ap₂, subst, ◌⊎◌, inl, inr, List, [], ◌∷◌, length, Option, Some, None}
use Rattle.std.proofs.lemmas.Bool.{cases_lt, both_ways}
use Rattle.spp_event.specs.declared.records.Event.{Event}
use Rattle.spp_event.specs.declared.records.Event.TheVariants.{Strand, Call, Spawn, Ret, Sync}
use Rattle.spp_dag.specs.Trace.{event_at, opens, returns, depth, IsWellFormed, partner, is_spawned}
use Rattle.spp_maxplus.specs.declared.state.Burdens.{Burdens}
use Rattle.spp_maxplus.specs.declared.state.State.{State}
use Rattle.spp_maxplus.specs.State.{start, close, after_sync, after_spawn, after_call, after_strand}
use Rattle.spp_dag.proofs.Depth.{open_at_return, deeper, closed, opens_not_returns, slice_get_no, depth-opens, depth-returns, depth-same, partner_spec}

-- an open frame by its first position, and its state
pub record Frame : Type 0 where
  pub first : ℕ
  pub state : State

abbrev pub new_frame : ℕ → Frame
new_frame p = record { first = suc p; state = start }

abbrev pub on_strand : ℕ → Frame → Frame
on_strand n f = record { first = f.first; state = after_strand n f.state }

abbrev pub on_sync : Frame → Frame
on_sync f = record { first = f.first; state = after_sync f.state }

module _ (es : List Event) (scale : ℕ) (go back : ℕ → ℕ) where
  -- what the edges of the spawn at s bear
  abbrev pub at_spawn : ℕ → Burdens
  at_spawn s = record { continuation = go s; join = back s }

  -- the frame g, to which its child f returned
  abbrev pub on_return : Frame → Frame → Frame
  on_return f g = record {
    first = g.first;
    state = elim (is_spawned es f.first) [
      | true ↦ after_spawn (pred f.first) (close f.state) (at_spawn (pred f.first)) g.state
      | false ↦ after_call (close f.state) g.state
    ];
  }

  abbrev pub step : ℕ → Option Event → List Frame → List Frame
  step p None fs = fs
  step p (Some (Strand n)) [] = []
  step p (Some (Strand n)) (f ∷ fs) = on_strand (scale * n) f ∷ fs
  step p (Some (Call s u)) fs = new_frame p ∷ fs
  step p (Some (Spawn s u)) fs = new_frame p ∷ fs
  step p (Some Ret) [] = []
  step p (Some Ret) (f ∷ []) = f ∷ []
  step p (Some Ret) (f ∷ g ∷ fs) = on_return f g ∷ fs
  step p (Some Sync) [] = []
  step p (Some Sync) (f ∷ fs) = on_sync f ∷ fs

  -- the stack before the event at p, innermost frame first
  abbrev pub stack : ℕ → List Frame
  stack zero = record { first = 0; state = start } ∷ []
  stack (suc p) = step p (event_at es p) (stack p)

  -- the innermost frame is the root, alone on the stack
  pub record AtRoot (p : ℕ) (top : Frame) (rest : List Frame) : Type 0 where
    pub first : top.first ≡ 0
    pub alone : rest ≡ []
    pub level : depth es p ≡ 0

  -- the innermost frame was opened at o; below it the stack is that before o
  pub record Opened (p : ℕ) (top : Frame) (rest : List Frame) (o : ℕ) : Type 0 where
    pub first : top.first ≡ suc o
    pub opened : opens (event_at es o) ≡ true
    pub after : o < p
    pub within : p ≤ partner es o
    pub level : depth es p ≡ suc (depth es o)
    pub below : rest ≡ stack o

  pub record Shape (p : ℕ) : Type 0 where
    pub top : Frame
    pub rest : List Frame
    pub is : stack p ≡ top ∷ rest
    pub case : AtRoot p top rest ⊎ ((o : ℕ) × Opened p top rest o)

  shape_same : (wf : IsWellFormed es) (p : ℕ) (h : Shape p) (new : Frame) → opens (event_at es p) ≡ false → returns (event_at es p) ≡ false → new.first ≡ h.top.first → stack (suc p) ≡ new ∷ h.rest → Shape (suc p)
  shape_same wf p h new n m f e =
      let d = depth-same es wf p n m in
      record {
        top = new;
        rest = h.rest;
        is = e;
        case = elim h.case [
          | inl r ↦ inl (record { first = f ∙ r.first; alone = r.alone; level = d ∙ r.level })
          | inr w ↦
              let r = w.1 in
              let c = closed es wf w.0 r.opened in
              let apart : partner es w.0 ≡ p → ⊥ = λ q. both_ways (returns (event_at es p)) m (subst (λ x. returns (event_at es x) ≡ true) q c.return) in
              inr (
                w.0,
                record {
                  first = f ∙ r.first;
                  opened = r.opened;
                  after = (let z = r.after in omega arith);
                  within = (let z = r.within in omega (arith, apart));
                  level = d ∙ r.level;
                  below = r.below;
                },
              )
        ];
      }

  shape_opens : (wf : IsWellFormed es) (p : ℕ) → p < length es → opens (event_at es p) ≡ true → stack (suc p) ≡ new_frame p ∷ stack p → Shape (suc p)
  shape_opens wf p l t e =
      let spec = partner_spec es p l in
      record {
        top = new_frame p;
        rest = stack p;
        is = e;
        case = inr (
          p,
          record {
            first = refl;
            opened = t;
            after = omega arith;
            within = spec.lower;
            level = depth-opens es wf p t;
            below = refl;
          },
        );
      }

  -- a frame outlives the frames in it
  outlives : (wf : IsWellFormed es) (o p k : ℕ) (top : Frame) (rest : List Frame) → Opened o top rest k → opens (event_at es o) ≡ true → p ≤ partner es o → p < partner es k
  outlives wf o p k top rest g t a =
      let c = closed es wf k g.opened in
      elim (cases_lt p (partner es k)) [
        | inl l ↦ l
        | inr l ↦
            let apart : partner es k ≡ o → ⊥ = λ q. both_ways (returns (event_at es o)) (opens_not_returns (event_at es o) t) (subst (λ x. returns (event_at es x) ≡ true) q c.return) in
            let w : o ≤ partner es k = g.within in
            let d = deeper es wf o (partner es k) t (omega (arith, apart)) (omega arith) in
            absurd (omega (arith, g.level, c.depth_at))
      ]

  shape_returns : (wf : IsWellFormed es) (p : ℕ) (h : Shape p) → returns (event_at es p) ≡ true
      → ((o : ℕ) → o < p → Shape o)
      → ((g : Frame) (rest : List Frame) → h.rest ≡ g ∷ rest → stack (suc p) ≡ on_return h.top g ∷ rest)
      → Shape (suc p)
  shape_returns wf p h t below e =
      elim h.case [
        | inl r ↦ absurd (let room : 0 < depth es p = open_at_return es wf p t in omega (arith, r.level))
        | inr w ↦
            let r = w.1 in
            let g = below w.0 r.after in
            let d = depth-returns es wf p t in
            let level : depth es (suc p) ≡ depth es w.0 = omega (arith, r.level) in
            record {
              top = on_return h.top g.top;
              rest = g.rest;
              is = e g.top g.rest (r.below ∙ g.is);
              case = elim g.case [
                | inl s ↦ inl (record { first = s.first; alone = s.alone; level = level ∙ s.level })
                | inr v ↦
                    let s = v.1 in
                    inr (
                      v.0,
                      record {
                        first = s.first;
                        opened = s.opened;
                        after = (let a = s.after in let b = r.after in omega arith);
                        within = outlives wf w.0 p v.0 g.top g.rest s r.opened r.within;
                        level = level ∙ s.level;
                        below = s.below;
                      },
                    )
              ];
            }
      ]

  shape_step : (wf : IsWellFormed es) (p : ℕ) → p < length es → (e : Option Event) → event_at es p ≡ e → Shape p → ((o : ℕ) → o < p → Shape o) → Shape (suc p)
  shape_step wf p l None q h below = absurd (let z = slice_get_no es p l q in z)
  shape_step wf p l (Some (Strand n)) q h below =
      shape_same wf p h (on_strand (scale * n) h.top) (ap opens q) (ap returns q) refl (ap₂ (step p) q h.is)
  shape_step wf p l (Some (Call s u)) q h below =
      shape_opens wf p l (ap opens q) (ap (λ e. step p e (stack p)) q)
  shape_step wf p l (Some (Spawn s u)) q h below =
      shape_opens wf p l (ap opens q) (ap (λ e. step p e (stack p)) q)
  shape_step wf p l (Some Ret) q h below =
      shape_returns wf p h (ap returns q) below (λ g rest r. ap₂ (step p) q (h.is ∙ ap (λ x. h.top ∷ x) r))
  shape_step wf p l (Some Sync) q h below =
      shape_same wf p h (on_sync h.top) (ap opens q) (ap returns q) refl (ap₂ (step p) q h.is)

  shape_below : (wf : IsWellFormed es) (n p : ℕ) → p < n → p ≤ length es → Shape p
  shape_below wf zero p a b = absurd (omega arith)
  shape_below wf (suc n) zero a b = record {
    top = record { first = 0; state = start };
    rest = [];
    is = refl;
    case = inl (record { first = refl; alone = refl; level = refl });
  }
  shape_below wf (suc n) (suc p) a b =
      shape_step wf p b (event_at es p) refl (shape_below wf n p (omega arith) (omega arith)) (λ o l. shape_below wf n o (omega arith) (omega arith))

  -- before each event the stack has this shape
  pub shape : (wf : IsWellFormed es) (p : ℕ) → p ≤ length es → Shape p
  shape wf p l = shape_below wf (suc p) p (omega arith) l
