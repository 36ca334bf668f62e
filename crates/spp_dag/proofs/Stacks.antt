-- What the machine's stack says before an event: the spans and the children of the frame on top.
use Rattle.std.proofs.Common.{◌≡◌, ℕ, zero, suc, ◌+◌, ◌≤◌, ◌<◌, refl, arith, sym, ◌∙◌, ap, subst, inl, inr, List, [], ◌∷◌, length, map, take, Some, length-take}
use Rattle.std.proofs.lemmas.List.{length-map}
use Rattle.spp_event.specs.declared.records.Event.{Event}
use Rattle.spp_maxplus.specs.declared.state.Burdens.{Burdens}
use Rattle.spp_maxplus.specs.State.{unburdened, close, taken}
use Rattle.spp_dag.specs.declared.stack.OpenFrame.{OpenFrame}
use Rattle.spp_dag.specs.Trace.{event_at, depth, owner, join, closing, IsWellFormed}
use Rattle.spp_dag.specs.Dag.{IsGreatest}
use Rattle.spp_dag.specs.Stack.{run, root_frame}
use Rattle.spp_dag.specs.Laws.{HasStack, HasTop, Waits, StackStands, MachineGivesSpans, FramesGiveSpans, WaitsGiveSpans, PathEntersTaken, PathTakesChild, TakenJoins}
use Rattle.spp_dag.proofs.Machine.{stack, Shape, shape}
use Rattle.spp_dag.proofs.Owner.{owner_is}
use Rattle.spp_dag.proofs.Upper.{spawns_opens}
use Rattle.spp_dag.proofs.Crossing.{join_spec}
use Rattle.spp_dag.proofs.Span.{greatest_at, walk_of, trail_of, closes_with_greatest}
use Rattle.spp_dag.proofs.Ties.{closing_inside}
use Rattle.spp_dag.proofs.PathLaws.{path_enters, path_takes, taken_joins}
use Rattle.spp_dag.proofs.Runs.{Same, runs, not_empty, plain_frame, burdened_frame, ends_with_spans}

event_in_take : (es : List Event) (k i : ℕ) → i < length (take k es) → event_at (take k es) i ≡ event_at es i
event_in_take es zero i l = absurd (omega arith)
event_in_take [] (suc k) i l = refl
event_in_take (e ∷ es) (suc k) zero l = refl
event_in_take (e ∷ es) (suc k) (suc i) l = event_in_take es k i (omega arith)

-- the stack by position is as deep as the trace says
deep_below : (es : List Event) (wf : IsWellFormed es) (go back : ℕ → ℕ) (n p : ℕ) → p < n → p ≤ length es → length (stack es 1 go back p) ≡ suc (depth es p)
deep_below es wf go back zero p l m = absurd (omega arith)
deep_below es wf go back (suc n) p l m =
    let h = shape es 1 go back wf p m in
    let e : length (stack es 1 go back p) ≡ suc (length h.rest) = ap (λ fs. length fs) h.is in
    elim h.case [
      | inl r ↦ (let a : length h.rest ≡ 0 = ap (λ fs. length fs) r.alone in omega (arith, r.level))
      | inr w ↦
          let b : w.0 < p = w.1.after in
          let a : length h.rest ≡ length (stack es 1 go back w.0) = ap (λ fs. length fs) w.1.below in
          let d = deep_below es wf go back n w.0 (omega arith) (omega arith) in
          omega (arith, w.1.level)
    ]

module _ (es : List Event) (wf : IsWellFormed es) (burdens : Burdens) where
  abbrev PlainShape : ℕ → Type 0
  PlainShape = Shape es 1 (λ _. 0) (λ _. 0)

  abbrev BurdenedShape : ℕ → Type 0
  BurdenedShape = Shape es 1 (λ _. burdens.continuation) (λ _. burdens.join)

  -- the run as far as k
  run_to : (func k : ℕ) → k ≤ length es → (fs : List OpenFrame) × (run burdens 0 (take k es) (root_frame func ∷ []) ≡ Some fs) × Same es wf burdens k fs
  run_to func k l =
      let len : length (take k es) ≡ k = simp length-take (omega arith) in
      let r = runs es wf burdens 0 (take k es) (root_frame func ∷ []) (omega arith)
      (λ i m. event_in_take es k i m ∙ ap (λ x. event_at es x) (let z : i ≡ 0 + i = omega arith in z)) (record { plain = refl; burdened = refl; fitting = (refl, tt) }) in
      (r.0, r.1, subst (λ x. Same es wf burdens x r.0) (let z : 0 + length (take k es) ≡ k = omega arith in z) r.2)

  pub same_stack : (k : ℕ) → k ≤ length es → (fs : List OpenFrame) → HasStack es burdens k fs → Same es wf burdens k fs
  same_stack k l fs t =
      let r = run_to t.0 k l in
      let e : Some fs ≡ Some r.0 = sym t.1 ∙ r.1 in
      subst (λ gs. Same es wf burdens k gs) (let g : r.0 ≡ fs = cc in g) r.2

  -- the machine's top is that of the stack by position
  pub plain_top : (k : ℕ) → k ≤ length es → (f : OpenFrame) → HasTop es burdens k f → (h : PlainShape k) → plain_frame f ≡ h.top
  plain_top k l f t h =
      let s = same_stack k l (f ∷ t.0) t.1 in
      let d = s.plain ∙ h.is in
      cc

  pub burdened_top : (k : ℕ) → k ≤ length es → (f : OpenFrame) → HasTop es burdens k f → (h : BurdenedShape k) → burdened_frame f ≡ h.top
  burdened_top k l f t h =
      let s = same_stack k l (f ∷ t.0) t.1 in
      let d = s.burdened ∙ h.is in
      cc

-- where a frame waits: the greatest weight of a walk from its first position
waits_with_greatest : (es : List Event) (burdens : Burdens) (wf : IsWellFormed es) (k : ℕ) → Waits es k
    → (h : Shape es 1 (λ _. burdens.continuation) (λ _. burdens.join) k) → IsGreatest es burdens (owner es k) k (close h.top.state)
waits_with_greatest es burdens wf k n h =
    let co : ℕ → ℕ = λ _. burdens.continuation in
    let re : ℕ → ℕ = λ _. burdens.join in
    let g = greatest_at es 1 co re wf (λ _. 0) re (λ s. let z : burdens.join ≡ 0 + burdens.join = omega arith in z) k n.0 n.1 h in
    subst (λ f. IsGreatest es burdens f k (close h.top.state)) (sym (owner_is es 1 co re wf k h))
    ((g.0.0, walk_of es burdens h.top.first k (close h.top.state) g.0.0 g.0.1), λ rest v s. g.1 rest v (trail_of es burdens h.top.first k v rest s))

pub stack_stands : StackStands
stack_stands es wf burdens func k l =
    let r = run_to es wf burdens func k l in
    top r.0 r.1 r.2
  where
    top : (fs : List OpenFrame) → run burdens 0 (take k es) (root_frame func ∷ []) ≡ Some fs → Same es wf burdens k fs
        → (f : OpenFrame) × (gs : List OpenFrame) × (run burdens 0 (take k es) (root_frame func ∷ []) ≡ Some (f ∷ gs)) × (length gs ≡ depth es k)
    top [] e s = absurd (not_empty es wf burdens k l s)
    top (f ∷ fs) e s =
        let a : length (map plain_frame (f ∷ fs)) ≡ length (f ∷ fs) = length-map (f ∷ fs) plain_frame in
        let b : length (map plain_frame (f ∷ fs)) ≡ length (stack es 1 (λ _. 0) (λ _. 0) k) = ap (λ gs. length gs) s.plain in
        let d = deep_below es wf (λ _. 0) (λ _. 0) (suc k) k (omega arith) l in
        (f, fs, e, omega arith)

pub machine_gives_spans : MachineGivesSpans
machine_gives_spans es wf burdens func = ends_with_spans es wf burdens func

pub waits_give_spans : WaitsGiveSpans
waits_give_spans es wf burdens k n f t =
    let h = shape es 1 (λ _. 0) (λ _. 0) wf k n.0 in
    let g = shape es 1 (λ _. burdens.continuation) (λ _. burdens.join) wf k n.0 in (
      subst (λ x. IsGreatest es unburdened (owner es k) k (close x.state)) (sym (plain_top es wf burdens k n.0 f t h)) (waits_with_greatest es unburdened wf k n h),
      subst (λ x. IsGreatest es burdens (owner es k) k (close x.state)) (sym (burdened_top es wf burdens k n.0 f t g)) (waits_with_greatest es burdens wf k n g),
    )

pub frames_give_spans : FramesGiveSpans
frames_give_spans es wf burdens f is top t =
    let l = closing_inside es wf 0 0 f is in
    let h = shape es 1 (λ _. 0) (λ _. 0) wf (closing es f) l in
    let g = shape es 1 (λ _. burdens.continuation) (λ _. burdens.join) wf (closing es f) l in (
      subst (λ x. IsGreatest es unburdened f (closing es f) (close x.state)) (sym (plain_top es wf burdens (closing es f) l top t h)) (closes_with_greatest es unburdened wf f is h),
      subst (λ x. IsGreatest es burdens f (closing es f) (close x.state)) (sym (burdened_top es wf burdens (closing es f) l top t g)) (closes_with_greatest es burdens wf f is g),
    )

pub path_enters_taken : PathEntersTaken
path_enters_taken es wf burdens s t f top =
    let spec = join_spec es wf s (spawns_opens (event_at es s) t) in
    let h = shape es 1 (λ _. 0) (λ _. 0) wf (join es s) spec.upper in
    let g = shape es 1 (λ _. burdens.continuation) (λ _. burdens.join) wf (join es s) spec.upper in
    let e : taken f.plain ≡ taken h.top.state = ap (λ x. taken x.state) (plain_top es wf burdens (join es s) spec.upper f top h) in
    let d : taken f.burdened ≡ taken g.top.state = ap (λ x. taken x.state) (burdened_top es wf burdens (join es s) spec.upper f top g) in (
      λ ps p.
          let law = path_enters es wf unburdened ps p s t h in
          (λ on. let r = law.0 on in (r.0, e ∙ r.1), λ both. law.1 (both.0, sym e ∙ both.1)),
      λ ps p.
          let law = path_enters es wf burdens ps p s t g in
          (λ on. let r = law.0 on in (r.0, d ∙ r.1), λ both. law.1 (both.0, sym d ∙ both.1)),
    )

pub path_takes_child : PathTakesChild
path_takes_child es wf burdens k n f top s t j =
    let h = shape es 1 (λ _. 0) (λ _. 0) wf k n.0 in
    let g = shape es 1 (λ _. burdens.continuation) (λ _. burdens.join) wf k n.0 in
    let e : taken f.plain ≡ taken h.top.state = ap (λ x. taken x.state) (plain_top es wf burdens k n.0 f top h) in
    let d : taken f.burdened ≡ taken g.top.state = ap (λ x. taken x.state) (burdened_top es wf burdens k n.0 f top g) in (
      λ qs p. let law = path_takes es wf unburdened k n.0 n.1 h qs p s t j in (λ on. e ∙ law.0 on, λ tk. law.1 (sym e ∙ tk)),
      λ qs p. let law = path_takes es wf burdens k n.0 n.1 g qs p s t j in (λ on. d ∙ law.0 on, λ tk. law.1 (sym d ∙ tk)),
    )

pub taken_join : TakenJoins
taken_join es wf burdens k n f top s =
    let h = shape es 1 (λ _. 0) (λ _. 0) wf k n.0 in
    let g = shape es 1 (λ _. burdens.continuation) (λ _. burdens.join) wf k n.0 in
    let e : taken f.plain ≡ taken h.top.state = ap (λ x. taken x.state) (plain_top es wf burdens k n.0 f top h) in
    let d : taken f.burdened ≡ taken g.top.state = ap (λ x. taken x.state) (burdened_top es wf burdens k n.0 f top g) in
    (λ t. taken_joins es wf unburdened k n.0 n.1 h s (sym e ∙ t), λ t. taken_joins es wf burdens k n.0 n.1 g s (sym d ∙ t))
