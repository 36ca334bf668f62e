-- A summary acts on an entry as its events do one by one.
use Rattle.std.proofs.Common.{◌≡◌, ℕ, ◌+◌, List, [], ◌∷◌, Some, Ok, refl, sym, ap, ap₂, ◌∙◌, arith}
use Rattle.spp_maxplus.specs.declared.state.Burdens.{Burdens}
use Rattle.spp_maxplus.specs.declared.state.State.{State}
use Rattle.spp_maxplus.specs.Seg as seg
use Rattle.spp_maxplus.specs.State.{close}
use Rattle.spp_maxplus.proofs.SegLaws as one
use Rattle.spp_event.specs.declared.records.Event.{Event}
use Rattle.spp_event.specs.declared.records.Event.TheVariants.{Strand, Call, Spawn, Ret, Sync}
use Rattle.spp_dag.specs.declared.stack.EntryFrame.{EntryFrame}
use Rattle.spp_dag.specs.declared.stack.FrameKind.TheVariants as kind
use Rattle.spp_dag.specs.Trace.{weight_of}
use Rattle.spp_dag.specs.Stack.{after_child}
use Rattle.spp_dag.specs.Steps.{opened, entry_after}
use Rattle.spp_piece.specs.declared.pieces.Frame.{Frame}
use Rattle.spp_maxplus.specs.declared.child.ChildKind.{ChildKind}
use Rattle.spp_maxplus.specs.declared.child.ChildKind.TheVariants.{Called, Spawned}
use Rattle.spp_piece.specs.declared.segs.Segs.{Segs}
use Rattle.spp_piece.specs.Pair.{act, free, idle, then, fed}
use Rattle.spp_piece.specs.Stack.{with_states}
use Rattle.spp_piece.specs.Model.{kind_of}
use Rattle.spp_piece.specs.Machine.{event}
use Rattle.spp_piece.specs.Summary.{later}
use Rattle.spp_piece.proofs.Play.{Laws}
use Rattle.spp_stack.specs.Machine.{Now, now, along_by, ret_by, push_by, worked_by, entered, entry_ops, IsOpen}

-- the frame with these states
abbrev stated : EntryFrame → List EntryFrame → ℕ → State → State → Now
stated f fs w s t = now (record f { state = s; burdened = t } ∷ fs) w

idle_by : (fs : List EntryFrame) (w : ℕ) → along_by fs idle w ≡ now fs w
idle_by [] w = refl
idle_by (f ∷ fs) w = ap₂ (stated f fs w) (one.act_idle f.state) (one.act_idle f.burdened)

then_by : (a b : Segs) (fs : List EntryFrame) (w : ℕ) → along_by fs (then a b) w ≡ along_by (along_by fs a w).frames b (along_by fs a w).work
then_by a b [] w = refl
then_by a b (f ∷ fs) w = ap₂ (stated f fs w) (one.act-then a.plain b.plain f.state) (one.act-then a.burdened b.burdened f.burdened)

along_push : (g : Segs) (f : Frame) (fs : List EntryFrame) (w : ℕ)
    → along_by (push_by fs f w).frames g (push_by fs f w).work ≡ push_by fs (with_states (act g f.states) f) w
along_push g f [] w = refl
along_push g f (e ∷ es) w = refl

fed_one : (k : ChildKind) (burdens : Burdens) (at g : ℕ) (s : State) → after_child burdens (kind_of k) at g s ≡ seg.act (seg.received burdens k at g) s
fed_one Called burdens at g s = sym (one.act-call g s)
fed_one Spawned burdens at g s = sym (one.act-spawn at g burdens s)

ret_push : (burdens : Burdens) (f : Frame) (fs : List EntryFrame) (w : ℕ) → ret_by burdens (push_by fs f w).frames (push_by fs f w).work ≡ along_by fs (fed burdens f) w
ret_push burdens f [] w = refl
ret_push burdens f (e ∷ es) w =
    ap₂ (stated e es w) (fed_one f.kind free f.at (close f.states.plain) e.state) (fed_one f.kind burdens f.at (close f.states.burdened) e.burdened)

no_work : (fs : List EntryFrame) (w : ℕ) → worked_by fs 0 w ≡ now fs w
no_work [] w = refl
no_work (f ∷ fs) w = ap (λ n. now (f ∷ fs) n) (let z : w + 0 ≡ w = omega arith in z)

worked_worked : (m n : ℕ) (fs : List EntryFrame) (w : ℕ) → worked_by (worked_by fs m w).frames n (worked_by fs m w).work ≡ worked_by fs (m + n) w
worked_worked m n [] w = refl
worked_worked m n (f ∷ fs) w = ap (λ k. now (f ∷ fs) k) (let z : w + m + n ≡ w + (m + n) = omega arith in z)

along_worked : (g : Segs) (n : ℕ) (fs : List EntryFrame) (w : ℕ)
    → along_by (worked_by fs n w).frames g (worked_by fs n w).work ≡ worked_by (along_by fs g w).frames n (along_by fs g w).work
along_worked g n [] w = refl
along_worked g n (f ∷ fs) w = refl

ret_worked : (burdens : Burdens) (n : ℕ) (fs : List EntryFrame) (w : ℕ)
    → ret_by burdens (worked_by fs n w).frames (worked_by fs n w).work ≡ worked_by (ret_by burdens fs w).frames n (ret_by burdens fs w).work
ret_worked burdens n [] w = refl
ret_worked burdens n (f ∷ []) w = refl
ret_worked burdens n (f ∷ g ∷ fs) w = refl

push_worked : (f : Frame) (n : ℕ) (fs : List EntryFrame) (w : ℕ)
    → push_by (worked_by fs n w).frames f (worked_by fs n w).work ≡ worked_by (push_by fs (later n f) w).frames n (push_by fs (later n f) w).work
push_worked f n [] w = refl
push_worked f n (e ∷ es) w =
    ap (λ k. now (record (entered f (e ∷ es) e es w) { before = k } ∷ e ∷ es) (w + n)) (let z : w + n + f.before ≡ w + (n + f.before) = omega arith in z)

pub entry_laws : (burdens : Burdens) → Laws burdens (entry_ops burdens)
entry_laws burdens = record {
  idle = λ x. idle_by x.frames x.work;
  then = λ a b x. then_by a b x.frames x.work;
  along-push = λ g f x. along_push g f x.frames x.work;
  ret-push = λ at f x. ret_push burdens f x.frames x.work;
  no_work = λ x. no_work x.frames x.work;
  worked-worked = λ m n x. worked_worked m n x.frames x.work;
  along-worked = λ g n x. along_worked g n x.frames x.work;
  ret-worked = λ at n x. ret_worked burdens n x.frames x.work;
  push-worked = λ f n x. push_worked f n x.frames x.work;
  along-fail = λ g q x. refl;
  ret-fail = λ at q x. refl;
  push-fail = λ f q x. refl;
  worked-fail = λ n q x. refl;
  fail-fail = λ p q x. refl;
}

-- ---- an event

plus_zero : (w : ℕ) → w + 0 ≡ w
plus_zero w = omega arith

pub step_is : (burdens : Burdens) (at : ℕ) (e : Event) (fs : List EntryFrame) (w : ℕ) → IsOpen (entry_after burdens at e w fs)
    → event (entry_ops burdens) at (Ok e) (now fs w) ≡ now (entry_after burdens at e w fs) (w + weight_of (Some e))
step_is burdens at e [] w h = absurd h
step_is burdens at (Strand n) (f ∷ fs) w h = ap₂ (stated f fs (w + n)) (one.act-strand n f.state) (one.act-strand n f.burdened)
step_is burdens at (Call site func) (f ∷ fs) w h =
    ap (λ b. now (record (opened kind.Called at site func w f fs) { before = b } ∷ f ∷ fs) w) (plus_zero w)
    ∙ ap (λ k. now (opened kind.Called at site func w f fs ∷ f ∷ fs) k) (sym (plus_zero w))
step_is burdens at (Spawn site func) (f ∷ fs) w h =
    ap (λ b. now (record (opened kind.Spawned at site func w f fs) { before = b } ∷ f ∷ fs) w) (plus_zero w)
    ∙ ap (λ k. now (opened kind.Spawned at site func w f fs ∷ f ∷ fs) k) (sym (plus_zero w))
step_is burdens at Sync (f ∷ fs) w h =
    ap₂ (stated f fs w) (one.act-sync f.state) (one.act-sync f.burdened)
    ∙ ap (λ k. now (entry_after burdens at Sync w (f ∷ fs)) k) (sym (plus_zero w))
step_is burdens at Ret (f ∷ []) w h = absurd h
step_is burdens at Ret (f ∷ g ∷ fs) w h = ap (λ k. now (entry_after burdens at Ret w (f ∷ g ∷ fs)) k) (sym (plus_zero w))
