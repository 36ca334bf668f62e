-- The pass has the weights of the frames that the machine has open.
use Rattle.std.proofs.Common.{◌≡◌, ℕ, suc, ◌+◌, ◌<◌, ◌≤◌, ◌^◌, List, [], ◌∷◌, length, map, take, Option, Some, None, refl, sym, ap, subst, ◌∙◌, arith}
use Rattle.spp_event.specs.declared.records.Event.{Event}
use Rattle.spp_event.specs.declared.records.Event.TheVariants.{Strand, Call, Spawn, Ret, Sync}
use Rattle.spp_maxplus.specs.declared.state.Burdens.{Burdens}
use Rattle.spp_maxplus.specs.declared.state.State.{State}
use Rattle.spp_maxplus.specs.declared.weights.Weights.{Weights}
use Rattle.spp_maxplus.specs.declared.child.ChildKind.TheVariants as child
use Rattle.spp_maxplus.specs.Candidate.{greatest}
use Rattle.spp_maxplus.specs.State as state
use Rattle.spp_maxplus.specs.State.{unburdened}
use Rattle.spp_maxplus.specs.Weights.{weights_of, close}
use Rattle.spp_maxplus.proofs.WeightsOf.{close_kept, sync_kept, child_kept}
use Rattle.spp_dag.specs.declared.stack.EntryFrame.{EntryFrame}
use Rattle.spp_dag.specs.declared.stack.OpenFrame.{OpenFrame}
use Rattle.spp_dag.specs.declared.stack.FrameKind.{FrameKind}
use Rattle.spp_dag.specs.declared.stack.FrameKind.TheVariants.{Root, Called, Spawned}
use Rattle.spp_dag.specs.Trace.{event_at, weight, IsWellFormed}
use Rattle.spp_dag.specs.Limits.{IsSmall, plain_sum}
use Rattle.spp_dag.specs.Stack.{after_child, run, root_frame}
use Rattle.spp_dag.specs.Choices.{IsEntry, entry_frame}
use Rattle.spp_dag.specs.Steps.{entry_after}
use Rattle.spp_dag.proofs.Bounds.{closes_of, stack_fits}
use Rattle.spp_dag.proofs.Depth.{inside}
use Rattle.spp_dag.proofs.Entries.{entry_is_one}
use Rattle.spp_dag.proofs.Runs.{plain_frame}
use Rattle.spp_dag.proofs.Stacks.{same_stack, stack_stands}
use Rattle.spp_dag.proofs.Steps.{entry_follows}
use Rattle.spp_dag.proofs.StepsFrames.{run_next}
use Rattle.spp_path.specs.declared.spans.OpenSpan.{OpenSpan}
use Rattle.spp_path.specs.Outside.{entered_span}
use Rattle.spp_path.specs.Spans.{OnTop, OnBelow, CanRun, CanReturn, strand_spans, sync_spans, open_spans, returned_weights, return_spans}

-- the weight with which the innermost frame closes
abbrev pub top_close : List OpenSpan → ℕ
top_close [] = 0
top_close (f ∷ fs) = close f.weights

-- what an event does to the weights
abbrev pub after_event : Event → List OpenSpan → List OpenSpan
after_event (Strand n) s = strand_spans n s
after_event (Call site func) s = open_spans Called s
after_event (Spawn site func) s = open_spans Spawned s
after_event Ret s = return_spans (top_close s) s
after_event Sync s = sync_spans s

-- before the event at i the machine has these frames open
pub record Standing (es : List Event) (root : ℕ) (eb : Burdens) (i : ℕ) (s : List OpenSpan) : Type 0 where
  pub frames : List EntryFrame
  pub work : ℕ
  pub entry : IsEntry es eb root i frames work
  pub are : s ≡ map entered_span frames

-- the innermost frame of the machine closes with that span
abbrev pub ClosesIn : List Event → ℕ → Burdens → ℕ → ℕ → Type 0
ClosesIn es root eb i v = (f : EntryFrame) (fs : List EntryFrame) (w : ℕ) → IsEntry es eb root i (f ∷ fs) w → state.close f.state ≡ v

-- ---- one event

returned_kept : (kind : FrameKind) (at n : ℕ) (s : State) → returned_weights kind n (weights_of s) ≡ weights_of (after_child unburdened kind at n s)
returned_kept Root at n s = refl
returned_kept Called at n s = refl
returned_kept Spawned at n s = child_kept unburdened child.Spawned at n s

event_kept : (eb : Burdens) (i : ℕ) (e : Event) (w : ℕ) (f : EntryFrame) (fs : List EntryFrame) → after_event e (map entered_span (f ∷ fs)) ≡ map entered_span (entry_after eb i e w (f ∷ fs))
event_kept eb i (Strand n) w f fs = refl
event_kept eb i (Call site func) w f fs = refl
event_kept eb i (Spawn site func) w f fs = refl
event_kept eb i Sync w f fs = ap (λ (v : Weights). let s : OpenSpan = record { weights = v; kind = f.kind } in s ∷ map entered_span fs) (sync_kept f.state)
event_kept eb i Ret w f [] = refl
event_kept eb i Ret w f (g ∷ fs) =
    ap (λ (v : Weights). let s : OpenSpan = record { weights = v; kind = g.kind } in s ∷ map entered_span fs)
    (ap (λ n. returned_weights f.kind n (weights_of g.state)) (close_kept f.state) ∙ returned_kept f.kind f.at (state.close f.state) g.state)

sum_is : (os : List OpenFrame) → closes_of (map plain_frame os) ≡ plain_sum os
sum_is [] = refl
sum_is (o ∷ os) = ap (λ n. state.close o.plain + n) (sum_is os)

module _ (es : List Event) (wf : IsWellFormed es) (root : ℕ) (eb : Burdens) (i : ℕ) where
  -- some frame is open
  pub first_open : (fs : List EntryFrame) (w : ℕ) → i ≤ length es → IsEntry es eb root i fs w → (f : EntryFrame) × (gs : List EntryFrame) × (fs ≡ f ∷ gs)
  first_open fs w l at =
      let s = stack_stands es wf eb root i l in
      let same : Some at.0 ≡ Some (s.0 ∷ s.1) = sym at.1 ∙ s.2 in
      let one : at.0 ≡ s.0 ∷ s.1 = cc in
      (entry_frame es root s.0, map (entry_frame es root) s.1, at.2 ∙ ap (λ (os : List OpenFrame). map (entry_frame es root) os) one)

  -- two are open where the innermost returns
  pub two_open : (fs : List EntryFrame) (w : ℕ) → event_at es i ≡ Some Ret → IsEntry es eb root i fs w → (f g : EntryFrame) × (gs : List EntryFrame) × (fs ≡ f ∷ g ∷ gs)
  two_open fs w is at = by at.0 at.1 at.2
    where
      l : suc i ≤ length es
      l = inside es i Ret is

      by : (os : List OpenFrame) → run eb 0 (take i es) (root_frame root ∷ []) ≡ Some os → fs ≡ map (entry_frame es root) os → (f g : EntryFrame) × (gs : List EntryFrame) × (fs ≡ f ∷ g ∷ gs)
      by [] r e =
          let s = stack_stands es wf eb root i (let z = l in omega arith) in
          let same : Some [] ≡ Some (s.0 ∷ s.1) = sym r ∙ s.2 in
          absurd cc
      by (o ∷ []) r e =
          let a = run_next es eb root i Ret is (o ∷ []) r in
          let b = stack_stands es wf eb root (suc i) l in
          let c : None ≡ Some (b.0 ∷ b.1) = sym a ∙ b.2 in
          absurd cc
      by (o ∷ p ∷ os) r e = (entry_frame es root o, entry_frame es root p, map (entry_frame es root) os, e)

  -- the weights after an event
  pub standing_next : (e : Event) (s t : List OpenSpan) → event_at es i ≡ Some e → Standing es root eb i s → t ≡ after_event e s → Standing es root eb (suc i) t
  standing_next e s t is h same =
      let l : suc i ≤ length es = inside es i e is in
      let o = first_open h.frames h.work (omega arith) h.entry in
      record {
        frames = entry_after eb i e h.work h.frames;
        work = h.work + weight es i;
        entry = entry_follows es wf eb root i e is h.frames h.work h.entry;
        are = same ∙ ap (λ x. after_event e x) (h.are ∙ ap (λ (fs : List EntryFrame). map entered_span fs) o.2) ∙ event_kept eb i e h.work o.0 o.1
            ∙ ap (λ (fs : List EntryFrame). map entered_span (entry_after eb i e h.work fs)) (sym o.2);
      }

  -- the innermost frame closes with its span
  pub closing_is : (s : List OpenSpan) → i ≤ length es → Standing es root eb i s → (f : EntryFrame) (fs : List EntryFrame) (w : ℕ) → IsEntry es eb root i (f ∷ fs) w
      → state.close f.state ≡ top_close s
  closing_is s l h f fs w at =
      let one = ((entry_is_one es wf eb root i l).1 (f ∷ fs) h.frames w h.work at h.entry).0 in
      sym (close_kept f.state) ∙ ap (λ (x : List EntryFrame). top_close (map entered_span x)) one ∙ ap top_close (sym h.are)

  -- ---- the weights fit

  abbrev closes : List EntryFrame → ℕ
  closes [] = 0
  closes (f ∷ fs) = state.close f.state + closes fs

  closes_is : (os : List OpenFrame) → closes (map (entry_frame es root) os) ≡ plain_sum os
  closes_is [] = refl
  closes_is (o ∷ os) = ap (λ n. state.close o.plain + n) (closes_is os)

  -- without burdens they do, and the weights are the same under any
  pub closes_fit : (fs : List EntryFrame) (w : ℕ) → i ≤ length es → IsSmall es → IsEntry es eb root i fs w → closes fs < 2 ^ 92
  closes_fit fs w l small at =
      let none : 0 < 2 ^ 32 = omega arith in
      let s = stack_stands es wf unburdened root i l in
      let plain : List OpenFrame = s.0 ∷ s.1 in
      let fits = (stack_fits es wf small unburdened (record { continuation = none; join = none }) i plain l (root, s.2)).0 in
      let one = (same_stack es wf eb i l at.0 (root, at.1)).plain ∙ sym (same_stack es wf unburdened i l plain (root, s.2)).plain in
      let sums : plain_sum at.0 ≡ plain_sum plain = sym (sum_is at.0) ∙ ap closes_of one ∙ sum_is plain in
      let same : closes fs ≡ plain_sum at.0 = ap closes at.2 ∙ closes_is at.0 in
      omega arith

  pub close_fits : (s : List OpenSpan) → i ≤ length es → IsSmall es → Standing es root eb i s → top_close s < 2 ^ 92
  close_fits s l small h =
      let o = first_open h.frames h.work l h.entry in
      let fit = closes_fit h.frames h.work l small h.entry in
      let same : closes h.frames ≡ state.close o.0.state + closes o.1 = ap closes o.2 in
      let is : top_close s ≡ close (weights_of o.0.state) = ap top_close (h.are ∙ ap (λ (fs : List EntryFrame). map entered_span fs) o.2) in
      let kept = close_kept o.0.state in
      omega arith

  -- a frame closes with its spine, or with more
  spine_le : (s : State) → s.spine ≤ state.close s
  spine_le s = by s.spine s.child
    where
      by : (n : ℕ) (c : Option (ℕ × ℕ)) → n ≤ greatest n c
      by n None = omega arith
      by n (Some c) = omega arith

  pub can_run : (n : ℕ) (s : List OpenSpan) → i ≤ length es → IsSmall es → n < 2 ^ 64 → Standing es root eb i s → OnTop (CanRun n) s
  can_run n s l small short h =
      let o = first_open h.frames h.work l h.entry in
      let fit = closes_fit h.frames h.work l small h.entry in
      let same : closes h.frames ≡ state.close o.0.state + closes o.1 = ap closes o.2 in
      let le = spine_le o.0.state in
      let fits : o.0.state.spine + n < 2 ^ 128 = omega arith in
      subst (OnTop (CanRun n)) (sym (h.are ∙ ap (λ (fs : List EntryFrame). map entered_span fs) o.2)) fits

  pub can_return : (s : List OpenSpan) → IsSmall es → event_at es i ≡ Some Ret → Standing es root eb i s → OnBelow (CanReturn (top_close s)) s
  can_return s small is h =
      let l : suc i ≤ length es = inside es i Ret is in
      let o = two_open h.frames h.work is h.entry in
      let fit = closes_fit h.frames h.work (omega arith) small h.entry in
      let same : closes h.frames ≡ state.close o.0.state + (state.close o.1.state + closes o.2) = ap closes o.3 in
      let le = spine_le o.1.state in
      let kept = close_kept o.0.state in
      let fits : o.1.state.spine + close (weights_of o.0.state) < 2 ^ 128 = omega arith in
      subst (λ (x : List OpenSpan). OnBelow (CanReturn (top_close x)) x) (sym (h.are ∙ ap (λ (fs : List EntryFrame). map entered_span fs) o.3)) fits
