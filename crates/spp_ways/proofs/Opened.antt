-- The open frames, as one of both paths sees them, are the machine's stack for that path.
use Rattle.std.proofs.Common.{◌≡◌, ℕ, ◌≤◌, Bool, true, false, refl, sym, ◌∙◌, ap, subst, List, [], ◌∷◌, length, map}
use Rattle.spp_event.specs.declared.records.Event.{Event}
use Rattle.spp_maxplus.specs.declared.state.Burdens.{Burdens}
use Rattle.spp_dag.specs.declared.stack.OpenFrame.{OpenFrame}
use Rattle.spp_dag.specs.declared.stack.EntryFrame.{EntryFrame}
use Rattle.spp_dag.specs.declared.stack.FrameKind.{FrameKind}
use Rattle.spp_dag.specs.declared.stack.FrameKind.TheVariants.{Root, Called, Spawned}
use Rattle.spp_dag.specs.Trace.{event_at, opens, spawns, IsWellFormed}
use Rattle.spp_dag.specs.Choices.{IsEntry, entry_frame, first_of}
use Rattle.spp_dag.proofs.Machine.{Frame, stack}
use Rattle.spp_dag.proofs.Runs.{Same, plain_frame, burdened_frame}
use Rattle.spp_dag.proofs.Stacks.{same_stack}
use Rattle.spp_dag.proofs.StepsFrames.{TracedBy, AllTraced, all_traced}
use Rattle.spp_ways.specs.Ways.{state_on, burdens_on}
use Rattle.spp_ways.proofs.Waiting.{co, re, At}

-- an open frame, by its first position
abbrev pub frame_on : Bool → EntryFrame → Frame
frame_on on f = record { first = first_of f.kind f.at; state = state_on on f }

-- what the trace says of a frame's opening
abbrev pub IsOpening : List Event → FrameKind → ℕ → Type 0
IsOpening es Root at = Unit {0}
IsOpening es Called at = (opens (event_at es at) ≡ true) × (spawns (event_at es at) ≡ false)
IsOpening es Spawned at = spawns (event_at es at) ≡ true

abbrev AreOpenings : List Event → List EntryFrame → Type 0
AreOpenings es [] = Unit {0}
AreOpenings es (f ∷ fs) = IsOpening es f.kind f.at × AreOpenings es fs

plain_frames : (es : List Event) (root : ℕ) (os : List OpenFrame) → map (frame_on false) (map (entry_frame es root) os) ≡ map plain_frame os
plain_frames es root [] = refl
plain_frames es root (o ∷ os) = ap (λ (l : List Frame). plain_frame o ∷ l) (plain_frames es root os)

burdened_frames : (es : List Event) (root : ℕ) (os : List OpenFrame) → map (frame_on true) (map (entry_frame es root) os) ≡ map burdened_frame os
burdened_frames es root [] = refl
burdened_frames es root (o ∷ os) = ap (λ (l : List Frame). burdened_frame o ∷ l) (burdened_frames es root os)

opening : (es : List Event) (root : ℕ) (kind : FrameKind) (at site func : ℕ) → TracedBy es root kind at site func → IsOpening es kind at
opening es root Root at site func t = tt
opening es root Called at site func t = (ap opens t, ap spawns t)
opening es root Spawned at site func t = ap spawns t

openings : (es : List Event) (root : ℕ) (os : List OpenFrame) → AllTraced es root os → AreOpenings es (map (entry_frame es root) os)
openings es root [] t = tt
openings es root (o ∷ os) t = (opening es root o.kind o.at o.site o.func t.0, openings es root os t.1)

module _ (es : List Event) (wf : IsWellFormed es) (burdens : Burdens) (root i : ℕ) (l : i ≤ length es) where
  same : (fs : List EntryFrame) (work : ℕ) → (at : IsEntry es burdens root i fs work) → Same es wf burdens i at.0
  same fs work at = same_stack es wf burdens i l at.0 (root, at.1)

  -- how the innermost frame was opened
  pub opening_of : (f : EntryFrame) (fs : List EntryFrame) (work : ℕ) → IsEntry es burdens root i (f ∷ fs) work → IsOpening es f.kind f.at
  opening_of f fs work at =
      let t = openings es root at.0 (all_traced es wf burdens root i l at.0 at.1) in
      (subst (λ gs. AreOpenings es gs) (sym at.2) t).0

  pub stack_of : (on : Bool) (fs : List EntryFrame) (work : ℕ) → IsEntry es burdens root i fs work
      → map (frame_on on) fs ≡ stack es 1 (co es wf (burdens_on on burdens)) (re es wf (burdens_on on burdens)) i
  stack_of false fs work at =
      ap (λ (gs : List EntryFrame). map (frame_on false) gs) at.2 ∙ plain_frames es root at.0 ∙ (same fs work at).plain
  stack_of true fs work at =
      ap (λ (gs : List EntryFrame). map (frame_on true) gs) at.2 ∙ burdened_frames es root at.0 ∙ (same fs work at).burdened

  module _ (on : Bool) where
    abbrev pub Of : Type 0
    Of = At es wf (burdens_on on burdens) i

    -- some frame is open
    pub never_empty : (work : ℕ) → IsEntry es burdens root i [] work → Of → ⊥
    never_empty work at h = let e = stack_of on [] work at ∙ h.is in cc

    -- the innermost frame, and those below it
    pub top_of : (f : EntryFrame) (fs : List EntryFrame) (work : ℕ) → IsEntry es burdens root i (f ∷ fs) work → (h : Of) → (frame_on on f ≡ h.top) × (map (frame_on on) fs ≡ h.rest)
    top_of f fs work at h =
        let e = stack_of on (f ∷ fs) work at ∙ h.is in
        (cc, cc)
