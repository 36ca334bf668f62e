-- The frames that are open at a position, as the trace tells them: the innermost is the position's owner, and below
-- each frame are those that were open at the event that opened it, down to the root.
use Rattle.std.proofs.Common.{◌≡◌, ℕ, zero, suc, ◌+◌, ◌≤◌, true, false, refl, arith, sym, ◌∙◌, ap, subst, List, [], ◌∷◌, length, map, take, Option, Some, None}
use Rattle.spp_event.specs.declared.records.Event.{Event}
use Rattle.spp_event.specs.declared.records.Event.TheVariants.{Strand, Call, Spawn, Ret, Sync}
use Rattle.spp_maxplus.specs.declared.state.Burdens.{Burdens}
use Rattle.spp_dag.specs.declared.stack.EntryFrame.{EntryFrame}
use Rattle.spp_dag.specs.declared.stack.OpenFrame.{OpenFrame}
use Rattle.spp_dag.specs.declared.stack.FrameKind.{FrameKind}
use Rattle.spp_dag.specs.declared.stack.FrameKind.TheVariants.{Root, Called, Spawned}
use Rattle.spp_dag.specs.Trace.{event_at, weight, opens, spawns, owner, IsWellFormed}
use Rattle.spp_dag.specs.Stack.{run, root_frame}
use Rattle.spp_dag.specs.Choices.{IsEntry, first_of, entry_frame}
use Rattle.spp_dag.specs.Steps.{entry_after}
use Rattle.spp_dag.proofs.Depth.{slice_get_no}
use Rattle.spp_dag.proofs.Owner.{owner_is}
use Rattle.spp_dag.proofs.Stacks.{plain_top, stack_stands}
use Rattle.spp_dag.proofs.StepsListing.{shape_at}
use Rattle.spp_dag.proofs.Steps.{entry_follows}
use Rattle.spp_dag.proofs.Entries.{entry_is_one}

-- What lies below a frame of that kind that was opened at that position: nothing below the root, and below any other
-- the frames that are open where it was opened, of which the last argument says this.
abbrev pub Under : List Event → FrameKind → ℕ → List EntryFrame → Type 0 → Type 0
Under es Root at fs below = fs ≡ []
Under es Called at fs below = (opens (event_at es at) ≡ true) × (spawns (event_at es at) ≡ false) × below
Under es Spawned at fs below = (spawns (event_at es at) ≡ true) × below

-- the open frames at p, innermost first
abbrev pub Chain : List Event → ℕ → List EntryFrame → Type 0
Chain es p [] = ⊥
Chain es p (f ∷ fs) = (owner es p ≡ first_of f.kind f.at) × Under es f.kind f.at fs (Chain es f.at fs)

-- the innermost frame is the owner
abbrev IsTopped : List Event → ℕ → List EntryFrame → Type 0
IsTopped es p [] = ⊥
IsTopped es p (f ∷ fs) = owner es p ≡ first_of f.kind f.at

topped : (es : List Event) → IsWellFormed es → (eb : Burdens) (root i : ℕ) → i ≤ length es → (fs : List EntryFrame) (w : ℕ) → IsEntry es eb root i fs w → IsTopped es i fs
topped es wf eb root i l fs w at = subst (λ gs. IsTopped es i gs) (sym at.2) (by at.0 at.1)
  where
    by : (hs : List OpenFrame) → run eb 0 (take i es) (root_frame root ∷ []) ≡ Some hs → IsTopped es i (map (entry_frame es root) hs)
    by [] r = let s = stack_stands es wf eb root i l in let z = sym r ∙ s.2 in cc
    by (h ∷ hs) r =
        let shape = shape_at es wf i l in
        owner_is es 1 (λ _. 0) (λ _. 0) wf i shape ∙ sym (ap (λ t. t.first) (plain_top es wf eb i l h (hs, (root, r)) shape))

-- one event
chain_next : (es : List Event) (eb : Burdens) (i v : ℕ) (e : Event) → event_at es i ≡ Some e → (gs : List EntryFrame) → Chain es i gs → IsTopped es (suc i) (entry_after eb i e v gs)
    → Chain es (suc i) (entry_after eb i e v gs)
chain_next es eb i v e is [] c t = absurd c
chain_next es eb i v (Strand n) is (f ∷ fs) c t = (t, c.1)
chain_next es eb i v (Call site func) is (f ∷ fs) c t = (t, (ap opens is, ap spawns is, c))
chain_next es eb i v (Spawn site func) is (f ∷ fs) c t = (t, (ap spawns is, c))
chain_next es eb i v Sync is (f ∷ fs) c t = (t, c.1)
chain_next es eb i v Ret is (f ∷ []) c t = absurd t
chain_next es eb i v Ret is (f ∷ g ∷ fs) c t = (t, below f.kind c.1)
  where
    below : (k : FrameKind) → Under es k f.at (g ∷ fs) (Chain es f.at (g ∷ fs)) → Under es g.kind g.at fs (Chain es g.at fs)
    below Root u = cc
    below Called u = u.2.1
    below Spawned u = u.1.1

-- what the machine has open is such a chain
pub chain_at : (es : List Event) → IsWellFormed es → (eb : Burdens) (root i : ℕ) → i ≤ length es → (fs : List EntryFrame) (w : ℕ) → IsEntry es eb root i fs w → Chain es i fs
chain_at es wf eb root zero l fs w at = subst (λ gs. Chain es 0 gs) (sym at.2) (by at.0 at.1)
  where
    by : (hs : List OpenFrame) → Some (root_frame root ∷ []) ≡ Some hs → Chain es 0 (map (entry_frame es root) hs)
    by [] r = cc
    by (h ∷ []) r = subst (λ k. Chain es 0 (map (entry_frame es root) (k ∷ []))) (let z : root_frame root ≡ h = cc in z) (refl, refl)
    by (h ∷ g ∷ hs) r = cc
chain_at es wf eb root (suc i) l fs w at = by (event_at es i) refl (λ gs v g. chain_at es wf eb root i (omega arith) gs v g)
  where
    by : (o : Option Event) → event_at es i ≡ o → ((gs : List EntryFrame) (v : ℕ) → IsEntry es eb root i gs v → Chain es i gs) → Chain es (suc i) fs
    by None q before = absurd (slice_get_no es i l q)
    by (Some e) q before =
        let s = (entry_is_one es wf eb root i (omega arith)).0 in
        let next = entry_follows es wf eb root i e q s.0 s.1 s.2 in
        let t = topped es wf eb root (suc i) l (entry_after eb i e s.1 s.0) (s.1 + weight es i) next in
        let same = ((entry_is_one es wf eb root (suc i) l).1 fs (entry_after eb i e s.1 s.0) w (s.1 + weight es i) at next).0 in
        subst (λ gs. Chain es (suc i) gs) (sym same) (chain_next es eb i s.1 e q s.0 (before s.0 s.1 s.2) t)
