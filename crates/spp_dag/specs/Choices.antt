-- What is told of a range of positions: how its events are come to, the choices where children join, and what of a
-- frame is on the path where the range begins.
use Rattle.std.specs.Prelude.{◌≡◌, ℕ, suc, ◌≤◌, ◌<◌, true, List, [], ◌∷◌, length, map, take, Option, Some, None, ◌↔◌, false}
use Rattle.spp_event.specs.declared.records.Event.{Event}
use Rattle.spp_frame.specs.Nesting as nesting
use Rattle.spp_maxplus.specs.declared.state.Burdens.{Burdens}
use Rattle.spp_maxplus.specs.State.{unburdened, taken}
use Rattle.spp_dag.specs.declared.stack.EntryFrame.{EntryFrame}
use Rattle.spp_dag.specs.declared.stack.OpenFrame.{OpenFrame}
use Rattle.spp_dag.specs.declared.stack.FrameKind.{FrameKind}
use Rattle.spp_dag.specs.declared.stack.FrameKind.TheVariants.{Root, Called, Spawned}
use Rattle.spp_dag.specs.Trace.{records, event_at, syncs, spawns, owner, join, IsWellFormed}
use Rattle.spp_dag.specs.Dag.{IsPath, On}
use Rattle.spp_dag.specs.Stack.{run, root_frame}
use Rattle.spp_dag.specs.Rows.{is_top_site, is_top_caller}
use Rattle.spp_dag.specs.Laws.{JoinsAt, Waits, HasTop}

-- ---- the entry of a range

-- the first position of an open frame
abbrev pub first_of : FrameKind → ℕ → ℕ
first_of Root at = 0
first_of Called at = suc at
first_of Spawned at = suc at

-- an open frame with the work before its first position, and its marks; `root` is the function of the root frame
abbrev pub entry_frame : List Event → ℕ → OpenFrame → EntryFrame
entry_frame es root f = record {
  kind = f.kind;
  at = f.at;
  site = f.site;
  func = f.func;
  before = nesting.work (take (first_of f.kind f.at) (records es));
  state = f.plain;
  burdened = f.burdened;
  top_site = is_top_site es (first_of f.kind f.at);
  top_caller = is_top_caller es root (first_of f.kind f.at);
}

-- before the event at i these frames are open, the innermost first, and this is the work so far
abbrev pub IsEntry : List Event → Burdens → ℕ → ℕ → List EntryFrame → ℕ → Type 0
IsEntry es burdens root i frames work = (fs : List OpenFrame) × (run burdens 0 (take i es) (root_frame root ∷ []) ≡ Some fs)
    × (frames ≡ map (entry_frame es root) fs) × (work ≡ nesting.work (take i (records es)))

-- ---- choices

-- The child that the path through the frame to k goes through, of those that join at k; none where it goes through
-- none of them.
abbrev pub IsChoice : List Event → Burdens → ℕ → Option ℕ → Type 0
IsChoice es burdens k (Some s) = JoinsAt es k s
    × ((ps : List ℕ) → IsPath es burdens (owner es k) k ps → On (owner es k) ps (suc s))
IsChoice es burdens k None = (s : ℕ) → JoinsAt es k s
    → (ps : List ℕ) → IsPath es burdens (owner es k) k ps → On (owner es k) ps (suc s) → ⊥

-- some child joins at k, so that there is a choice
abbrev pub HasChoice : List Event → ℕ → Type 0
HasChoice es k = (s : ℕ) × JoinsAt es k s

-- For a frame f that is open at i: it runs on at i on the path `ps`, as the path enters it, and no entered child
-- spawned before i joins at i or later.
abbrev pub IsRunning : List Event → List ℕ → ℕ → ℕ → Type 0
IsRunning es ps f i = On 0 ps f
    × ((s : ℕ) → spawns (event_at es s) ≡ true → owner es s ≡ f → s < i → i ≤ join es s → On 0 ps (suc s) → ⊥)

-- ---- their laws

-- a well-formed trace has one entry at each position, for given burdens
abbrev pub EntryIsOne : Type 0
EntryIsOne = (es : List Event) → IsWellFormed es → (burdens : Burdens) (root i : ℕ) → i ≤ length es
    → ((frames : List EntryFrame) × (work : ℕ) × IsEntry es burdens root i frames work)
    × ((fs gs : List EntryFrame) (v w : ℕ) → IsEntry es burdens root i fs v → IsEntry es burdens root i gs w → (fs ≡ gs) × (v ≡ w))

-- where no frame waits, an event is on the path exactly where its frame runs on there
abbrev pub RunningPasses : Type 0
RunningPasses = (es : List Event) → IsWellFormed es → (burdens : Burdens) (ps : List ℕ) → IsPath es burdens 0 (length es) ps
    → (i : ℕ) → i < length es → syncs (event_at es i) ≡ false → IsRunning es ps (owner es i) i ↔ On 0 ps i

-- where a frame waits, the machine takes what the path chooses
abbrev pub TakenIsChoice : Type 0
TakenIsChoice = (es : List Event) → IsWellFormed es → (burdens : Burdens) (k : ℕ) → Waits es k → (top : OpenFrame) → HasTop es burdens k top
    → IsChoice es unburdened k (taken top.plain) × IsChoice es burdens k (taken top.burdened)

abbrev pub IsWaited : List Event → ℕ → Option (ℕ × ℕ) → Type 0
IsWaited es k None = HasChoice es k → ⊥
IsWaited es k (Some c) = JoinsAt es k c.1

-- and it holds a child exactly where there is a choice, one that joins there
abbrev pub ChildIsWaited : Type 0
ChildIsWaited = (es : List Event) → IsWellFormed es → (burdens : Burdens) (k : ℕ) → Waits es k → (top : OpenFrame) → HasTop es burdens k top
    → IsWaited es k top.plain.child × IsWaited es k top.burdened.child
