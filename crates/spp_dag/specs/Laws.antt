-- The laws of the dag: what connects its walks with the stack machine, and its rows with the shares of ranges.
use Rattle.std.specs.Prelude.{◌≡◌, ℕ, suc, ◌+◌, ◌≤◌, ◌<◌, ◌↔◌, ◌⊎◌, Bool, true, false, List, [], ◌∷◌, ◌++◌, length, take, cond, Option, Some, None}
use Rattle.spp_event.specs.declared.records.Event.{Event}
use Rattle.spp_frame.specs.declared.Why.{Why}
use Rattle.spp_frame.specs.declared.Why.TheVariants as why
use Rattle.spp_frame.specs.declared.Fault.{Fault}
use Rattle.spp_frame.specs.Nesting as nesting
use Rattle.spp_maxplus.specs.declared.state.Burdens.{Burdens}
use Rattle.spp_maxplus.specs.State.{unburdened, close, taken}
use Rattle.spp_dag.specs.declared.row.Row.{Row}
use Rattle.spp_dag.specs.declared.stack.OpenFrame.{OpenFrame}
use Rattle.spp_dag.specs.Trace.{records, event_at, spawns, opens, syncs, depth, owner, join, closing, is_frame, IsWellFormed}
use Rattle.spp_dag.specs.Dag.{Walk, AtMost, IsGreatest, IsSpan, IsPath, Before, FirstEnters, On}
use Rattle.spp_dag.specs.Stack.{run, root_frame}
use Rattle.spp_dag.specs.Rows.{AreSpans, row, work, contains}
use Rattle.spp_dag.specs.Profile.{Profile, IsProfile}
use Rattle.spp_dag.specs.Shares.{share, shares, AreEnds, plus, zero_row}

-- ---- the stack machine

-- the machine's stack before the event at k is these frames, innermost first
abbrev pub HasStack : List Event → Burdens → ℕ → List OpenFrame → Type 0
HasStack es burdens k fs = (func : ℕ) × (run burdens 0 (take k es) (root_frame func ∷ []) ≡ Some fs)

-- it has f on top
abbrev pub HasTop : List Event → Burdens → ℕ → OpenFrame → Type 0
HasTop es burdens k f = (fs : List OpenFrame) × HasStack es burdens k (f ∷ fs)

-- the frame that owns k waits there for its children: at a sync or a return, or at the end
abbrev pub Waits : List Event → ℕ → Type 0
Waits es k = (k ≤ length es) × (k < length es → syncs (event_at es k) ≡ true)

-- before each event of a well-formed trace there is a stack, and it is as deep as the trace says
abbrev pub StackStands : Type 0
StackStands = (es : List Event) → IsWellFormed es → (burdens : Burdens) (func k : ℕ) → k ≤ length es
    → (f : OpenFrame) × (fs : List OpenFrame)
    × (run burdens 0 (take k es) (root_frame func ∷ []) ≡ Some (f ∷ fs)) × (length fs ≡ depth es k)

-- the machine ends with one frame, which closes with the span and the burdened span
abbrev pub MachineGivesSpans : Type 0
MachineGivesSpans = (es : List Event) → IsWellFormed es → (burdens : Burdens) (func : ℕ)
    → (f : OpenFrame) × (run burdens 0 es (root_frame func ∷ []) ≡ Some (f ∷ []))
    × IsSpan es unburdened (close f.plain) × IsSpan es burdens (close f.burdened)

-- each frame closes with the greatest weight of a walk through it
abbrev pub FramesGiveSpans : Type 0
FramesGiveSpans = (es : List Event) → IsWellFormed es → (burdens : Burdens) (f : ℕ) → is_frame es f ≡ true
    → (top : OpenFrame) → HasTop es burdens (closing es f) top
    → IsGreatest es unburdened f (closing es f) (close top.plain) × IsGreatest es burdens f (closing es f) (close top.burdened)

-- and where it waits, with that of a walk from its first position to there
abbrev pub WaitsGiveSpans : Type 0
WaitsGiveSpans = (es : List Event) → IsWellFormed es → (burdens : Burdens) (k : ℕ) → Waits es k
    → (top : OpenFrame) → HasTop es burdens k top
    → IsGreatest es unburdened (owner es k) k (close top.plain) × IsGreatest es burdens (owner es k) k (close top.burdened)

-- how the machine ends where this is wrong first
abbrev pub EndsWith : Why → Option (List OpenFrame) → Type 0
EndsWith (why.Event fault) end = ⊥
EndsWith why.RootReturn end = end ≡ None
EndsWith (why.Unclosed d) end = (fs : List OpenFrame) × (end ≡ Some fs) × (length fs ≡ suc d)

-- the machine stops where the trace has a return of the root, and else it ends with the frames that are left open
abbrev pub MachineFindsFaults : Type 0
MachineFindsFaults = (es : List Event) (burdens : Burdens) (func : ℕ) (f : Fault)
    → nesting.IsFirstBad (records es) f → EndsWith f.why (run burdens 0 es (root_frame func ∷ []))

abbrev pub run_on : Burdens → ℕ → List Event → Option (List OpenFrame) → Option (List OpenFrame)
run_on burdens i es None = None
run_on burdens i es (Some fs) = run burdens i es fs

-- a run over two lists of events is a run over the one and then over the other
abbrev pub RunsFollow : Type 0
RunsFollow = (burdens : Burdens) (i : ℕ) (xs ys : List Event) (fs : List OpenFrame)
    → run burdens i (xs ++ ys) fs ≡ run_on burdens (i + length xs) ys (run burdens i xs fs)

-- ---- walks and the path

-- of two walks with the same ends the first in dictionary order enters a child where the other goes on
abbrev pub WalksPartAtSpawns : Type 0
WalksPartAtSpawns = (es : List Event) → IsWellFormed es → (burdens : Burdens) (x y v w : ℕ) (ps qs : List ℕ)
    → Walk es burdens x ps y v → Walk es burdens x qs y w → Before ps qs → FirstEnters es x ps qs

-- different walks with the same ends: one of them comes first
abbrev pub WalksAreOrdered : Type 0
WalksAreOrdered = (es : List Event) → IsWellFormed es → (burdens : Burdens) (x y v w : ℕ) (ps qs : List ℕ)
    → Walk es burdens x ps y v → Walk es burdens x qs y w → (ps ≡ qs) ⊎ (Before ps qs ⊎ Before qs ps)

-- through each frame there is a path, the root frame's from the first position to the end
abbrev pub PathExists : Type 0
PathExists = (es : List Event) → IsWellFormed es → (burdens : Burdens) (f : ℕ) → is_frame es f ≡ true
    → (ps : List ℕ) × IsPath es burdens f (closing es f) ps

-- and to each place where a frame waits
abbrev pub PathExistsTo : Type 0
PathExistsTo = (es : List Event) → IsWellFormed es → (burdens : Burdens) (k : ℕ) → Waits es k → (ps : List ℕ) × IsPath es burdens (owner es k) k ps

-- and it is one
abbrev pub PathIsOne : Type 0
PathIsOne = (es : List Event) (burdens : Burdens) (x y : ℕ) (ps qs : List ℕ)
    → IsPath es burdens x y ps → IsPath es burdens x y qs → ps ≡ qs

-- The path enters a spawned child exactly where it enters the child's parent and the parent takes that child at
-- its join.
abbrev pub PathEntersTaken : Type 0
PathEntersTaken = (es : List Event) → IsWellFormed es → (burdens : Burdens) (s : ℕ) → spawns (event_at es s) ≡ true
    → (top : OpenFrame) → HasTop es burdens (join es s) top
    → ((ps : List ℕ) → IsPath es unburdened 0 (length es) ps
    → On 0 ps (suc s) ↔ (On 0 ps (owner es s) × (taken top.plain ≡ Some s)))
    × ((ps : List ℕ) → IsPath es burdens 0 (length es) ps
    → On 0 ps (suc s) ↔ (On 0 ps (owner es s) × (taken top.burdened ≡ Some s)))

-- the path enters a called frame exactly where it passes the call
abbrev pub PathEntersCalled : Type 0
PathEntersCalled = (es : List Event) → IsWellFormed es → (burdens : Burdens) (ps : List ℕ) → IsPath es burdens 0 (length es) ps
    → (c : ℕ) → opens (event_at es c) ≡ true → spawns (event_at es c) ≡ false → On 0 ps (suc c) ↔ On 0 ps c

-- the path passes a position exactly where it enters its frame and no entered child of that frame is still waited for
abbrev pub PathPasses : Type 0
PathPasses = (es : List Event) → IsWellFormed es → (burdens : Burdens) (ps : List ℕ) → IsPath es burdens 0 (length es) ps
    → (i : ℕ) → i ≤ length es → On 0 ps i ↔ (On 0 ps (owner es i)
    × ((s : ℕ) → spawns (event_at es s) ≡ true → owner es s ≡ owner es i → s < i → i < join es s → On 0 ps (suc s) → ⊥))

-- Of the children that join where a frame waits, the path through the frame to there goes through the one taken
-- and no other.
abbrev pub PathTakesChild : Type 0
PathTakesChild = (es : List Event) → IsWellFormed es → (burdens : Burdens) (k : ℕ) → Waits es k
    → (top : OpenFrame) → HasTop es burdens k top → (s : ℕ) → spawns (event_at es s) ≡ true → join es s ≡ k
    → ((qs : List ℕ) → IsPath es unburdened (owner es k) k qs
    → On (owner es k) qs (suc s) ↔ (taken top.plain ≡ Some s))
    × ((qs : List ℕ) → IsPath es burdens (owner es k) k qs
    → On (owner es k) qs (suc s) ↔ (taken top.burdened ≡ Some s))

-- the child spawned at s joins its parent at k
abbrev pub JoinsAt : List Event → ℕ → ℕ → Type 0
JoinsAt es k s = (spawns (event_at es s) ≡ true) × (join es s ≡ k) × (owner es s ≡ owner es k)

-- the child taken where a frame waits is one that joins there
abbrev pub TakenJoins : Type 0
TakenJoins = (es : List Event) → IsWellFormed es → (burdens : Burdens) (k : ℕ) → Waits es k
    → (top : OpenFrame) → HasTop es burdens k top → (s : ℕ)
    → (taken top.plain ≡ Some s → JoinsAt es k s) × (taken top.burdened ≡ Some s → JoinsAt es k s)

-- Where a greatest walk to k goes through a child that joins there, the path does so too, through that child or an
-- earlier one.
abbrev pub PathTakesLeast : Type 0
PathTakesLeast = (es : List Event) → IsWellFormed es → (burdens : Burdens) (k : ℕ) → k ≤ length es
    → (qs : List ℕ) → IsPath es burdens (owner es k) k qs → (s : ℕ) → JoinsAt es k s
    → (rs : List ℕ) (w : ℕ) → Walk es burdens (owner es k) rs k w → AtMost es burdens (owner es k) k w → On (owner es k) rs (suc s)
    → (t : ℕ) × (t ≤ s) × JoinsAt es k t × On (owner es k) qs (suc t)

-- ---- rows, shares and the profile

-- the shares of two neighbouring ranges add up to the share of both
abbrev pub SharesAdd : Type 0
SharesAdd = (es : List Event) (root : ℕ) (span : ℕ → ℕ) (on : ℕ → Bool) (key : Option ℕ) (from mid end : ℕ) → from ≤ mid → mid ≤ end
    → share es root span on key from end ≡ plus (share es root span on key from mid) (share es root span on key mid end)

-- the shares of ranges that cover all events, and the share of the end, make the row
abbrev pub SharesMakeRows : Type 0
SharesMakeRows = (es : List Event) (root : ℕ) (span : ℕ → ℕ) (on : ℕ → Bool) (key : Option ℕ) (ends : List ℕ) → AreEnds 0 ends (length es)
    → row es root span on key ≡ plus (shares es root span on key 0 ends) (share es root span on key (length es) (suc (length es)))

-- what the root frame adds to the root's row, besides its positions
abbrev pub own_row : List Event → (ℕ → ℕ) → Row
own_row es span = record {
  count = 1;
  local = 0;
  site_count = 1;
  site_work = work es 0;
  site_span = span 0;
  caller_count = 1;
  caller_work = work es 0;
  caller_span = span 0;
}

-- the share of the end is the root frame's alone
abbrev pub EndIsRoots : Type 0
EndIsRoots = (es : List Event) → IsWellFormed es → (root : ℕ) (span : ℕ → ℕ) (on : ℕ → Bool)
    → (share es root span on None (length es) (suc (length es)) ≡ cond (on 0) (own_row es span) zero_row)
    × ((site : ℕ) → share es root span on (Some site) (length es) (suc (length es)) ≡ zero_row)

-- a well-formed trace has spans, and no row depends on which
abbrev pub SpansAreOne : Type 0
SpansAreOne = (es : List Event) → IsWellFormed es → ((span : ℕ → ℕ) × AreSpans es span)
    × ((root : ℕ) (on : ℕ → Bool) (a b : ℕ → ℕ) (key : Option ℕ) → AreSpans es a → AreSpans es b → row es root a on key ≡ row es root b on key)

-- and no share does
abbrev pub SharesAreOne : Type 0
SharesAreOne = (es : List Event) (root : ℕ) (on : ℕ → Bool) (a b : ℕ → ℕ) (key : Option ℕ) (from end : ℕ) → AreSpans es a → AreSpans es b
    → share es root a on key from end ≡ share es root b on key from end

-- the test of a path's rows passes where the path does
abbrev pub ContainsPassed : Type 0
ContainsPassed = (x : ℕ) (ps : List ℕ) (i : ℕ) → (contains (x ∷ ps) i ≡ true) ↔ On x ps i

-- the work of the root frame is the work of the trace
abbrev pub RootWorkIsAll : Type 0
RootWorkIsAll = (es : List Event) → work es 0 ≡ nesting.work (records es)

-- a well-formed trace has a profile
abbrev pub HasProfile : Type 0
HasProfile = (es : List Event) → IsWellFormed es → (root : ℕ) (burdens : Burdens) → (p : Profile) × IsProfile es root burdens p

-- with one work, one span and one burdened span, and one row for each site and for the root
abbrev pub ProfileIsOne : Type 0
ProfileIsOne = (es : List Event) (root : ℕ) (burdens : Burdens) (p q : Profile) → IsProfile es root burdens p → IsProfile es root burdens q
    → (p.work ≡ q.work) × (p.span ≡ q.span) × (p.burdened_span ≡ q.burdened_span)
    × ((key : Option ℕ) → (p.dag key ≡ q.dag key) × (p.path key ≡ q.path key) × (p.burdened_path key ≡ q.burdened_path key))
