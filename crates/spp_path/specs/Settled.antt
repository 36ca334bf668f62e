-- A path that was settled, part by part.
use Rattle.std.specs.Prelude.{◌≡◌, ℕ, zero, suc, ◌-◌, ◌≤◌, ◌<◌, ◌++◌, Bool, true, false, nat_le, List, [], ◌∷◌, length, take, drop, slice_get, Option, Some, None}
use Rattle.spp_event.specs.declared.records.Event.{Event}
use Rattle.spp_maxplus.specs.declared.state.Burdens.{Burdens}
use Rattle.spp_maxplus.specs.declared.state.State.{State}
use Rattle.spp_maxplus.specs.State.{unburdened, taken}
use Rattle.spp_dag.specs.declared.choices.Choice.{Choice}
use Rattle.spp_dag.specs.declared.choices.Choices.{Choices}
use Rattle.spp_dag.specs.declared.stack.EntryFrame.{EntryFrame}
use Rattle.spp_dag.specs.Trace.{IsWellFormed}
use Rattle.spp_dag.specs.ChoiceLists.{AreChoicesIn}
use Rattle.spp_stack.specs.declared.node.Node.{Node}
use Rattle.spp_stack.specs.declared.stacks.Start.{Start}
use Rattle.spp_stack.specs.Chain.{Stacks, IsChain, IsStart, HasFrames}
use Rattle.spp_stack.specs.Parts.{IsEntryAt}
use Rattle.spp_path.specs.declared.flags.Flag.{Flag}
use Rattle.spp_path.specs.declared.settled.PathStart.{PathStart}
use Rattle.spp_path.specs.declared.settled.LiveFrame.{LiveFrame}
use Rattle.spp_path.specs.declared.settled.Under.{Under}
use Rattle.spp_path.specs.declared.settled.Under.TheVariants as under
use Rattle.spp_path.specs.Entered.{AreEnteredIn}
use Rattle.spp_path.specs.Flags.{AreFlags, beside, is_called, flags_of}

-- ---- which path

-- the burdens of the path, where the run has these
abbrev pub burdens_under : Under → Burdens → Burdens
burdens_under under.Zero burdens = unburdened
burdens_under under.Burdens burdens = burdens

-- its joins
abbrev pub joins_under : Under → Choices → List Choice
joins_under under.Zero c = c.joins.items
joins_under under.Burdens c = c.burdened_joins.items

-- the state of an open frame under its burdens
abbrev pub state_under : Under → EntryFrame → State
state_under under.Zero f = f.state
state_under under.Burdens f = f.burdened

-- what is taken where a frame with that state waits, if some child waits in it
abbrev pub waiting : ℕ → State → Option (ℕ × ℕ) → Option Choice
waiting at s None = None
waiting at s (Some c) = Some (record { at = at; taken = taken s })

abbrev pub choice_of : ℕ → State → Option Choice
choice_of at s = waiting at s s.child

-- ---- what is settled

-- The stacks where the parts begin and where the trace ends; the spawns of the children that the path enters; and for each
-- of these places where the path goes there.
pub record PathOf : Type 0 where
  pub stacks : Stacks
  pub spawns : List ℕ
  pub starts : List PathStart

-- the position of a start; 0 where there is none
abbrev pub at_of : Option Start → ℕ
at_of None = 0
at_of (Some s) = s.at

abbrev pub position : Stacks → ℕ → ℕ
position s k = at_of (slice_get s.starts k)

-- how many of the spawns lie before it
abbrev pub before_of : Option PathStart → ℕ
before_of None = 0
before_of (Some s) = s.before

abbrev pub before_at : PathOf → ℕ → ℕ
before_at s k = before_of (slice_get s.starts k)

-- the spawns in part k
abbrev pub entered_in : PathOf → ℕ → List ℕ
entered_in s k = take (before_at s (suc k) - before_at s k) (drop (before_at s k) s.spawns)

-- Flags of the frames from a node on outwards: those of nodes above the node `live` are not entered; of the others the
-- first runs on or doesn't, and each further one where the frame above it was called. Nodes below have lesser numbers.
abbrev pub flag_over : ℕ → Bool → ℕ → Option Node → (Bool → Option ℕ → List Flag) → List Flag
flag_over live running n None rest = []
flag_over live running n (Some node) rest =
    elim (nat_le n live) [ true ↦ record { entered = true; running = running } ∷ rest (is_called node.frame.kind) node.below | false ↦ beside ∷ rest running node.below ]

abbrev pub flags_down : List Node → ℕ → Bool → Option ℕ → ℕ → List Flag
flags_down nodes live running None most = []
flags_down nodes live running (Some n) zero = []
flags_down nodes live running (Some n) (suc most) = flag_over live running n (slice_get nodes n) (λ r o. flags_down nodes live r o most)

abbrev pub flags_from : List Node → ℕ → Bool → Option ℕ → List Flag
flags_from nodes live running None = []
flags_from nodes live running (Some n) = flags_down nodes live running (Some n) (suc n)

-- those of the frames of a start
abbrev pub flags_by_starts : List Node → Option Start → Option PathStart → List Flag
flags_by_starts nodes None p = []
flags_by_starts nodes (Some s) None = []
flags_by_starts nodes (Some s) (Some p) = flags_from nodes p.live p.running (Some s.top)

abbrev pub flags_at : PathOf → ℕ → List Flag
flags_at s k = flags_by_starts s.stacks.nodes (slice_get s.stacks.starts k) (slice_get s.starts k)

-- the nodes from the first on are those of these frames, and the one below them is `live`
abbrev pub IsAbove : List Node → Option ℕ → List EntryFrame → ℕ → Type 0
IsAbove nodes o [] live = o ≡ Some live
IsAbove nodes None (f ∷ fs) live = ⊥
IsAbove nodes (Some n) (f ∷ fs) live = (node : Node) × (slice_get nodes n ≡ Some node) × (node.frame ≡ f) × IsAbove nodes node.below fs live

-- the frames of the node `top` are some over those of the node `live`
pub record IsSplit (nodes : List Node) (top live : ℕ) (fs : List EntryFrame) : Type 0 where
  pub outs : List EntryFrame
  pub ks : List EntryFrame
  pub are : fs ≡ outs ++ ks
  pub above : IsAbove nodes (Some top) outs live

-- spawns don't fall from start to start, and each start of the path names a node of its stack
pub record AreSoundStarts (s : Stacks) (spawns : List ℕ) (starts : List PathStart) : Type 0 where
  pub within : (k : ℕ) (p : PathStart) → slice_get starts k ≡ Some p → (p.before ≤ length spawns) × (p.live < length s.nodes)
  pub rising : (k : ℕ) (p q : PathStart) → slice_get starts k ≡ Some p → slice_get starts (suc k) ≡ Some q → p.before ≤ q.before
  pub split : (k : ℕ) (start : Start) (p : PathStart) → slice_get s.starts k ≡ Some start → slice_get starts k ≡ Some p
      → (fs : List EntryFrame) → IsChain s.nodes (Some start.top) fs → IsSplit s.nodes start.top p.live fs

-- there is a start of the path for each of the stacks
pub record IsSoundPath (s : PathOf) : Type 0 where
  pub count : length s.starts ≡ length s.stacks.starts
  pub starts : AreSoundStarts s.stacks s.spawns s.starts

-- the innermost frame that the path enters where part k begins: these frames are open there, the work before is that
pub record IsLive (s : PathOf) (k position : ℕ) (fs : List EntryFrame) (before : ℕ) (live : LiveFrame) : Type 0 where
  pub outs : List EntryFrame
  pub ks : List EntryFrame
  pub are : fs ≡ outs ++ ks
  pub frames : HasFrames live.entry ks
  pub skipped : live.skipped ≡ length outs
  pub flags : flags_at s k ≡ flags_of outs live.running ks
  pub at : live.entry.at ≡ position
  pub work : live.entry.work ≡ before

-- ---- what it is right for

-- The stacks and the choices are those of the parts of a run: start k is the entry of the position where part k begins,
-- from 0 to the end, and the choices of part k are those at its positions.
pub record AreOfRun (es : List Event) (burdens : Burdens) (root : ℕ) (s : Stacks) (choices : List Choices) : Type 0 where
  pub well_formed : IsWellFormed es
  pub count : length s.starts ≡ suc (length choices)
  pub begins : position s 0 ≡ 0
  pub ends : position s (length choices) ≡ length es
  pub entries : (k : ℕ) → k ≤ length choices → IsEntryAt es burdens root s k (position s k)
  pub parts : (k : ℕ) (c : Choices) → slice_get choices k ≡ Some c → (position s k ≤ position s (suc k)) × AreChoicesIn es burdens (position s k) (position s (suc k)) c

-- of each part the spawns of the children that the path enters, and for each place the flags of the open frames there
pub record IsSettled (es : List Event) (burdens : Burdens) (s : PathOf) : Type 0 where
  pub entered : (k : ℕ) → suc k < length s.starts → AreEnteredIn es burdens (position s.stacks k) (position s.stacks (suc k)) (entered_in s k)
  pub flags : (k at work : ℕ) (fs : List EntryFrame) → IsStart s.stacks k at fs work → AreFlags es burdens at fs (flags_at s k)
