-- What a pass over a part of a run has of the frames that were open before it, of which those that it hasn't come to lie
-- outside, and the strands of those that it leaves open.
use Rattle.std.specs.Prelude.{◌≡◌, ℕ, suc, ◌<◌, ◌≤◌, Bool, not, cond, List, [], ◌∷◌, ◌++◌, length, Option, Some, None}
use Rattle.std.specs.List.{AllByRecursion}
use Rattle.spp_event.specs.declared.records.Event.{Event}
use Rattle.spp_event.specs.Recordings.{Recording}
use Rattle.spp_frame.specs.Nesting.{AreEvents}
use Rattle.spp_maxplus.specs.declared.state.Burdens.{Burdens}
use Rattle.spp_maxplus.specs.Weights.{weights_of}
use Rattle.spp_dag.specs.declared.row.Row.{Row}
use Rattle.spp_dag.specs.declared.stack.EntryFrame.{EntryFrame}
use Rattle.spp_dag.specs.Trace.{IsWellFormed}
use Rattle.spp_dag.specs.Choices.{IsEntry}
use Rattle.spp_dag.specs.Shares.{plus, zero_row}
use Rattle.spp_dag.specs.Steps.{site_by, same_key, has_site, has_func, strand_row}
use Rattle.spp_site.specs.Rows.{Fits}
use Rattle.spp_site.specs.Table.{Sums, empty}
use Rattle.spp_stack.specs.Chain.{StackOf, HasFrames}
use Rattle.spp_site.specs.Profiles.{key_row}
use Rattle.spp_pass.specs.declared.part.PartResult.{PartResult}
use Rattle.spp_pass.specs.declared.counted_frame.CountedFrame.{CountedFrame}
use Rattle.spp_pass.specs.Passes.{Seen}

-- The trace is well-formed; the frames of the stack are those that are open before its event at i, with their states
-- under the burdens, and its work is that of the events before.
abbrev pub StandsAt : Recording → Burdens → ℕ → StackOf → Type 0
StandsAt trace burdens i stack = (es : List Event) × AreEvents trace.records es × IsWellFormed es
    × ((frames : List EntryFrame) × IsEntry es burdens trace.root i frames stack.work × HasFrames stack frames)

-- ---- frames that were open before

-- the spawn of the waiting child
abbrev pub spawn_of : Option (ℕ × ℕ) → Option ℕ
spawn_of None = None
spawn_of (Some c) = Some c.1

-- an open frame with no strands of its own yet; `top_func` tells that none below it runs its function
abbrev pub entered_frame : EntryFrame → Bool → CountedFrame
entered_frame f top_func = record {
  plain = weights_of f.state;
  burdened = weights_of f.burdened;
  before = f.before;
  local = 0;
  child = spawn_of f.state.child;
  burdened_child = spawn_of f.burdened.child;
  at = f.at;
  site = f.site;
  func = f.func;
  kind = f.kind;
  top_site = f.top_site;
  top_caller = f.top_caller;
  top_func = top_func;
}

-- the frames of a stack, the innermost first
abbrev pub entered_frames : List EntryFrame → List CountedFrame
entered_frames [] = []
entered_frames (f ∷ fs) = entered_frame f (not (has_func fs f.func)) ∷ entered_frames fs

-- before the part the innermost frame alone has been come to, and all sites and functions are marked
pub record IsBegun (f : EntryFrame) (fs : List EntryFrame) (before : ℕ) (s : Seen) : Type 0 where
  pub frames : s.frames ≡ entered_frame f (not (has_func fs f.func)) ∷ []
  pub open_sites : (x : ℕ) → s.open_sites x ≡ has_site (f ∷ fs) x
  pub open_funcs : (x : ℕ) → s.open_funcs x ≡ has_func (f ∷ fs) x
  pub work : s.work ≡ before
  pub table : s.table ≡ empty
  pub ends : s.ends ≡ []
  pub joins : s.joins ≡ []
  pub burdened_joins : s.burdened_joins ≡ []

-- these frames are outside
abbrev pub IsOutside : Option StackOf → List EntryFrame → Type 0
IsOutside None fs = fs ≡ []
IsOutside (Some stack) fs = HasFrames stack fs

-- The frames fs were outside, and those of `left` still are. The others were come to: one more at most, so that two have
-- been come to if there are two in all, and no more where two had been.
pub record IsReached (old new : Seen) (fs : List EntryFrame) (left : Option StackOf) : Type 0 where
  pub outside : List EntryFrame
  pub are : IsOutside left outside
  pub frames : new.frames ++ entered_frames outside ≡ old.frames ++ entered_frames fs
  pub two : 1 < length (old.frames ++ entered_frames fs) → 1 < length new.frames
  pub one : length new.frames ≤ suc (length old.frames)
  pub stays : 1 < length old.frames → new.frames ≡ old.frames
  pub others : new ≡ record old { frames = new.frames }

-- ---- the end of the part

-- the row that a frame belongs to
abbrev pub frame_key : CountedFrame → Option ℕ
frame_key f = site_by f.kind f.site

-- the strands of open frames that the row of a key lacks
abbrev pub local_rows : List CountedFrame → Option ℕ → Row
local_rows [] key = zero_row
local_rows (f ∷ fs) key = plus (cond (same_key (frame_key f) key) (strand_row f.local) zero_row) (local_rows fs key)

-- strands were added to the row of a key
abbrev pub AreStrandsAdded : Sums → Sums → Option ℕ → ℕ → Type 0
AreStrandsAdded old new at count = (key : Option ℕ)
    → key_row new key ≡ cond (same_key at key) (plus (key_row old key) (strand_row count)) (key_row old key)

-- the sites of these frames are below n
abbrev pub AreBelow : ℕ → List CountedFrame → Type 0
AreBelow n fs = AllByRecursion (λ f. f.site < n) fs

-- the rows fit their types with these strands
abbrev pub FitsOpen : Seen → Type 0
FitsOpen s = (key : Option ℕ) → Fits (plus (key_row s.table key) (local_rows s.frames key))

-- the share of the part
abbrev pub IsShareSuspended : Seen → Sums → Type 0
IsShareSuspended s share = (key : Option ℕ) → key_row share key ≡ plus (key_row s.table key) (local_rows s.frames key)

-- what the part comes to
pub record IsSuspended (s : Seen) (p : PartResult) : Type 0 where
  pub share : (key : Option ℕ) → key_row p.share key ≡ plus (key_row s.table key) (local_rows s.frames key)
  pub ends : p.choices.ends.items ≡ s.ends
  pub joins : p.choices.joins.items ≡ s.joins
  pub burdened_joins : p.choices.burdened_joins.items ≡ s.burdened_joins
