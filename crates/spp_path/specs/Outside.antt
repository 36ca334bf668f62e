-- What a pass over a part of a run has of the frames that were open before it, of which those that it hasn't come to lie
-- outside, and the strands of those that it leaves open.
use Rattle.std.specs.Prelude.{◌≡◌, ℕ, suc, ◌<◌, ◌≤◌, Bool, not, cond, List, [], ◌∷◌, ◌++◌, length, map, Option, Some, None}
use Rattle.std.specs.List.{AllByRecursion}
use Rattle.spp_event.specs.declared.records.Event.{Event}
use Rattle.spp_event.specs.Recordings.{Recording}
use Rattle.spp_frame.specs.Nesting.{AreEvents}
use Rattle.spp_maxplus.specs.declared.state.Burdens.{Burdens}
use Rattle.spp_maxplus.specs.Weights.{weights_of}
use Rattle.spp_dag.specs.declared.row.Row.{Row}
use Rattle.spp_dag.specs.declared.stack.EntryFrame.{EntryFrame}
use Rattle.spp_dag.specs.Trace.{IsWellFormed}
use Rattle.spp_dag.specs.Choices.{IsEntry}
use Rattle.spp_dag.specs.Shares.{plus, zero_row}
use Rattle.spp_dag.specs.Steps.{site_by, same_key, has_site, has_func, strand_row}
use Rattle.spp_site.specs.Rows.{Fits}
use Rattle.spp_site.specs.Table.{Sums, empty}
use Rattle.spp_site.specs.Profiles.{key_row}
use Rattle.spp_stack.specs.Chain.{StackOf, HasFrames}
use Rattle.spp_path.specs.declared.rows.EnteredFrame.{EnteredFrame}
use Rattle.spp_path.specs.declared.spans.OpenSpan.{OpenSpan}
use Rattle.spp_path.specs.declared.trail.Trail.{Trail}
use Rattle.spp_path.specs.Rows.{Told}

-- The trace is well-formed; the frames of the stack are those that are open before its event at i, with their states
-- under the burdens, and its work is that of the events before.
abbrev pub HasEntry : Recording → Burdens → ℕ → StackOf → Type 0
HasEntry trace burdens i stack = (es : List Event) × AreEvents trace.records es × IsWellFormed es
    × ((frames : List EntryFrame) × IsEntry es burdens trace.root i frames stack.work × HasFrames stack frames)

-- ---- frames that were open before

-- an open frame, as far as its span goes
abbrev pub entered_span : EntryFrame → OpenSpan
entered_span f = record { weights = weights_of f.state; kind = f.kind }

abbrev pub entered_spans : List EntryFrame → List OpenSpan
entered_spans fs = map entered_span fs

-- one that the path enters, with no strands of its own yet; `top_func` tells that none below it runs its function
abbrev pub path_frame : EntryFrame → Bool → EnteredFrame
path_frame f top_func = record {
  site = f.site;
  func = f.func;
  top_site = f.top_site;
  top_caller = f.top_caller;
  top_func = top_func;
  kind = f.kind;
  work_before = f.before;
  local = 0;
}

-- the frames of a stack, the innermost first
abbrev pub path_frames : List EntryFrame → List EnteredFrame
path_frames [] = []
path_frames (f ∷ fs) = path_frame f (not (has_func fs f.func)) ∷ path_frames fs

-- before the part the innermost frame alone has been come to, and all sites and functions are marked
pub record IsBegun (f : EntryFrame) (fs : List EntryFrame) (before : ℕ) (trail : Trail) (t : Told) : Type 0 where
  pub frames : t.frames ≡ path_frame f (not (has_func fs f.func)) ∷ []
  pub trail_is : t.trail ≡ trail
  pub open_sites : (x : ℕ) → t.open_sites x ≡ has_site (f ∷ fs) x
  pub open_funcs : (x : ℕ) → t.open_funcs x ≡ has_func (f ∷ fs) x
  pub work : t.work ≡ before
  pub table : t.table ≡ empty

-- these frames are outside
abbrev pub IsOutside : Option StackOf → List EntryFrame → Type 0
IsOutside None fs = fs ≡ []
IsOutside (Some stack) fs = HasFrames stack fs

-- The frames fs were outside, and those of `left` still are. The others were come to: one more at most, so that two have
-- been come to if there are two in all, and no more where two had been. What was come to stays so.
pub record IsReached (X : Type 0) (shown : List EntryFrame → List X) (old new : List X) (fs : List EntryFrame) (left : Option StackOf) : Type 0 where
  pub outside : List EntryFrame
  pub are : IsOutside left outside
  pub frames : new ++ shown outside ≡ old ++ shown fs
  pub two : 1 < length (old ++ shown fs) → 1 < length new
  pub one : length new ≤ suc (length old)
  pub more : length old ≤ length new
  pub stays : 1 < length old → new ≡ old

-- ---- the end of the part

-- the row that a frame belongs to
abbrev pub frame_key : EnteredFrame → Option ℕ
frame_key f = site_by f.kind f.site

-- the path's strands of open frames that the row of a key lacks
abbrev pub local_rows : List EnteredFrame → Option ℕ → Row
local_rows [] key = zero_row
local_rows (f ∷ fs) key = plus (cond (same_key (frame_key f) key) (strand_row f.local) zero_row) (local_rows fs key)

-- strands were added to the row of a key
abbrev pub AreStrandsAdded : Sums → Sums → Option ℕ → ℕ → Type 0
AreStrandsAdded old new at count = (key : Option ℕ)
    → key_row new key ≡ cond (same_key at key) (plus (key_row old key) (strand_row count)) (key_row old key)

-- the sites of these frames are below n
abbrev pub AreBelow : ℕ → List EnteredFrame → Type 0
AreBelow n fs = AllByRecursion (λ f. f.site < n) fs

-- the rows fit their types with these strands
abbrev pub FitsOpen : Told → Type 0
FitsOpen t = (key : Option ℕ) → Fits (plus (key_row t.table key) (local_rows t.frames key))

-- what the part comes to
abbrev pub IsSuspended : Told → Sums → Type 0
IsSuspended t share = (key : Option ℕ) → key_row share key ≡ plus (key_row t.table key) (local_rows t.frames key)
