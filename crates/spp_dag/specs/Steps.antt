-- What one event does to the frames that are open before it, as they are told where a range begins, and what it adds
-- to a row.
use Rattle.std.specs.Prelude.{◌≡◌, ℕ, suc, ◌+◌, ◌-◌, Bool, true, false, cond, not, ◌&&◌, ◌||◌, nat_eq, List, [], ◌∷◌, Option, Some, None}
use Rattle.spp_event.specs.declared.records.Event.{Event}
use Rattle.spp_event.specs.declared.records.Event.TheVariants.{Strand, Call, Spawn, Ret, Sync}
use Rattle.spp_maxplus.specs.declared.state.Burdens.{Burdens}
use Rattle.spp_maxplus.specs.State.{unburdened, start, close, after_strand, after_sync}
use Rattle.spp_dag.specs.declared.row.Row.{Row}
use Rattle.spp_dag.specs.declared.stack.EntryFrame.{EntryFrame}
use Rattle.spp_dag.specs.declared.stack.FrameKind.{FrameKind}
use Rattle.spp_dag.specs.declared.stack.FrameKind.TheVariants.{Root, Called, Spawned}
use Rattle.spp_dag.specs.Trace.{event_at, weight, IsWellFormed}
use Rattle.spp_dag.specs.Rows.{AreSpans}
use Rattle.spp_dag.specs.Stack.{after_child}
use Rattle.spp_dag.specs.Shares.{share, zero_row}
use Rattle.spp_dag.specs.Choices.{IsEntry, first_of}

-- the site by which an open frame of that kind was entered; none for the root
abbrev pub site_by : FrameKind → ℕ → Option ℕ
site_by Root site = None
site_by Called site = Some site
site_by Spawned site = Some site

-- the row that an open frame belongs to: that of its site, or the root's
abbrev pub key_of : EntryFrame → Option ℕ
key_of f = site_by f.kind f.site

-- whether two rows are one
abbrev pub same_key : Option ℕ → Option ℕ → Bool
same_key None None = true
same_key (Some a) (Some b) = nat_eq a b
same_key _ _ = false

-- one of the frames was entered by the site
abbrev pub has_site : List EntryFrame → ℕ → Bool
has_site [] site = false
has_site (f ∷ fs) site = same_key (key_of f) (Some site) || has_site fs site

-- one of the frames runs the function
abbrev pub has_func : List EntryFrame → ℕ → Bool
has_func [] func = false
has_func (f ∷ fs) func = nat_eq f.func func || has_func fs func

-- A frame that is opened at i by the innermost of the open frames: it is a top frame by site where none of them was
-- entered by its site, and by caller where none that encloses its caller runs the caller's function.
abbrev pub opened : FrameKind → ℕ → ℕ → ℕ → ℕ → EntryFrame → List EntryFrame → EntryFrame
opened kind i site func work f fs = record {
  kind = kind;
  at = i;
  site = site;
  func = func;
  before = work;
  state = start;
  burdened = start;
  top_site = not (has_site (f ∷ fs) site);
  top_caller = not (has_func fs f.func);
}

-- the frame, after a strand in it
abbrev pub stranded : ℕ → EntryFrame → EntryFrame
stranded count f = record f { state = after_strand count f.state; burdened = after_strand count f.burdened }

-- the frame, after a sync
abbrev pub waited : EntryFrame → EntryFrame
waited f = record f { state = after_sync f.state; burdened = after_sync f.burdened }

-- the frame g, after the return of the frame f that it opened
abbrev pub returned : Burdens → EntryFrame → EntryFrame → EntryFrame
returned burdens f g = record g {
  state = after_child unburdened f.kind f.at (close f.state) g.state;
  burdened = after_child burdens f.kind f.at (close f.burdened) g.burdened;
}

-- what the event at i makes of the open frames, innermost first; a return of the last one makes none
abbrev pub entry_after : Burdens → ℕ → Event → ℕ → List EntryFrame → List EntryFrame
entry_after burdens i e work [] = []
entry_after burdens i (Strand count) work (f ∷ fs) = stranded count f ∷ fs
entry_after burdens i (Call site func) work (f ∷ fs) = opened Called i site func work f fs ∷ f ∷ fs
entry_after burdens i (Spawn site func) work (f ∷ fs) = opened Spawned i site func work f fs ∷ f ∷ fs
entry_after burdens i Sync work (f ∷ fs) = waited f ∷ fs
entry_after burdens i Ret work (f ∷ []) = []
entry_after burdens i Ret work (f ∷ g ∷ fs) = returned burdens f g ∷ fs

-- what a frame's close adds besides its strands, where `work` is the work so far
abbrev pub closed_row : EntryFrame → ℕ → Row
closed_row f work = record {
  count = 1;
  local = 0;
  site_count = cond f.top_site 1 0;
  site_work = cond f.top_site (work - f.before) 0;
  site_span = cond f.top_site (close f.state) 0;
  caller_count = cond f.top_caller 1 0;
  caller_work = cond f.top_caller (work - f.before) 0;
  caller_span = cond f.top_caller (close f.state) 0;
}

-- the row of a strand alone
abbrev pub strand_row : ℕ → Row
strand_row count = record zero_row { local = count }

-- what the event at i adds to the row of a key, where f is the innermost frame and that is the work before
abbrev pub gain : (ℕ → Bool) → Option ℕ → ℕ → Event → EntryFrame → ℕ → Row
gain on key i (Strand count) f work = cond (on i && same_key (key_of f) key) (strand_row count) zero_row
gain on key i Ret f work = cond (on (first_of f.kind f.at) && same_key (key_of f) key) (closed_row f work) zero_row
gain on key i e f work = zero_row

-- ---- laws

-- an event makes the entry of its position that of the next
abbrev pub EntryFollows : Type 0
EntryFollows = (es : List Event) → IsWellFormed es → (burdens : Burdens) (root i : ℕ) (e : Event) → event_at es i ≡ Some e
    → (fs : List EntryFrame) (work : ℕ) → IsEntry es burdens root i fs work
    → IsEntry es burdens root (suc i) (entry_after burdens i e work fs) (work + weight es i)

-- and adds to each row its gain
abbrev pub ShareFollows : Type 0
ShareFollows = (es : List Event) → IsWellFormed es → (burdens : Burdens) (root : ℕ) (span : ℕ → ℕ) → AreSpans es span → (on : ℕ → Bool) (key : Option ℕ)
    → (i : ℕ) (e : Event) → event_at es i ≡ Some e → (f : EntryFrame) (fs : List EntryFrame) (work : ℕ) → IsEntry es burdens root i (f ∷ fs) work
    → share es root span on key i (suc i) ≡ gain on key i e f work
