-- What one pass over the events of a run has between two events, and what each event does to it.
use Rattle.std.specs.Prelude.{◌≡◌, ℕ, ◌+◌, ◌-◌, ◌<◌, ◌≤◌, ◌^◌, Bool, true, false, cond, not, nat_lt, List, [], ◌∷◌, ◌++◌, reverse, Option, Some, None}
use Rattle.spp_maxplus.specs.declared.state.Burdens.{Burdens}
use Rattle.spp_maxplus.specs.declared.state.State.{State}
use Rattle.spp_maxplus.specs.State.{unburdened, taken}
use Rattle.spp_dag.specs.declared.row.Row.{Row}
use Rattle.spp_dag.specs.declared.stack.FrameKind.{FrameKind}
use Rattle.spp_dag.specs.declared.stack.FrameKind.TheVariants.{Root, Called, Spawned}
use Rattle.spp_dag.specs.Shares.{plus}
use Rattle.spp_site.specs.Rows.{Fits, frame_row}
use Rattle.spp_site.specs.Table.{Sums, row_at, empty, IsAdded}
use Rattle.spp_site.specs.Marks.{is_marked, with_mark, without}
use Rattle.spp_dag.specs.declared.choices.End.{End}
use Rattle.spp_dag.specs.declared.choices.Choice.{Choice}
use Rattle.spp_site.specs.declared.closed_frame.ClosedFrame.{ClosedFrame}
use Rattle.spp_pass.specs.declared.counted_frame.CountedFrame.{CountedFrame}
use Rattle.spp_pass.specs.declared.counted_frame.Returned.{Returned}
use Rattle.spp_dag.specs.declared.choices.Choices.{Choices}
use Rattle.spp_ways.specs.declared.open_ways.OnPaths.{OnPaths}
use Rattle.spp_ways.specs.Ways.{takes, outruns}
use Rattle.spp_pass.specs.declared.counting.Counting.{Counting}
use Rattle.spp_pass.specs.declared.counting.Closing.{Closing}
use Rattle.spp_pass.specs.declared.counting.Ended.{Ended}
use Rattle.spp_pass.specs.declared.counting.Popped.{Popped}
use Rattle.spp_ways.specs.Enclosures.{outer_caller}
use Rattle.spp_pass.specs.declared.summing.Summing.{Summing}
use Rattle.spp_maxplus.specs.declared.weights.Weights.{Weights}
use Rattle.spp_maxplus.specs.Weights.{start, close, after_strand, after_sync}
use Rattle.spp_pass.specs.LeanFrames.{after_child}

-- ---- one frame

-- the waiting child, with its weight
abbrev pub child_of : ℕ → Option ℕ → Option (ℕ × ℕ)
child_of weight None = None
child_of weight (Some spawn) = Some (weight, spawn)

-- the state of a frame with these weights and that waiting child
abbrev pub standing : Weights → Option ℕ → State
standing w child = record { spine = w.spine; child = child_of w.child child }

-- the frame's state without burdens
abbrev pub state_of : CountedFrame → State
state_of f = standing f.plain f.child

-- and with them
abbrev pub burdened_state_of : CountedFrame → State
burdened_state_of f = standing f.burdened f.burdened_child

-- a frame that is opened at `at` when the work so far is `before`
abbrev pub opened_frame : FrameKind → ℕ → ℕ → ℕ → ℕ → Bool → Bool → Bool → CountedFrame
opened_frame kind at site func before top_site top_caller top_func = record {
  plain = start;
  burdened = start;
  before = before;
  local = 0;
  child = None;
  burdened_child = None;
  at = at;
  site = site;
  func = func;
  kind = kind;
  top_site = top_site;
  top_caller = top_caller;
  top_func = top_func;
}

-- a strand is added
abbrev pub strand_frame : ℕ → CountedFrame → CountedFrame
strand_frame count f = record f {
  plain = after_strand count f.plain;
  burdened = after_strand count f.burdened;
  local = f.local + count;
}

-- it has waited for its children
abbrev pub sync_frame : CountedFrame → CountedFrame
sync_frame f = record f { plain = after_sync f.plain; burdened = after_sync f.burdened; child = None; burdened_child = None }

-- Of a waiting child of that weight, if there is one, and the one spawned at `at`, through which the weight is
-- `through`, the greater; of equal ones the first.
abbrev pub greater_child : ℕ → Option ℕ → ℕ → ℕ → Option ℕ
greater_child weight None at through = Some at
greater_child weight (Some spawn) at through = cond (nat_lt weight through) (Some at) (Some spawn)

-- what the return of the frame f tells its parent
abbrev pub returned_of : CountedFrame → Returned
returned_of f = record { kind = f.kind; at = f.at; plain = close f.plain; burdened = close f.burdened }

-- The waiting child of a frame with these weights, where a frame has returned to it that was opened at `at`. From the
-- spine on the weight through that frame is `through`.
abbrev pub child_after : FrameKind → ℕ → ℕ → Weights → Option ℕ → Option ℕ
child_after Root at through w child = child
child_after Called at through w child = child
child_after Spawned at through w child = greater_child w.child child at (w.spine + through)

-- the frame g, where a frame has returned to it
abbrev pub received : Burdens → Returned → CountedFrame → CountedFrame
received burdens r g = record g {
  plain = after_child unburdened r.kind r.plain g.plain;
  burdened = after_child burdens r.kind r.burdened g.burdened;
  child = child_after r.kind r.at r.plain g.plain g.child;
  burdened_child = child_after r.kind r.at (r.burdened + burdens.join) g.burdened g.burdened_child;
}

abbrev pub returned_frame : Burdens → CountedFrame → CountedFrame → CountedFrame
returned_frame burdens f g = received burdens (returned_of f) g

-- the frame as the table counts it, with the strands directly in it, where it closes when that is the work so far
abbrev pub closed_of : CountedFrame → ℕ → ClosedFrame
closed_of f work = record {
  local = f.local;
  work = work - f.before;
  span = close f.plain;
  top_site = f.top_site;
  top_caller = f.top_caller;
}

-- its row
abbrev pub row_of : CountedFrame → ℕ → Row
row_of f work = frame_row (closed_of f work)

-- on which paths a frame takes the child that waits in it
abbrev pub takes_of : CountedFrame → OnPaths
takes_of f = record { plain = takes (state_of f); burdened = takes (burdened_state_of f) }

-- a strand of that many instructions fits
pub record FitsStrand (count : ℕ) (f : CountedFrame) : Type 0 where
  pub plain : close f.plain + count < 2 ^ 128
  pub burdened : close f.burdened + count < 2 ^ 128
  pub local : f.local + count < 2 ^ 128

-- the weights of the frame g, where a frame returns to it, fit
pub record FitsReturn (burdens : Burdens) (r : Returned) (g : CountedFrame) : Type 0 where
  pub plain : r.plain + close g.plain < 2 ^ 128
  pub burdened : r.burdened + close g.burdened + (burdens.continuation + burdens.join) < 2 ^ 128

-- ---- the pass

-- the open frames, innermost first; the sites by which they were entered, and the functions that they run; the work so
-- far; the table; and the choices, with the joins of each of both paths
pub record Seen : Type 0 where
  pub frames : List CountedFrame
  pub open_sites : ℕ → Bool
  pub open_funcs : ℕ → Bool
  pub work : ℕ
  pub table : Sums
  pub ends : List End
  pub joins : List Choice
  pub burdened_joins : List Choice

-- the choices that a pass has noted
pub record Notes : Type 0 where
  pub ends : List End
  pub joins : List Choice
  pub burdened_joins : List Choice

abbrev pub no_notes : Notes
no_notes = record { ends = []; joins = []; burdened_joins = [] }

-- what is counted, with these choices beside it
abbrev pub seen_with : Counting → Notes → Seen
seen_with c n = record {
  frames = reverse c.frames.items;
  open_sites = is_marked c.open_sites;
  open_funcs = is_marked c.open_funcs;
  work = c.work;
  table = c.table;
  ends = n.ends;
  joins = n.joins;
  burdened_joins = n.burdened_joins;
}

abbrev pub notes_of : Choices → Notes
notes_of c = record { ends = c.ends.items; joins = c.joins.items; burdened_joins = c.burdened_joins.items }

abbrev pub seen : Summing → Seen
seen s = seen_with s.counting (notes_of s.choices)

-- before the first event the root frame is open, which runs `root`
abbrev pub start_seen : ℕ → Seen
start_seen root = record {
  frames = opened_frame Root 0 0 root 0 true true true ∷ [];
  open_sites = λ site. false;
  open_funcs = with_mark root (λ func. false);
  work = 0;
  table = empty;
  ends = [];
  joins = [];
  burdened_joins = [];
}

-- the innermost frame is as P says; there is one
abbrev pub OnTop : (CountedFrame → Type 0) → List CountedFrame → Type 0
OnTop P [] = ⊥
OnTop P (f ∷ fs) = P f

-- some frame is open
abbrev pub HasOpen : Seen → Type 0
HasOpen s = OnTop (λ f. Unit {0}) s.frames

-- the innermost frame has changed
abbrev pub on_top : (CountedFrame → CountedFrame) → List CountedFrame → List CountedFrame
on_top change [] = []
on_top change (f ∷ fs) = change f ∷ fs

-- ---- a strand

abbrev pub CanAdd : ℕ → Seen → Type 0
CanAdd count s = OnTop (FitsStrand count) s.frames × (s.work + count < 2 ^ 128)

abbrev pub strand_seen : ℕ → Seen → Seen
strand_seen count s = record s { frames = on_top (strand_frame count) s.frames; work = s.work + count }

-- ---- a sync

-- what the path comes from where a frame waits at `at`, if a child waits in it, as it takes that one or none
abbrev pub choice_of : ℕ → Option (ℕ × ℕ) → Option ℕ → Option Choice
choice_of at None taken = None
choice_of at (Some child) taken = Some (record { at = at; taken = taken })

abbrev pub choice_at : ℕ → State → Option Choice
choice_at at s = choice_of at s.child (taken s)

abbrev pub listed : Option Choice → List Choice
listed None = []
listed (Some c) = c ∷ []

-- what is noted where a frame of that state waits at `at`
abbrev pub joins_at : ℕ → State → List Choice
joins_at at s = listed (choice_at at s)

-- what is noted where the innermost frame waits at `at`, for the path that this state of a frame settles
abbrev pub top_joins : (CountedFrame → State) → ℕ → List CountedFrame → List Choice
top_joins state at [] = []
top_joins state at (f ∷ fs) = joins_at at (state f)

abbrev pub sync_seen : ℕ → Seen → Seen
sync_seen at s = record s {
  frames = on_top sync_frame s.frames;
  joins = s.joins ++ top_joins state_of at s.frames;
  burdened_joins = s.burdened_joins ++ top_joins burdened_state_of at s.frames;
}

-- ---- a call, and a spawn

-- The innermost frame opens one at `at`. That is a top frame by site where no open frame was entered by its site, by
-- caller where its opener is one by function, and by function where no open frame runs its function.
abbrev pub open_frames : FrameKind → ℕ → ℕ → ℕ → Seen → List CountedFrame → List CountedFrame
open_frames kind at site func s [] = []
open_frames kind at site func s (f ∷ fs) =
    opened_frame kind at site func s.work (not (s.open_sites site)) f.top_func (not (s.open_funcs func)) ∷ f ∷ fs

abbrev pub open_seen : FrameKind → ℕ → ℕ → ℕ → Seen → Seen
open_seen kind at site func s = record s {
  frames = open_frames kind at site func s s.frames;
  open_sites = with_mark site s.open_sites;
  open_funcs = with_mark func s.open_funcs;
}

-- ---- a return

-- the innermost frame f can return to the frame g
pub record CanClose (burdens : Burdens) (f g : CountedFrame) (s : Seen) : Type 0 where
  pub fits : FitsReturn burdens (returned_of f) g
  pub before : f.before ≤ s.work
  pub site : f.site < 65536
  pub row : Fits (plus (row_at s.table f.site) (row_of f s.work))

-- some frame is open, and if it isn't alone it can return
abbrev pub CanReturn : Burdens → Seen → List CountedFrame → Type 0
CanReturn burdens s [] = ⊥
CanReturn burdens s (f ∷ []) = Unit {0}
CanReturn burdens s (f ∷ g ∷ fs) = CanClose burdens f g s

-- what is noted where a frame of that kind, opened at `spawn`, returns at `at`
abbrev pub ends_at : ℕ → FrameKind → ℕ → List End
ends_at at Root spawn = []
ends_at at Called spawn = []
ends_at at Spawned spawn = record { at = at; spawn = spawn } ∷ []

-- the innermost frame f has returned at `at` to g, below which the frames fs are open, and the table has its row
pub record IsReturned (burdens : Burdens) (at : ℕ) (f g : CountedFrame) (fs : List CountedFrame) (old new : Seen) : Type 0 where
  pub frames : new.frames ≡ returned_frame burdens f g ∷ fs
  pub open_sites : new.open_sites ≡ without f.top_site f.site old.open_sites
  pub open_funcs : new.open_funcs ≡ without f.top_func f.func old.open_funcs
  pub work : new.work ≡ old.work
  pub table : IsAdded old.table new.table f.site (row_of f old.work)
  pub ends : new.ends ≡ old.ends ++ ends_at at f.kind f.at
  pub joins : new.joins ≡ old.joins ++ joins_at at (state_of f)
  pub burdened_joins : new.burdened_joins ≡ old.burdened_joins ++ joins_at at (burdened_state_of f)

-- whether the innermost of the frames has returned: the root alone doesn't
abbrev pub Returns : Burdens → ℕ → Seen → List CountedFrame → Bool → Seen → Type 0
Returns burdens at old [] went new = ⊥
Returns burdens at old (f ∷ []) went new = went ≡ false
Returns burdens at old (f ∷ g ∷ fs) went new = (went ≡ true) × IsReturned burdens at f g fs old new

-- ---- the innermost frame taken out

-- some frame is open, and if it isn't alone the innermost can be taken out
abbrev pub CanPop : Burdens → Seen → List CountedFrame → Type 0
CanPop burdens s [] = ⊥
CanPop burdens s (f ∷ []) = Unit {0}
CanPop burdens s (f ∷ g ∷ fs) = FitsReturn burdens (returned_of f) g × (f.before ≤ s.work)

-- what there is where the innermost frame f has returned to g, below which the frames fs are open, and no table has its row
abbrev pub popped_seen : Burdens → ℕ → CountedFrame → CountedFrame → List CountedFrame → Seen → Seen
popped_seen burdens at f g fs s = record s {
  frames = returned_frame burdens f g ∷ fs;
  open_sites = without f.top_site f.site s.open_sites;
  open_funcs = without f.top_func f.func s.open_funcs;
  ends = s.ends ++ ends_at at f.kind f.at;
  joins = s.joins ++ joins_at at (state_of f);
  burdened_joins = s.burdened_joins ++ joins_at at (burdened_state_of f);
}

abbrev pub Pops : Burdens → ℕ → Seen → List CountedFrame → Bool → Seen → Type 0
Pops burdens at old [] went new = ⊥
Pops burdens at old (f ∷ []) went new = went ≡ false
Pops burdens at old (f ∷ g ∷ fs) went new = (went ≡ true) × (new ≡ popped_seen burdens at f g fs old)

-- ---- the end

-- the innermost frame can close last
abbrev pub CanFinish : Seen → Type 0
CanFinish s = OnTop (λ f. (f.before ≤ s.work) × Fits (plus s.table.root (row_of f s.work))) s.frames

-- the innermost of the frames has closed at the end, and this is told
abbrev pub IsEnded : Seen → List CountedFrame → Ended → Type 0
IsEnded s [] e = ⊥
IsEnded s (f ∷ fs) e = (e.figures ≡ record { work = s.work; span = close f.plain; burdened = close f.burdened })
    × (e.dag ≡ record s.table { root = plus s.table.root (row_of f s.work) })
    × (e.root ≡ closed_of f s.work)
    × (e.takes ≡ takes_of f)

-- ---- what is told of ways

-- the innermost frame is f
abbrev pub IsTop : CountedFrame → List CountedFrame → Type 0
IsTop f frames = OnTop (λ g. f ≡ g) frames

abbrev pub AreTakes : OnPaths → List CountedFrame → Type 0
AreTakes answer frames = OnTop (λ f. answer ≡ takes_of f) frames

-- on which paths the way through the frame f, which returns to g, is greater than that through the child that waits there
abbrev pub wins_of : Burdens → CountedFrame → CountedFrame → OnPaths
wins_of burdens f g = record {
  plain = outruns (state_of g).child (g.plain.spine + close f.plain);
  burdened = outruns (burdened_state_of g).child (g.burdened.spine + (close f.burdened + burdens.join));
}

-- what the return of the frame f to g tells
abbrev pub closing_of : Burdens → ℕ → CountedFrame → CountedFrame → Closing
closing_of burdens work f g = record {
  kind = f.kind;
  site = f.site;
  closed = closed_of f work;
  takes = takes_of f;
  wins = wins_of burdens f g;
}

abbrev pub IsClosing : Burdens → ℕ → List CountedFrame → Option Closing → Type 0
IsClosing burdens work [] closing = ⊥
IsClosing burdens work (f ∷ []) closing = closing ≡ None
IsClosing burdens work (f ∷ g ∷ fs) closing = closing ≡ Some (closing_of burdens work f g)

-- the function of the caller of a frame, above these in the list of open frames; none is told where that is the outermost
abbrev pub caller_in : List CountedFrame → ℕ
caller_in [] = outer_caller
caller_in (g ∷ []) = outer_caller
caller_in (g ∷ h ∷ fs) = g.func

abbrev pub IsPopped : Burdens → ℕ → List CountedFrame → Option Popped → Type 0
IsPopped burdens work [] popped = ⊥
IsPopped burdens work (f ∷ []) popped = popped ≡ None
IsPopped burdens work (f ∷ g ∷ fs) popped = popped ≡ Some (record { closing = closing_of burdens work f g; caller = caller_in (g ∷ fs) })

-- the choices, where the innermost frame waits, and where it returns
abbrev pub noted_sync : ℕ → List CountedFrame → Notes → Notes
noted_sync at frames n = record {
  ends = n.ends;
  joins = n.joins ++ top_joins state_of at frames;
  burdened_joins = n.burdened_joins ++ top_joins burdened_state_of at frames;
}

abbrev pub top_ends : ℕ → List CountedFrame → List End
top_ends at [] = []
top_ends at (f ∷ fs) = ends_at at f.kind f.at

abbrev pub noted_return : ℕ → List CountedFrame → Notes → Notes
noted_return at frames n = record {
  ends = n.ends ++ top_ends at frames;
  joins = n.joins ++ top_joins state_of at frames;
  burdened_joins = n.burdened_joins ++ top_joins burdened_state_of at frames;
}
