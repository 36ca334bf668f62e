-- What the pass that sums up the rows of the path has between two events, and what each event does to it.
use Rattle.std.specs.Prelude.{◌≡◌, ℕ, ◌+◌, ◌-◌, ◌<◌, ◌≤◌, ◌^◌, Bool, not, cond, List, [], ◌∷◌, length, reverse, Ok}
use Rattle.spp_event.specs.declared.records.Event.{Event}
use Rattle.spp_event.specs.Records.{IsEventOf}
use Rattle.spp_event.specs.Recordings.{Recording, record_at}
use Rattle.spp_dag.specs.declared.row.Row.{Row}
use Rattle.spp_dag.specs.declared.stack.FrameKind.{FrameKind}
use Rattle.spp_dag.specs.Shares.{plus}
use Rattle.spp_site.specs.Rows.{Fits}
use Rattle.spp_site.specs.Table.{Sums, row_at, IsAdded}
use Rattle.spp_site.specs.Marks.{is_marked, with_mark, without}
use Rattle.spp_path.specs.declared.trail.Trail.{Trail}
use Rattle.spp_path.specs.Flags.{is_called}
use Rattle.spp_path.specs.Trails.{running_trail, skip_trail, leave_trail}
use Rattle.spp_path.specs.declared.rows.EnteredFrame.{EnteredFrame}
use Rattle.spp_path.specs.declared.rows.PathRows.{PathRows}

-- the open frames that the path enters, innermost first; where the path goes; the sites by which these frames were
-- entered, and the functions that they run; the work so far; and the table
pub record Told : Type 0 where
  pub frames : List EnteredFrame
  pub trail : Trail
  pub open_sites : ℕ → Bool
  pub open_funcs : ℕ → Bool
  pub work : ℕ
  pub table : Sums

abbrev pub told : PathRows → Told
told s = record {
  frames = reverse s.frames.items;
  trail = s.trail;
  open_sites = is_marked s.open_sites;
  open_funcs = is_marked s.open_funcs;
  work = s.work;
  table = s.table;
}

-- the innermost entered frame is as P says; there is one
abbrev pub OnTop : (EnteredFrame → Type 0) → List EnteredFrame → Type 0
OnTop P [] = ⊥
OnTop P (f ∷ fs) = P f

-- some entered frame is open
abbrev pub IsOpen : Told → Type 0
IsOpen t = OnTop (λ f. Unit {0}) t.frames

-- the row of a frame, which closes with that span when this is the work so far
abbrev pub entered_row : EnteredFrame → ℕ → ℕ → Row
entered_row f work span = record {
  count = 1;
  local = f.local;
  site_count = cond f.top_site 1 0;
  site_work = cond f.top_site (work - f.work_before) 0;
  site_span = cond f.top_site span 0;
  caller_count = cond f.top_caller 1 0;
  caller_work = cond f.top_caller (work - f.work_before) 0;
  caller_span = cond f.top_caller span 0;
}

-- ---- a strand, and a sync

-- a strand on the path is added to the innermost frame
abbrev pub strand_frames : ℕ → List EnteredFrame → List EnteredFrame
strand_frames count [] = []
strand_frames count (f ∷ fs) = record f { local = f.local + count } ∷ fs

abbrev pub strand_told : ℕ → Told → Told
strand_told count t =
    record t { frames = strand_frames count t.frames; work = t.work + count }

-- a strand beside the path is work alone
abbrev pub beside_told : ℕ → Told → Told
beside_told count t = record t { work = t.work + count }

-- the path's strands of the innermost frame
abbrev pub local_of : List EnteredFrame → ℕ
local_of [] = 0
local_of (f ∷ fs) = f.local

-- a strand of that many instructions fits
pub record CanAdd (count : ℕ) (t : Told) : Type 0 where
  pub local : local_of t.frames + count < 2 ^ 128
  pub work : t.work + count < 2 ^ 128

-- the innermost entered frame runs on, or doesn't
abbrev pub onward_told : Bool → Told → Told
onward_told b t = record t { trail = running_trail b t.trail }

-- ---- a call, and a spawn

-- The frame that the frame f opens, by a call or a spawn. It is a top frame by site where no open frame was entered by
-- its site, by caller where f is one by function, and by function where no open frame runs its function.
abbrev pub entered_frame : FrameKind → ℕ → ℕ → Told → EnteredFrame → EnteredFrame
entered_frame kind site func t f = record {
  site = site;
  func = func;
  top_site = not (t.open_sites site);
  top_caller = f.top_func;
  top_func = not (t.open_funcs func);
  kind = kind;
  work_before = t.work;
  local = 0;
}

abbrev pub enter_frames : FrameKind → ℕ → ℕ → Told → List EnteredFrame → List EnteredFrame
enter_frames kind site func t [] = []
enter_frames kind site func t (f ∷ fs) = entered_frame kind site func t f ∷ f ∷ fs

-- the innermost frame opens one that the path enters
abbrev pub enter_told : FrameKind → ℕ → ℕ → Told → Told
enter_told kind site func t = record t {
  frames = enter_frames kind site func t t.frames;
  open_sites = with_mark site t.open_sites;
  open_funcs = with_mark func t.open_funcs;
}

-- it opens one that the path doesn't enter
abbrev pub skip_told : Told → Told
skip_told t = record t { trail = skip_trail t.trail }

-- ---- a return

-- a frame has closed that the path doesn't enter
abbrev pub leave_told : Told → Told
leave_told t = record t { trail = leave_trail t.trail }

abbrev pub frames_below : List EnteredFrame → List EnteredFrame
frames_below [] = []
frames_below (f ∷ fs) = fs

-- the innermost entered frame f can close with that span
pub record CanReturn (f : EnteredFrame) (span : ℕ) (t : Told) : Type 0 where
  pub deep : 1 < length t.frames
  pub work_before : f.work_before ≤ t.work
  pub site : f.site < 65536
  pub row : Fits (plus (row_at t.table f.site) (entered_row f t.work span))

-- it has closed, and the table has its row
pub record IsReturned (f : EnteredFrame) (span : ℕ) (old new : Told) : Type 0 where
  pub frames : new.frames ≡ frames_below old.frames
  pub trail : new.trail ≡ running_trail (is_called f.kind) old.trail
  pub open_sites : new.open_sites ≡ without f.top_site f.site old.open_sites
  pub open_funcs : new.open_funcs ≡ without f.top_func f.func old.open_funcs
  pub work : new.work ≡ old.work
  pub table : IsAdded old.table new.table f.site (entered_row f old.work span)

-- ---- what is read

-- the trace has that event there, which is of its sites and functions
abbrev pub IsRead : Recording → ℕ → Event → Type 0
IsRead trace i e = (record_at trace.records i ≡ Ok e) × IsEventOf (length trace.sites) (length trace.funcs) e
