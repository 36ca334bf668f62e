-- The table's part of a pass: what it has between two events, and what each event does to it.
use Rattle.std.specs.Prelude.{◌≡◌, ℕ, ◌+◌, Bool, true, false, not, List, [], ◌∷◌}
use Rattle.spp_maxplus.specs.declared.state.Burdens.{Burdens}
use Rattle.spp_maxplus.specs.State.{start, close}
use Rattle.spp_dag.specs.declared.row.Row.{Row}
use Rattle.spp_dag.specs.declared.stack.EntryFrame.{EntryFrame}
use Rattle.spp_dag.specs.declared.stack.FrameKind.{FrameKind}
use Rattle.spp_dag.specs.declared.stack.FrameKind.TheVariants.{Root}
use Rattle.spp_dag.specs.Steps.{stranded, waited, returned, closed_row}
use Rattle.spp_site.specs.Table.{Sums, empty, IsAdded}
use Rattle.spp_site.specs.Marks.{with_mark, without}

-- an open frame; the counts of the strands directly in it, which the table doesn't have yet; and whether no frame that
-- encloses it runs its function
pub record Counted : Type 0 where
  pub entry : EntryFrame
  pub local : ℕ
  pub top_func : Bool

-- the open frames, innermost first; the sites by which they were entered, and the functions that they run; the work so
-- far; and the table
pub record Told : Type 0 where
  pub frames : List Counted
  pub open_sites : ℕ → Bool
  pub open_funcs : ℕ → Bool
  pub work : ℕ
  pub table : Sums

-- what the frames close with, all together
abbrev pub state_sum : List Counted → ℕ
state_sum [] = 0
state_sum (f ∷ fs) = close f.entry.state + state_sum fs

-- the row of a frame, which closes when that is the work so far, with the strands directly in it
abbrev pub full_row : Counted → ℕ → Row
full_row f work = record (closed_row f.entry work) { local = f.local }

-- before the first event the root frame is open, which runs `root`
abbrev pub start_told : ℕ → Told
start_told root = record {
  frames = record {
    entry = record { kind = Root; at = 0; site = 0; func = root; before = 0; state = start; burdened = start; top_site = true; top_caller = true };
    local = 0;
    top_func = true;
  } ∷ [];
  open_sites = λ site. false;
  open_funcs = with_mark root (λ func. false);
  work = 0;
  table = empty;
}

-- ---- a strand, and a sync

-- a strand is added to the innermost frame
abbrev pub strand_frames : ℕ → List Counted → List Counted
strand_frames count [] = []
strand_frames count (f ∷ fs) = record f { entry = stranded count f.entry; local = f.local + count } ∷ fs

abbrev pub strand_told : ℕ → Told → Told
strand_told count t = record t { frames = strand_frames count t.frames; work = t.work + count }

-- the innermost frame has waited for its children
abbrev pub sync_frames : List Counted → List Counted
sync_frames [] = []
sync_frames (f ∷ fs) = record f { entry = waited f.entry } ∷ fs

abbrev pub sync_told : Told → Told
sync_told t = record t { frames = sync_frames t.frames }

-- ---- a call, and a spawn

-- The frame that the frame f opens at `at`. It is a top frame by site where no open frame was entered by its site,
-- by caller where f is one by function, and by function where no open frame runs its function.
abbrev pub opened_frame : FrameKind → ℕ → ℕ → ℕ → Told → Counted → Counted
opened_frame kind at site func t f = record {
  entry = record {
    kind = kind;
    at = at;
    site = site;
    func = func;
    before = t.work;
    state = start;
    burdened = start;
    top_site = not (t.open_sites site);
    top_caller = f.top_func;
  };
  local = 0;
  top_func = not (t.open_funcs func);
}

abbrev pub open_frames : FrameKind → ℕ → ℕ → ℕ → Told → List Counted → List Counted
open_frames kind at site func t [] = []
open_frames kind at site func t (f ∷ fs) = opened_frame kind at site func t f ∷ f ∷ fs

abbrev pub open_told : FrameKind → ℕ → ℕ → ℕ → Told → Told
open_told kind at site func t = record t {
  frames = open_frames kind at site func t t.frames;
  open_sites = with_mark site t.open_sites;
  open_funcs = with_mark func t.open_funcs;
}

-- ---- a return

-- the innermost frame has returned to the next
abbrev pub return_frames : Burdens → List Counted → List Counted
return_frames burdens [] = []
return_frames burdens (f ∷ []) = []
return_frames burdens (f ∷ g ∷ fs) = record g { entry = returned burdens f.entry g.entry } ∷ fs

-- it has closed, and the table has its row
pub record IsReturned (burdens : Burdens) (f : Counted) (old new : Told) : Type 0 where
  pub frames : new.frames ≡ return_frames burdens old.frames
  pub open_sites : new.open_sites ≡ without f.entry.top_site f.entry.site old.open_sites
  pub open_funcs : new.open_funcs ≡ without f.top_func f.entry.func old.open_funcs
  pub work : new.work ≡ old.work
  pub table : IsAdded old.table new.table f.entry.site (full_row f old.work)
