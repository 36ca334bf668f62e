-- What the actions of a summary do to an entry.
use Rattle.std.specs.Prelude.{ℕ, ◌+◌, true, not, List, [], ◌∷◌}
use Rattle.spp_maxplus.specs.declared.state.Burdens.{Burdens}
use Rattle.spp_maxplus.specs.State.{start}
use Rattle.spp_maxplus.specs.Seg.{act, peak}
use Rattle.spp_dag.specs.declared.stack.EntryFrame.{EntryFrame}
use Rattle.spp_dag.specs.declared.stack.FrameKind.TheVariants.{Root}
use Rattle.spp_dag.specs.Steps.{has_site, has_func, returned}
use Rattle.spp_piece.specs.declared.pieces.Frame.{Frame}
use Rattle.spp_piece.specs.declared.segs.Segs.{Segs}
use Rattle.spp_piece.specs.Machine.{Ops}
use Rattle.spp_piece.specs.Model.{kind_of}

-- the open frames, the innermost first, and the work before; no frames where something was wrong
pub record Now : Type 0 where
  pub frames : List EntryFrame
  pub work : ℕ

abbrev pub now : List EntryFrame → ℕ → Now
now frames work = record { frames = frames; work = work }

-- both states of the frame change
abbrev pub moved_by : Segs → EntryFrame → EntryFrame
moved_by g f = record f { state = act g.plain f.state; burdened = act g.burdened f.burdened }

-- the innermost frame's states change
abbrev pub along_by : List EntryFrame → Segs → ℕ → Now
along_by [] g work = now [] work
along_by (f ∷ fs) g work = now (moved_by g f ∷ fs) work

-- the innermost frame returns to the one below it
abbrev pub ret_by : Burdens → List EntryFrame → ℕ → Now
ret_by burdens [] work = now [] work
ret_by burdens (f ∷ []) work = now [] 0
ret_by burdens (f ∷ g ∷ fs) work = now (returned burdens f g ∷ fs) work

-- the frame as an entry tells it, opened over these frames, where that is the work before the part
abbrev pub entered : Frame → List EntryFrame → EntryFrame → List EntryFrame → ℕ → EntryFrame
entered x all f fs work = record {
  kind = kind_of x.kind;
  at = x.at;
  site = x.site;
  func = x.func;
  before = work + x.before;
  state = x.states.plain;
  burdened = x.states.burdened;
  top_site = not (has_site all x.site);
  top_caller = not (has_func fs f.func);
}

abbrev pub push_by : List EntryFrame → Frame → ℕ → Now
push_by [] x work = now [] work
push_by (f ∷ fs) x work = now (entered x (f ∷ fs) f fs work ∷ f ∷ fs) work

abbrev pub worked_by : List EntryFrame → ℕ → ℕ → Now
worked_by [] n work = now [] work
worked_by (f ∷ fs) n work = now (f ∷ fs) (work + n)

abbrev pub entry_ops : Burdens → Ops Now
entry_ops burdens = record {
  along = λ g x. along_by x.frames g x.work;
  ret = λ at x. ret_by burdens x.frames x.work;
  push = λ f x. push_by x.frames f x.work;
  worked = λ n x. worked_by x.frames n x.work;
  fail = λ q x. now [] 0;
}

-- the root frame alone, which runs that function
abbrev pub root_entry : ℕ → EntryFrame
root_entry func = record {
  kind = Root;
  at = 0;
  site = 0;
  func = func;
  before = 0;
  state = start;
  burdened = start;
  top_site = true;
  top_caller = true;
}

abbrev pub IsOpen : List EntryFrame → Type 0
IsOpen [] = ⊥
IsOpen (f ∷ fs) = Unit {0}

-- ---- how large the states get

-- the weights of the open frames, all together
abbrev pub peaks : List EntryFrame → ℕ
peaks [] = 0
peaks (f ∷ fs) = peak f.state + peak f.burdened + peaks fs
