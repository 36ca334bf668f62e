-- What a stretch of events comes to that is read where it isn't known which frames are open before it, and how it is
-- joined onto what was counted before it.
use Rattle.std.specs.Prelude.{◌≡◌, ℕ, ◌+◌, ◌<◌, ◌^◌, Bool, not, ◌&&◌, max, true, false, is_some, List, reverse, drop, [], ◌∷◌, Option, Some, None, option_map}
use Rattle.spp_maxplus.specs.declared.weights.Weights.{Weights}
use Rattle.spp_maxplus.specs.Weights.{close}
use Rattle.spp_dag.specs.declared.stack.FrameKind.TheVariants.{Root}
use Rattle.spp_dag.specs.Shares.{plus}
use Rattle.spp_site.specs.Rows.{Fits}
use Rattle.spp_site.specs.Marks.{with_mark}
use Rattle.spp_site.specs.Table.{empty}
use Rattle.spp_site.specs.Profiles.{key_row}
use Rattle.spp_ways.specs.Enclosures.{Enclosure, is_top_caller}
use Rattle.spp_ways.specs.Ways.{outruns}
use Rattle.spp_ways.specs.declared.open_ways.OnPaths.{OnPaths}
use Rattle.spp_pass.specs.declared.counted_frame.CountedFrame.{CountedFrame}
use Rattle.spp_pass.specs.declared.calls.CallRow.{CallRow}
use Rattle.spp_pass.specs.declared.counting.CountedStretch.{CountedStretch}
use Rattle.spp_pass.specs.CallRows.{calls_row, AreCallsBelow}
use Rattle.spp_pass.specs.Passes.{Seen, opened_frame, strand_frame, greater_child, caller_in, state_of, burdened_state_of, OnTop}

-- ---- a stretch alone

-- Before its first event. The last of its frames stands for the one that is innermost where the stretch begins, and its
-- weights are counted from there; no site and no function is marked for it.
abbrev pub stretch_frame : CountedFrame
stretch_frame = opened_frame Root 0 0 0 0 true true true

abbrev pub stretch_seen : Seen
stretch_seen = record {
  frames = stretch_frame ∷ [];
  open_sites = λ site. false;
  open_funcs = λ func. false;
  work = 0;
  table = empty;
  ends = [];
  joins = [];
  burdened_joins = [];
}

-- the open frames of a stretch, innermost first
abbrev pub frames_of : CountedStretch → List CountedFrame
frames_of s = reverse (s.outer ∷ drop 1 s.frames.items)

-- where it ends and leaves these frames open
abbrev pub IsStretchOf : Seen → CountedStretch → Type 0
IsStretchOf s x = (frames_of x ≡ s.frames) × (x.work ≡ s.work)

-- it is strands of so many instructions together, and nothing else
abbrev pub IsStrand : ℕ → CountedStretch → Type 0
IsStrand n x = (frames_of x ≡ strand_frame n stretch_frame ∷ []) × (x.work ≡ n)

-- where it ends and leaves its outer frame alone open, and the next begins
abbrev pub IsEndedStretch : Seen → CountedStretch → Type 0
IsEndedStretch s x = (f : CountedFrame) → s.frames ≡ f ∷ [] → IsStretchOf s x

abbrev pub next_frames : List CountedFrame → List CountedFrame
next_frames [] = []
next_frames (f ∷ []) = stretch_frame ∷ []
next_frames (f ∷ g ∷ fs) = f ∷ next_frames (g ∷ fs)

abbrev pub next_seen : Seen → Seen
next_seen s = record s { frames = next_frames s.frames; work = 0 }

-- ---- what encloses it

-- the frames that are open before it, the innermost of which is g
abbrev pub enclosure : CountedFrame → Seen → Enclosure
enclosure g s = record { sites = s.open_sites; funcs = s.open_funcs; direct = g.top_func }

-- positions in a stretch count from its first event, which stands at `first`
abbrev pub placed_at : ℕ → Option ℕ → Option ℕ
placed_at first spawn = option_map (λ at. first + at) spawn

abbrev pub FitsPlace : ℕ → Option ℕ → Type 0
FitsPlace first None = Unit {0}
FitsPlace first (Some at) = first + at < 2 ^ 32

-- a frame that is opened in it by a caller of that function, where the work before it is `before`
abbrev pub placed : Enclosure → ℕ → ℕ → ℕ → CountedFrame → CountedFrame
placed e before first caller f = record f {
  before = before + f.before;
  at = first + f.at;
  child = placed_at first f.child;
  burdened_child = placed_at first f.burdened_child;
  top_site = f.top_site && not (e.sites f.site);
  top_caller = f.top_caller && is_top_caller e caller;
  top_func = f.top_func && not (e.funcs f.func);
}

-- the weights of the frame in which it begins, which were those of g, where r has those of the stretch
abbrev pub joined_weights : Weights → Option ℕ → Weights → Weights
joined_weights r None g = record { spine = g.spine + r.spine; child = g.child }
joined_weights r (Some at) g = record { spine = g.spine + r.spine; child = max g.child (g.spine + r.child) }

-- and the child that waits in it
abbrev pub joined_child : ℕ → Weights → Option ℕ → Weights → Option ℕ → Option ℕ
joined_child first r None g child = child
joined_child first r (Some at) g child = greater_child g.child child (first + at) (g.spine + r.child)

abbrev pub joined : ℕ → CountedFrame → CountedFrame → CountedFrame
joined first r g = record g {
  plain = joined_weights r.plain r.child g.plain;
  burdened = joined_weights r.burdened r.burdened_child g.burdened;
  local = g.local + r.local;
  child = joined_child first r.plain r.child g.plain g.child;
  burdened_child = joined_child first r.burdened r.burdened_child g.burdened g.burdened_child;
}

-- the frames of the stretch, innermost first, where g ∷ gs are open before it
abbrev pub placed_frames : Enclosure → ℕ → ℕ → List CountedFrame → CountedFrame → List CountedFrame → List CountedFrame
placed_frames e before first [] g gs = g ∷ gs
placed_frames e before first (r ∷ []) g gs = joined first r g ∷ gs
placed_frames e before first (f ∷ h ∷ fs) g gs = placed e before first (caller_in (h ∷ fs)) f ∷ placed_frames e before first (h ∷ fs) g gs

-- the marks, with those of its frames
abbrev pub with_frames : (CountedFrame → ℕ) → List CountedFrame → (ℕ → Bool) → ℕ → Bool
with_frames of [] marks = marks
with_frames of (r ∷ []) marks = marks
with_frames of (f ∷ h ∷ fs) marks = with_mark (of f) (with_frames of (h ∷ fs) marks)

-- ---- what was counted before it, with it

-- on which paths the way through the child that waits in the stretch's outer frame r is greater than that through the one
-- that waits in g before
abbrev pub child_wins : CountedFrame → CountedFrame → OnPaths
child_wins r g = record {
  plain = is_some r.child && outruns (state_of g).child (g.plain.spine + r.plain.child);
  burdened = is_some r.burdened_child && outruns (burdened_state_of g).child (g.burdened.spine + r.burdened.child);
}

-- the weights of the frame g, with those of the stretch, fit
pub record FitsJoin (r g : CountedFrame) : Type 0 where
  pub plain : close g.plain + close r.plain < 2 ^ 128
  pub burdened : close g.burdened + close r.burdened < 2 ^ 128
  pub local : g.local + r.local < 2 ^ 128

-- each frame of a stretch has a place, and the work before it fits
abbrev pub FitPlaces : ℕ → ℕ → List CountedFrame → Type 0
FitPlaces before first [] = Unit {0}
FitPlaces before first (f ∷ fs) = (before + f.before < 2 ^ 128) × (first + f.at < 2 ^ 32) × FitsPlace first f.child × FitsPlace first f.burdened_child × FitPlaces before first fs

-- the stretch can be joined
pub record CanJoin (first : ℕ) (fs : List CountedFrame) (outer : CountedFrame) (more : ℕ) (calls : List CallRow) (s : Seen) : Type 0 where
  pub top : OnTop (λ g. FitsJoin outer g × ((key : Option ℕ) → Fits (plus (key_row s.table key) (calls_row (enclosure g s) calls key)))) s.frames
  pub work : s.work + more < 2 ^ 128
  pub sites : AreCallsBelow 65536 calls
  pub places : FitPlaces s.work first fs

-- The stretch, which begins at `first` and has these frames, is joined onto what was counted, where g ∷ gs are open. Choices
-- aren't told.
pub record IsJoined (first : ℕ) (fs : List CountedFrame) (more : ℕ) (calls : List CallRow) (g : CountedFrame) (gs : List CountedFrame) (old new : Seen) : Type 0 where
  pub frames : new.frames ≡ placed_frames (enclosure g old) old.work first fs g gs
  pub open_sites : (y : ℕ) → new.open_sites y ≡ with_frames (λ (f : CountedFrame). f.site) fs old.open_sites y
  pub open_funcs : (y : ℕ) → new.open_funcs y ≡ with_frames (λ (f : CountedFrame). f.func) fs old.open_funcs y
  pub work : new.work ≡ old.work + more
  pub table : (key : Option ℕ) → key_row new.table key ≡ plus (key_row old.table key) (calls_row (enclosure g old) calls key)
