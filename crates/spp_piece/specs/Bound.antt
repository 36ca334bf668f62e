-- How large the weights of a summary can become.
use Rattle.std.specs.Prelude.{ℕ, ◌+◌, ◌-◌, ◌*◌, ◌^◌, ◌≤◌, ◌<◌, max, List, [], ◌∷◌, length, Result, Ok, Err}
use Rattle.spp_maxplus.specs.declared.state.Burdens.{Burdens}
use Rattle.spp_event.specs.declared.records.Event.{Event}
use Rattle.spp_event.specs.declared.records.Event.TheVariants.{Strand, Call, Spawn, Ret, Sync}
use Rattle.spp_event.specs.declared.records.EventFault.{EventFault}
use Rattle.spp_maxplus.specs.Seg.{rise, peak}
use Rattle.spp_piece.specs.declared.segs.Segs.{Segs}
use Rattle.spp_piece.specs.declared.states.States.{States}
use Rattle.spp_piece.specs.declared.pieces.Frame.{Frame}
use Rattle.spp_piece.specs.declared.pieces.Unmatched.{Unmatched}
use Rattle.spp_piece.specs.Summary.{Sum}

-- both burdens together
abbrev pub cost : Segs → ℕ
cost g = rise g.plain + rise g.burdened

abbrev pub height : States → ℕ
height s = peak s.plain + peak s.burdened

-- the greater of both
abbrev pub worst : Burdens → ℕ
worst b = max b.continuation b.join

-- a return may add a burden to the frame below
abbrev pub load_returns : Burdens → List Unmatched → ℕ
load_returns burdens [] = 0
load_returns burdens (r ∷ rs) = cost r.segs + worst burdens + load_returns burdens rs

abbrev pub load_frames : List Frame → ℕ
load_frames [] = 0
load_frames (f ∷ fs) = height f.states + load_frames fs

-- all weights of a summary together
abbrev pub load : Burdens → Sum → ℕ
load burdens s = load_returns burdens s.returns + cost s.middle + load_frames s.frames

-- the greatest work before an open frame
abbrev pub most_before : List Frame → ℕ
most_before [] = 0
most_before (f ∷ fs) = max f.before (most_before fs)

-- a summary of so many events
pub record IsSmall (burdens : Burdens) (events : ℕ) (s : Sum) : Type 0 where
  pub work : s.work ≤ events * (2 ^ 64 - 1)
  pub load : load burdens s ≤ 2 * s.work + worst burdens * events
  pub depth : length s.frames ≤ events
  pub before : most_before s.frames ≤ s.work

-- a strand's count is a number of 64 bits
abbrev pub IsCount : Result Event EventFault → Type 0
IsCount (Ok (Strand count)) = count < 2 ^ 64
IsCount (Ok (Call site func)) = Unit {0}
IsCount (Ok (Spawn site func)) = Unit {0}
IsCount (Ok Ret) = Unit {0}
IsCount (Ok Sync) = Unit {0}
IsCount (Err why) = Unit {0}
