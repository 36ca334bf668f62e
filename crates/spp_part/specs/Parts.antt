-- What a part of a run comes to, wherever it stands.
use Rattle.std.specs.Prelude.{◌≡◌, ℕ, suc, ◌+◌, ◌-◌, ◌≤◌, ◌<◌, Bool, true, false, List, [], ◌∷◌, length, Option, Some, None, Err}
use Rattle.std.specs.Global.{Box}
use Rattle.spp_event.specs.declared.records.EventFault.{EventFault}
use Rattle.spp_event.specs.declared.records.Event.{Event}
use Rattle.spp_event.specs.declared.records.Event.TheVariants.{Ret as RetEvent, Sync as SyncEvent}
use Rattle.spp_event.specs.Recordings.{Recording, InLimits, AreEventsOf, record_at}
use Rattle.spp_maxplus.specs.declared.state.Burdens.{Burdens}
use Rattle.spp_dag.specs.declared.row.Row.{Row}
use Rattle.spp_dag.specs.Shares.{plus, zero_row}
use Rattle.spp_site.specs.Profiles.{key_row}
use Rattle.spp_ways.specs.declared.log.Merged.{Merged}
use Rattle.spp_ways.specs.declared.log.LogRow.{LogRow}
use Rattle.spp_ways.specs.declared.frame_ways.FrameWays.{FrameWays}
use Rattle.spp_ways.specs.declared.open_ways.OpenWays.{OpenWays}
use Rattle.spp_ways.specs.Ways.{Ways, no_way}
use Rattle.spp_ways.specs.OpenWays.{AreWays, IsLaid, on_path}
use Rattle.spp_ways.specs.Stretches.{AreEnclosed, IsBase, IsStretch, outer_row, strand_outer_frame, joined_list, stretch_rows, stretch_frames}
use Rattle.spp_pass.specs.declared.counted_frame.CountedFrame.{CountedFrame}
use Rattle.spp_pass.specs.declared.calls.CallRow.{CallRow}
use Rattle.spp_pass.specs.declared.counting.Counting.{Counting}
use Rattle.spp_pass.specs.Passes.{Seen, strand_frame, no_notes, seen_with}
use Rattle.spp_pass.specs.CallFrames.{stretch_calls}
use Rattle.spp_pass.specs.CallRows.{AreCallsBelow}
use Rattle.spp_pass.specs.AsideRows.{aside_row}
use Rattle.spp_pass.specs.Stretches.{stretch_frame, enclosure, frames_of, child_wins, IsJoined}
use Rattle.spp_pass.proofs.Alone.{Alone}
use Rattle.spp_part.specs.declared.stretch.End.{End}
use Rattle.spp_part.specs.declared.stretch.End.TheVariants.{Return, Sync}
use Rattle.spp_part.specs.declared.stretch.Stretch.{Stretch}
use Rattle.spp_part.specs.declared.stretch.StoredStretch.{StoredStretch}
use Rattle.spp_part.specs.declared.stretch.StoredStretch.TheVariants.{Strand, Whole}
use Rattle.spp_part.specs.declared.stretch.EndedStretch.{EndedStretch}
use Rattle.spp_part.specs.declared.part_profile.PartProfile.{PartProfile}
use Rattle.spp_part.specs.declared.so_far.ProfileSoFar.{ProfileSoFar}
use Rattle.spp_part.specs.States.{Both, IsAt, IsEventAt}

-- ---- a stretch

-- no child waits in the innermost of these frames, on either path
abbrev pub HasNone : List CountedFrame → Type 0
HasNone [] = ⊥
HasNone (g ∷ gs) = (g.child ≡ None) × (g.burdened_child ≡ None)

abbrev pub HasNoWay : List Ways → Type 0
HasNoWay [] = ⊥
HasNoWay (w ∷ ws) = w.through ≡ no_way

abbrev pub IsSettled : Seen → Both → Type 0
IsSettled s ways = HasNone s.frames × ((on : Bool) → HasNoWay (ways on))

-- the outermost of these frames, innermost first
abbrev pub outer_of : List CountedFrame → CountedFrame
outer_of [] = stretch_frame
outer_of (f ∷ []) = f
outer_of (f ∷ g ∷ fs) = outer_of (g ∷ fs)

-- The frames of a stretch, the last of which is its outer one; the counts of its strands; the rows of the frames that have
-- closed in it; and the rows and the frames of its ways.
pub record StretchOf : Type 0 where
  pub frames : List CountedFrame
  pub work : ℕ
  pub calls : List CallRow
  pub rows : List LogRow
  pub ways : List FrameWays

-- on one path: where the ways before are w ∷ ws, those behind are these
abbrev pub AreJoined : Bool → StretchOf → CountedFrame → Seen → List Ways → List Ways → Type 0
AreJoined on x g s [] then = ⊥
AreJoined on x g s (w ∷ ws) then = (base : Box Merged) → IsBase on base w.along
    → (us : List Ways) × AreEnclosed on (enclosure g s) base x.rows x.ways us × (then ≡ joined_list (on_path on (child_wins (outer_of x.frames) g)) us w ws)

abbrev pub IsJoinedOnto : ℕ → StretchOf → Seen → List CountedFrame → Both → Seen → Both → Type 0
IsJoinedOnto first x s [] ways new then = ⊥
IsJoinedOnto first x s (g ∷ gs) ways new then = IsJoined first x.frames x.work x.calls g gs s new × ((on : Bool) → AreJoined on x g s (ways on) (then on))

-- The stretch takes the reading of a run from the event at i up to that at j on, whatever there is at i; positions in it count
-- from `first`. Where it is settled no child waits in the innermost frame at i.
pub record Takes (trace : Recording) (burdens : Burdens) (first i j : ℕ) (settled : Bool) (x : StretchOf) : Type 0 where
  pub forward : i ≤ j
  pub on : (s : Seen) (ways : Both) → IsAt trace burdens i s ways → (settled ≡ true → IsSettled s ways)
      → (new : Seen) × (then : Both) × IsAt trace burdens j new then × IsJoinedOnto first x s s.frames ways new then
  pub calls : AreCallsBelow 65536 x.calls
  pub laid : IsStretch x.rows x.ways
  pub many : length x.ways ≡ length x.frames
  pub short : length x.rows ≤ suc (j - i)
  pub alone : (s : Seen) × Alone (j - first) s × (s.frames ≡ x.frames) × (s.work ≡ x.work)

-- ---- a part

-- what a stretch comes to
abbrev pub stretch_of : Stretch → StretchOf
stretch_of x = record {
  frames = frames_of x.counted;
  work = x.counted.work;
  calls = stretch_calls x.calls;
  rows = stretch_rows x.logged;
  ways = stretch_frames x.logged;
}

-- what strands of so many instructions come to, and nothing else
abbrev pub strands_alone : ℕ → StretchOf
strands_alone n = record {
  frames = strand_frame n stretch_frame ∷ [];
  work = n;
  calls = [];
  rows = outer_row ∷ [];
  ways = strand_outer_frame n ∷ [];
}

-- what a stretch that has ended comes to
abbrev pub stored_of : StoredStretch → StretchOf
stored_of (Strand n) = strands_alone n
stored_of (Whole x) = stretch_of x.value

-- the event that ends a stretch, and whether a child may wait behind it
abbrev pub end_event : End → Event
end_event Return = RetEvent
end_event Sync = SyncEvent

abbrev pub settles : End → Bool
settles Return = false
settles Sync = true

-- These stretches, of a part that begins at `first`, each with the event that ends it, lead from so many of its events to so
-- many.
abbrev pub Lead : Recording → Burdens → ℕ → ℕ → Bool → List EndedStretch → ℕ → Bool → Type 0
Lead trace burdens first from settled [] to then = (to ≡ from) × (then ≡ settled)
Lead trace burdens first from settled (x ∷ xs) to then =
    Takes trace burdens first (first + from) (first + x.at) settled (stored_of x.stored) × IsEventAt trace (first + x.at) (end_event x.end)
    × Lead trace burdens first (suc x.at) (settles x.end) xs to then

-- what is wrong with the event behind the good ones, if they aren't all
abbrev pub IsCutOff : Recording → ℕ → ℕ → ℕ → Option EventFault → Type 0
IsCutOff trace first count good None = good ≡ count
IsCutOff trace first count good (Some fault) = (good < count) × (record_at trace.records (first + good) ≡ Err fault)

-- what the events of a part come to that begins at `first` and has so many
pub record IsPartProfile (trace : Recording) (burdens : Burdens) (first count : ℕ) (p : PartProfile) : Type 0 where
  pub to : ℕ
  pub settled : Bool
  pub ended : Lead trace burdens first 0 false p.ended.items to settled
  pub last : Takes trace burdens first (first + to) (first + p.good) settled (stretch_of p.last)
  pub cut_off : IsCutOff trace first count p.good p.fault
  pub within : first + count ≤ length trace.records

-- ---- the profile so far

-- rows by their keys
abbrev pub Rows : Type 0
Rows = Option ℕ → Row

abbrev pub no_rows : Rows
no_rows key = zero_row

-- These are counted, but for the choices, in whatever order the rows were added; the rest of the rows isn't in the table.
pub record Shows (rest : Rows) (now s : Seen) : Type 0 where
  pub frames : now.frames ≡ s.frames
  pub open_sites : (y : ℕ) → now.open_sites y ≡ s.open_sites y
  pub open_funcs : (y : ℕ) → now.open_funcs y ≡ s.open_funcs y
  pub work : now.work ≡ s.work
  pub table : (key : Option ℕ) → plus (key_row now.table key) (rest key) ≡ key_row s.table key

-- What the first i events have come to, but for the rest of the rows; where that is settled no child waits in the innermost
-- frame.
pub record Stands (rest : Rows) (trace : Recording) (burdens : Burdens) (i : ℕ) (settled : Bool) (c : Counting) (w : OpenWays) : Type 0 where
  pub state : Seen
  pub ways : Both
  pub at : IsAt trace burdens i state ways
  pub none : settled ≡ true → IsSettled state ways
  pub counted : Shows rest (seen_with c no_notes) state
  pub logged : (on : Bool) → AreWays on w (ways on)
  pub laid : IsLaid w
  pub rows : length w.log.rows.items ≤ i
  pub within : i ≤ length trace.records
  pub limits : InLimits trace
  pub good : AreEventsOf (length trace.sites) (length trace.funcs) trace.records
  pub light : burdens.continuation + burdens.join ≤ 8589934592

-- the stretch takes a reading on that has come so far
abbrev pub GoesOn : Recording → Burdens → ℕ → ℕ → ℕ → Bool → StretchOf → Type 0
GoesOn trace burdens first i j settled x = Takes trace burdens first i j settled x × (first ≤ i) × (j ≤ length trace.records)

-- what it has of the rows, with those that are kept aside, and others that were lent
abbrev pub rest_of : ProfileSoFar → Rows → Rows
rest_of r lent key = plus (aside_row r.aside key) (lent key)

-- the profile of the first i events, but for rows that were lent
abbrev pub IsSoFarBut : Rows → Recording → Burdens → ℕ → ProfileSoFar → Type 0
IsSoFarBut lent trace burdens i r = Stands (rest_of r lent) trace burdens i false r.counting r.ways × (r.events ≡ i)

abbrev pub IsSoFar : Recording → Burdens → ℕ → ProfileSoFar → Type 0
IsSoFar trace burdens i r = IsSoFarBut no_rows trace burdens i r
