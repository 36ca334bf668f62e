-- A summary of n events is as small as n events make it.
use Rattle.std.proofs.Common.{◌≡◌, ℕ, ◌+◌, ◌≤◌, List, [], ◌∷◌, length, Option, Some, None, Result, Ok, Err, refl, sym, subst, arith}
use Rattle.spp_maxplus.specs.declared.state.Burdens.{Burdens}
use Rattle.spp_event.specs.declared.records.Event.{Event}
use Rattle.spp_event.specs.declared.records.Event.TheVariants.{Strand, Call, Spawn, Ret, Sync}
use Rattle.spp_event.specs.declared.records.EventFault.{EventFault}
use Rattle.spp_piece.specs.declared.segs.Segs.{Segs}
use Rattle.spp_piece.specs.declared.pieces.Frame.{Frame}
use Rattle.spp_piece.specs.declared.pieces.Unmatched.{Unmatched}
use Rattle.spp_piece.specs.Pair.{strand, sync, fed}
use Rattle.spp_piece.specs.Machine.{Ops, event}
use Rattle.spp_piece.specs.Summary.{Sum, empty, along_by, ret_by, summary_ops}
use Rattle.spp_piece.specs.Bound.{most_before, IsSmall, IsCount}
use Rattle.spp_piece.proofs.EventSteps.{sum, event_strand, event_sync, event_call, event_spawn, event_ret, event_fail, event_after}
use Rattle.spp_piece.proofs.Bounds.{load-along_by, load-ret_by}

-- the events' weights don't change along a Seg, nor the number of frames
pub along_work : (rs : List Unmatched) (m : Segs) (fs : List Frame) (w : ℕ) (q : Option (ℕ × EventFault)) (g : Segs) → (along_by fs g (sum rs m fs w q)).work ≡ w
along_work rs m [] w q g = refl
along_work rs m (f ∷ fs) w q g = refl

pub along_depth : (rs : List Unmatched) (m : Segs) (fs : List Frame) (w : ℕ) (q : Option (ℕ × EventFault)) (g : Segs) → length (along_by fs g (sum rs m fs w q)).frames ≡ length fs
along_depth rs m [] w q g = refl
along_depth rs m (f ∷ fs) w q g = refl

pub along_sound : (rs : List Unmatched) (m : Segs) (fs : List Frame) (w : ℕ) (q : Option (ℕ × EventFault)) (g : Segs) → (along_by fs g (sum rs m fs w q)).fault ≡ q
along_sound rs m [] w q g = refl
along_sound rs m (f ∷ fs) w q g = refl

pub ret_work : (burdens : Burdens) (at : ℕ) (rs : List Unmatched) (m : Segs) (fs : List Frame) (w : ℕ) (q : Option (ℕ × EventFault)) → (ret_by fs burdens at (sum rs m fs w q)).work ≡ w
ret_work burdens at rs m [] w q = refl
ret_work burdens at rs m (f ∷ fs) w q = along_work rs m fs w q (fed burdens f)

pub ret_depth : (burdens : Burdens) (at : ℕ) (rs : List Unmatched) (m : Segs) (fs : List Frame) (w : ℕ) (q : Option (ℕ × EventFault)) → length (ret_by fs burdens at (sum rs m fs w q)).frames ≤ length fs
ret_depth burdens at rs m [] w q = omega arith
ret_depth burdens at rs m (f ∷ fs) w q = omega (arith, along_depth rs m fs w q (fed burdens f))

pub ret_sound : (burdens : Burdens) (at : ℕ) (rs : List Unmatched) (m : Segs) (fs : List Frame) (w : ℕ) (q : Option (ℕ × EventFault)) → (ret_by fs burdens at (sum rs m fs w q)).fault ≡ q
ret_sound burdens at rs m [] w q = refl
ret_sound burdens at rs m (f ∷ fs) w q = along_sound rs m fs w q (fed burdens f)

pub along_before : (rs : List Unmatched) (m : Segs) (fs : List Frame) (w : ℕ) (q : Option (ℕ × EventFault)) (g : Segs) → most_before (along_by fs g (sum rs m fs w q)).frames ≡ most_before fs
along_before rs m [] w q g = refl
along_before rs m (f ∷ fs) w q g = refl

pub ret_before : (burdens : Burdens) (at : ℕ) (rs : List Unmatched) (m : Segs) (fs : List Frame) (w : ℕ) (q : Option (ℕ × EventFault)) → most_before (ret_by fs burdens at (sum rs m fs w q)).frames ≤ most_before fs
ret_before burdens at rs m [] w q = omega arith
ret_before burdens at rs m (f ∷ fs) w q = omega (arith, along_before rs m fs w q (fed burdens f))

module _ (burdens : Burdens) where
  abbrev o : Ops Sum
  o = summary_ops burdens

  later_small : (n : ℕ) (s : Sum) → IsSmall burdens n s → IsSmall burdens (n + 1) s
  later_small n s h = record { work = omega (arith, h.work); load = omega (arith, h.load); depth = omega (arith, h.depth); before = omega (arith, h.before) }

  small_by : (n at : ℕ) (e : Result Event EventFault) (s : Sum) → s.fault ≡ None → IsCount e → IsSmall burdens n s → IsSmall burdens (n + 1) (event o at e s)
  small_by n at (Ok (Strand count)) s sound c h =
      let t = along_by s.frames (strand count) s in
      let w = along_work s.returns s.middle s.frames s.work s.fault (strand count) in
      let d = along_depth s.returns s.middle s.frames s.work s.fault (strand count) in
      let b = along_before s.returns s.middle s.frames s.work s.fault (strand count) in
      let l = load-along_by burdens (strand count) s in
      subst (IsSmall burdens (n + 1)) (sym (event_strand burdens at count s sound))
      (record { work = omega (arith, h.work, w, c); load = omega (arith, h.load, w, l); depth = omega (arith, h.depth, d); before = omega (arith, h.before, w, b) })
  small_by n at (Ok (Call site func)) s sound c h =
      subst (IsSmall burdens (n + 1)) (sym (event_call burdens at site func s sound))
      (record { work = omega (arith, h.work); load = omega (arith, h.load); depth = omega (arith, h.depth); before = omega (arith, h.before) })
  small_by n at (Ok (Spawn site func)) s sound c h =
      subst (IsSmall burdens (n + 1)) (sym (event_spawn burdens at site func s sound))
      (record { work = omega (arith, h.work); load = omega (arith, h.load); depth = omega (arith, h.depth); before = omega (arith, h.before) })
  small_by n at (Ok Ret) s sound c h =
      let w = ret_work burdens at s.returns s.middle s.frames s.work s.fault in
      let d = ret_depth burdens at s.returns s.middle s.frames s.work s.fault in
      let b = ret_before burdens at s.returns s.middle s.frames s.work s.fault in
      let l = load-ret_by burdens at s in
      subst (IsSmall burdens (n + 1)) (sym (event_ret burdens at s sound))
      (record { work = omega (arith, h.work, w); load = omega (arith, h.load, w, l); depth = omega (arith, h.depth, d); before = omega (arith, h.before, w, b) })
  small_by n at (Ok Sync) s sound c h =
      let w = along_work s.returns s.middle s.frames s.work s.fault sync in
      let d = along_depth s.returns s.middle s.frames s.work s.fault sync in
      let b = along_before s.returns s.middle s.frames s.work s.fault sync in
      let l = load-along_by burdens sync s in
      subst (IsSmall burdens (n + 1)) (sym (event_sync burdens at s sound))
      (record { work = omega (arith, h.work, w); load = omega (arith, h.load, w, l); depth = omega (arith, h.depth, d); before = omega (arith, h.before, w, b) })
  small_by n at (Err why) s sound c h =
      subst (IsSmall burdens (n + 1)) (sym (event_fail burdens at why s sound))
      (record { work = omega (arith, h.work); load = omega (arith, h.load); depth = omega (arith, h.depth); before = omega (arith, h.before) })

  small_parts : (n at : ℕ) (e : Result Event EventFault) (rs : List Unmatched) (m : Segs) (fs : List Frame) (w : ℕ) (q : Option (ℕ × EventFault)) → IsCount e → IsSmall burdens n (sum rs m fs w q) → IsSmall burdens (n + 1) (event o at e (sum rs m fs w q))
  small_parts n at e rs m fs w None c h = small_by n at e (sum rs m fs w None) refl c h
  small_parts n at e rs m fs w (Some q) c h =
      subst (IsSmall burdens (n + 1)) (sym (event_after burdens at e q (sum rs m fs w (Some q)) refl)) (later_small n _ h)

  pub small_event : (n at : ℕ) (e : Result Event EventFault) (s : Sum) → IsCount e → IsSmall burdens n s → IsSmall burdens (n + 1) (event o at e s)
  small_event n at e s c h = small_parts n at e s.returns s.middle s.frames s.work s.fault c h

  pub small_empty : IsSmall burdens 0 empty
  small_empty = record { work = omega arith; load = omega arith; depth = omega arith; before = omega arith }
