-- What the reading of a part keeps.
use Rattle.std.proofs.Common.{◌≡◌, ℕ, suc, ◌+◌, ◌*◌, ◌≤◌, ◌<◌, ◌^◌, Bool, List, [], ◌∷◌, ◌++◌, length, map, reverse, Some, None, refl, sym, subst, arith}
use Rattle.std.proofs.lemmas.List.{length-reverse}
use Rattle.spp_event.specs.Recordings.{Recording}
use Rattle.spp_maxplus.specs.declared.state.Burdens.{Burdens}
use Rattle.spp_pass.specs.CallFrames.{stretch_calls}
use Rattle.spp_pass.specs.declared.counted_frame.CountedFrame.{CountedFrame}
use Rattle.spp_pass.specs.declared.calls.CallRow.{CallRow}
use Rattle.spp_ways.specs.declared.open_ways.OpenWays.{OpenWays}
use Rattle.spp_ways.specs.Stretches.{stretch_rows, stretch_frames, enclosed_row}
use Rattle.spp_pass.specs.Passes.{Seen, seen_with, closing_of, caller_in, IsPopped}
use Rattle.spp_pass.specs.Stretches.{frames_of}
use Rattle.spp_pass.specs.declared.counting.Popped.{Popped}
use Rattle.spp_ways.specs.OpenWays.{FitTopStrand}
use Rattle.spp_part.specs.Readings.{open_air, as_stretch, IsReading}
use Rattle.spp_part.proofs.Going.{fit_top, some_frame}
use Rattle.spp_part.specs.declared.stretch.Stretch.{Stretch}
use Rattle.spp_part.specs.declared.stretch.EndedStretch.{EndedStretch}
use Rattle.spp_part.specs.declared.part_profile.Reading.{Reading}
use Rattle.spp_part.specs.States.{IsEventAt}
use Rattle.spp_part.specs.Parts.{Takes, Lead, stretch_of, stored_of, end_event, settles}

-- ---- the ended stretches

-- one more
pub lead_more : (trace : Recording) (burdens : Burdens) (first from : ℕ) (settled : Bool) (xs : List EndedStretch) (to : ℕ) (then : Bool) (x : EndedStretch) → Lead trace burdens first from settled xs to then
    → Takes trace burdens first (first + to) (first + x.at) then (stored_of x.stored) → IsEventAt trace (first + x.at) (end_event x.end)
    → Lead trace burdens first from settled (xs ++ x ∷ []) (suc x.at) (settles x.end)
lead_more trace burdens first from settled [] to then x h takes at = (
  subst (λ (b : Bool). Takes trace burdens first (first + from) (first + x.at) b (stored_of x.stored)) h.1
      (subst (λ n. Takes trace burdens first (first + n) (first + x.at) then (stored_of x.stored)) h.0 takes),
  at,
  (refl, refl),
)
lead_more trace burdens first from settled (y ∷ xs) to then x h takes at = (h.0, h.1, lead_more trace burdens first (suc y.at) (settles y.end) xs to then x h.2 takes at)

-- what is told of a stretch is what has been read
pub told_stretch : (a : Seen) (calls : List CallRow) (o : OpenWays) (x : Stretch) → frames_of x.counted ≡ a.frames → x.counted.work ≡ a.work → stretch_calls x.calls ≡ calls
    → stretch_rows x.logged ≡ o.log.rows.items → stretch_frames x.logged ≡ o.frames.items → as_stretch a calls o ≡ stretch_of x
told_stretch a calls o x frames work same rows ways = λ j. record { frames = sym frames j; work = sym work j; calls = sym same j; rows = sym rows j; ways = sym ways j }

-- ---- what steps need, and tell

pub fits_strand : (trace : Recording) (burdens : Burdens) (first k n : ℕ) (r : Reading) → IsReading trace burdens first k r → first + k < length trace.records → n < 2 ^ 64
    → (on : Bool) → FitTopStrand on n (reverse r.ways.frames.items)
fits_strand trace burdens first k n r is within few on =
    let going = is.going in
    let a : Seen = seen_with r.counting is.notes in
    let short = is.bounds.short in
    let small : a.work ≤ 18446744073709551615 * k = going.alone.small in
    let own = going.owned.1 on in
    let many : length r.ways.frames.items ≡ length a.frames = going.last.many in
    let turned = length-reverse r.ways.frames.items in
    let some = some_frame k a going.alone in
    fit_top on (reverse (map (enclosed_row open_air going.owned.0) r.ways.log.rows.items)) n a.work (reverse r.ways.frames.items) own.0 own.1 own.2 (omega arith) (omega arith)

-- the one frame of these
pub only : (fs : List CountedFrame) → length fs ≡ 1 → (r : CountedFrame) × (fs ≡ r ∷ [])
only [] e = absurd (omega arith)
only (r ∷ []) e = (r, refl)
only (r ∷ x ∷ fs) e = absurd (omega arith)

-- what has been popped
pub record IsOut (burdens : Burdens) (work : ℕ) (fs : List CountedFrame) (p : Popped) : Type 0 where
  pub frame : CountedFrame
  pub parent : CountedFrame
  pub below : List CountedFrame
  pub frames : fs ≡ frame ∷ parent ∷ below
  pub popped : p ≡ record { closing = closing_of burdens work frame parent; caller = caller_in (parent ∷ below) }

pub is_out : (burdens : Burdens) (work : ℕ) (fs : List CountedFrame) (p : Popped) → IsPopped burdens work fs (Some p) → IsOut burdens work fs p
is_out burdens work [] p h = absurd h
is_out burdens work (f ∷ []) p h = let z : Some p ≡ None = h in cc
is_out burdens work (f ∷ g ∷ fs) p h =
    let q : Popped = record { closing = closing_of burdens work f g; caller = caller_in (g ∷ fs) } in
    let z : Some p ≡ Some q = h in
    record { frame = f; parent = g; below = fs; frames = refl; popped = (let e : p ≡ q = cc in e) }
