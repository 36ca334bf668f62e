-- What the steps do to the ways into open frames.
use Rattle.std.proofs.Common.{◌≡◌, ℕ, suc, ◌+◌, ◌-◌, ◌<◌, Bool, true, false, List, [], ◌∷◌, length, reverse, set, refl, sym, ap, subst, arith}
use Rattle.std.proofs.lemmas.List.{length-reverse}
use Rattle.spp_site.proofs.LastFirst.{topped}
use Rattle.spp_ways.specs.declared.log.LogRow.{LogRow}
use Rattle.spp_ways.specs.declared.frame_ways.LoggedWays.{LoggedWays}
use Rattle.spp_ways.specs.declared.frame_ways.FrameWays.{FrameWays}
use Rattle.spp_ways.specs.declared.open_ways.OpenWays.{OpenWays}
use Rattle.spp_ways.specs.Ways.{Ways, no_way, no_ways, strand_ways}
use Rattle.spp_ways.specs.OpenWays.{IsWay, AreBoth, AllWays, AreWays, plain_of, burdened_of, frame_ways, path_of, nothing, HasOne, HasTwo, FitStrand, FitTopStrand, strand_list, Laid, IsLaid}
use Rattle.spp_ways.proofs.Staying.{rows_none}

-- as many frames are open as there are ways
pub as_many : (on : Bool) (log : List LogRow) (fs : List FrameWays) (ws : List Ways) → AllWays on log fs ws → length ws ≡ length fs
as_many on log [] [] h = refl
as_many on log [] (w ∷ ws) h = absurd h
as_many on log (f ∷ fs) [] h = absurd h
as_many on log (f ∷ fs) (w ∷ ws) h = ap suc (as_many on log fs ws h.1)

-- there is an innermost frame
pub some_frame : (on : Bool) (o : OpenWays) (ws : List Ways) → AreWays on o ws → HasOne ws → 0 < length o.frames.items
some_frame on o [] h one = absurd one
some_frame on o (w ∷ ws) h one = let n = as_many on (reverse o.log.rows.items) (reverse o.frames.items) (w ∷ ws) h in let m = length-reverse o.frames.items in omega arith

-- and one below it
pub two_frames : (on : Bool) (o : OpenWays) (ws : List Ways) → AreWays on o ws → HasTwo ws → 1 < length o.frames.items
two_frames on o [] h two = absurd two
two_frames on o (w ∷ []) h two = absurd two
two_frames on o (w ∷ v ∷ ws) h two = let n = as_many on (reverse o.log.rows.items) (reverse o.frames.items) (w ∷ v ∷ ws) h in let m = length-reverse o.frames.items in omega arith

-- ---- a frame that is opened

abbrev pub opened : ℕ → ℕ → FrameWays
opened start limit = frame_ways (record { along = nothing; through = nothing }) (record { along = nothing; through = nothing }) start 0 limit

pub no_way_is : (on : Bool) (log : List LogRow) → IsWay on log nothing no_way
no_way_is on log = (refl, λ key. rows_none on log key)

pub opened_ways : (on : Bool) (log : List LogRow) (start limit : ℕ) → AreBoth on log (path_of on (opened start limit)) no_ways
opened_ways false log start limit = (no_way_is false log, no_way_is false log)
opened_ways true log start limit = (no_way_is true log, no_way_is true log)

-- ---- a strand

abbrev pub strand_on : ℕ → LoggedWays → LoggedWays
strand_on count w = record { along = record { rows = w.along.rows; own = w.along.own + count }; through = w.through }

abbrev pub strand_frame : ℕ → FrameWays → FrameWays
strand_frame count f = frame_ways (strand_on count (plain_of f)) (strand_on count (burdened_of f)) f.start f.stored f.limit

strand_both : (on : Bool) (log : List LogRow) (count : ℕ) (w : LoggedWays) (v : Ways) → AreBoth on log w v → AreBoth on log (strand_on count w) (strand_ways count v)
strand_both on log count w v h = ((ap (λ n. n + count) h.0.0, h.0.1), h.1)

strand_is : (on : Bool) (log : List LogRow) (count : ℕ) (f : FrameWays) (v : Ways) → AreBoth on log (path_of on f) v → AreBoth on log (path_of on (strand_frame count f)) (strand_ways count v)
strand_is false log count f v h = strand_both false log count (plain_of f) v h
strand_is true log count f v h = strand_both true log count (burdened_of f) v h

pub strand_all : (on : Bool) (log : List LogRow) (count : ℕ) (f : FrameWays) (fs : List FrameWays) (ws : List Ways) → AllWays on log (f ∷ fs) ws → AllWays on log (strand_frame count f ∷ fs) (strand_list count ws)
strand_all on log count f fs [] h = absurd h
strand_all on log count f fs (w ∷ ws) h = (strand_is on log count f w h.0, h.1)

-- there is an innermost frame, whose strands fit
pub fit_some : (on : Bool) (count : ℕ) (fs : List FrameWays) → FitTopStrand on count (reverse fs) → 0 < length fs
fit_some on count fs h = by (reverse fs) (length-reverse fs) h
  where
    by : (gs : List FrameWays) → length gs ≡ length fs → FitTopStrand on count gs → 0 < length fs
    by [] e h = absurd h
    by (g ∷ gs) e h = let z : length (g ∷ gs) ≡ suc (length gs) = refl in omega arith

own_fits : (on : Bool) (log : List LogRow) (count : ℕ) (fs : List FrameWays) (ws : List Ways) → AllWays on log fs ws → FitStrand count ws → FitTopStrand on count fs
own_fits on log count [] [] h fit = absurd fit
own_fits on log count [] (w ∷ ws) h fit = absurd h
own_fits on log count (f ∷ fs) [] h fit = absurd fit
own_fits on log count (f ∷ fs) (w ∷ ws) h fit = let e = h.0.0.0 in omega arith

-- the strands of the innermost frame fit where those of its way do
pub strand_fits : (on : Bool) (count : ℕ) (o : OpenWays) (ws : List Ways) → AreWays on o ws → FitStrand count ws → FitTopStrand on count (reverse o.frames.items)
strand_fits on count o ws h fit = own_fits on (reverse o.log.rows.items) count (reverse o.frames.items) ws h fit

-- the innermost frame has changed
pub record StrandDone (count : ℕ) (o : OpenWays) (frames : List FrameWays) : Type 0 where
  pub top : FrameWays
  pub below : List FrameWays
  pub is : reverse o.frames.items ≡ top ∷ below
  pub then : reverse frames ≡ strand_frame count top ∷ below
  pub laid : Laid (length o.log.rows.items) (reverse frames)
  pub ways : (on : Bool) (log : List LogRow) (ws : List Ways) → AllWays on log (reverse o.frames.items) ws → AllWays on log (reverse frames) (strand_list count ws)

pub strand_done : (count : ℕ) (o : OpenWays) (some : 0 < length o.frames.items) → IsLaid o
    → StrandDone count o (set o.frames.items (length o.frames.items - 1) (strand_frame count (topped o.frames.items some).top))
strand_done count o some laid =
    let t = topped o.frames.items some in
    let g : FrameWays = strand_frame count t.top in
    let put = t.put g in
    let old : Laid (length o.log.rows.items) (t.top ∷ t.below) = subst (Laid (length o.log.rows.items)) t.is laid.frames in
    record {
      top = t.top;
      below = t.below;
      is = t.is;
      then = put;
      laid = subst (Laid (length o.log.rows.items)) (sym put) (old.0, old.1, old.2, old.3);
      ways = λ on log ws h.
          subst (λ (l : List FrameWays). AllWays on log l (strand_list count ws)) (sym put)
          (strand_all on log count t.top t.below ws (subst (λ (l : List FrameWays). AllWays on log l ws) t.is h));
    }
