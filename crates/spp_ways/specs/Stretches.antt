-- The ways of a stretch of events that is read where it isn't known which frames are open before it, and how they are joined
-- onto the ways before it.
use Rattle.std.specs.Prelude.{◌≡◌, ℕ, ◌+◌, ◌-◌, ◌≤◌, ◌<◌, ◌^◌, Bool, cond, nat_eq, not, ◌&&◌, true, false, Some, List, [], ◌∷◌, length, map, reverse, drop, Option, None}
use Rattle.std.specs.Global.{Box}
use Rattle.spp_ways.specs.declared.log.Merged.{Merged}
use Rattle.spp_ways.specs.declared.place.Links.{Links}
use Rattle.spp_ways.specs.declared.place.Place.{Place}
use Rattle.spp_ways.specs.declared.log.LogRow.{LogRow}
use Rattle.spp_ways.specs.declared.open_ways.OnPaths.{OnPaths}
use Rattle.spp_ways.specs.declared.frame_ways.LoggedWays.{LoggedWays}
use Rattle.spp_ways.specs.declared.frame_ways.FrameWays.{FrameWays}
use Rattle.spp_ways.specs.declared.open_ways.LoggedStretch.{LoggedStretch}
use Rattle.spp_ways.specs.declared.open_ways.OpenWays.{OpenWays}
use Rattle.spp_ways.specs.Ways.{Way, Ways, rows_at}
use Rattle.spp_ways.specs.Logs.{merged_on, AreLinked}
use Rattle.spp_ways.specs.OpenWays.{AllWays, AreWays, Laid, FitTop, nothing, on_path, plain_of, burdened_of, frame_ways, path_of}
use Rattle.spp_ways.specs.Enclosures.{Enclosure, is_top_caller}

-- ---- the log of a stretch

-- a row of the log that stands for the way into that frame before the events is told by this
abbrev pub outer_way : ℕ
outer_way = 65537

-- a row of the log of such events, where the way into the innermost frame before them comes to these sums
abbrev pub enclosed_row : Enclosure → Box Merged → LogRow → LogRow
enclosed_row e base r = record r {
  top_site = r.top_site && not (e.sites r.site);
  top_caller = r.top_caller && is_top_caller e r.caller;
  merged = cond (nat_eq r.caller outer_way) (Some base) r.merged;
}

-- they are those of that way
abbrev pub IsBase : Bool → Box Merged → Way → Type 0
IsBase on base w = (key : Option ℕ) → merged_on on base.value key ≡ rows_at w.rows key

-- ---- the ways of a stretch

-- the row that stands for the way into the outer frame before the stretch
abbrev pub outer_row : LogRow
outer_row = record {
  work = 0;
  span = 0;
  own = 0;
  burdened_own = 0;
  before = 0;
  within = 0;
  burdened_before = 0;
  burdened_within = 0;
  caller = outer_way;
  site = 0;
  top_site = false;
  top_caller = false;
  merged = None;
}

-- the outer frame, before the first event
abbrev pub outer_ways : LoggedWays
outer_ways = record { along = record { rows = 1; own = 0 }; through = nothing }

abbrev pub outer_frame : FrameWays
outer_frame = frame_ways outer_ways outer_ways 1 0 0

-- and behind strands of so many instructions and nothing else
abbrev pub strand_outer_ways : ℕ → LoggedWays
strand_outer_ways n = record { along = record { rows = 1; own = n }; through = nothing }

abbrev pub strand_outer_frame : ℕ → FrameWays
strand_outer_frame n = frame_ways (strand_outer_ways n) (strand_outer_ways n) 1 0 0

-- What the ways of a stretch with these rows and these frames, outermost first, are on one of both paths, the outermost
-- beginning with those of the way into the outer frame before the stretch, which come to the sums of `base`.
abbrev pub AreEnclosed : Bool → Enclosure → Box Merged → List LogRow → List FrameWays → List Ways → Type 0
AreEnclosed on e base rows frames ways = AllWays on (reverse (map (enclosed_row e base) rows)) (reverse frames) ways

abbrev pub AreStretchWays : Bool → Enclosure → Box Merged → OpenWays → List Ways → Type 0
AreStretchWays on e base o ways = AreEnclosed on e base o.log.rows.items o.frames.items ways

-- the rows and the frames of a stretch that has ended
abbrev pub stretch_rows : LoggedStretch → List LogRow
stretch_rows s = outer_row ∷ drop 1 s.log.rows.items

abbrev pub stretch_frames : LoggedStretch → List FrameWays
stretch_frames s = s.outer ∷ drop 1 s.frames.items

-- it is strands of so many instructions together, and nothing else
abbrev pub IsStrand : ℕ → LoggedStretch → Type 0
IsStrand n s = (stretch_rows s ≡ outer_row ∷ []) × (stretch_frames s ≡ strand_outer_frame n ∷ [])

-- no row was merged, and none but the first stands for the way before the stretch
abbrev pub ArePlain : List LogRow → Type 0
ArePlain [] = Unit {0}
ArePlain (r ∷ rs) = (r.merged ≡ None) × (r.caller ≡ outer_way → ⊥) × ArePlain rs

abbrev pub BeginsPlain : List LogRow → Type 0
BeginsPlain [] = ⊥
BeginsPlain (r ∷ rs) = (r ≡ outer_row) × ArePlain rs

-- each frame was opened behind the first row
abbrev pub AllStarted : List FrameWays → Type 0
AllStarted [] = Unit {0}
AllStarted (f ∷ fs) = (1 ≤ f.start) × AllStarted fs

-- the ways of a stretch, with these rows and frames, lie as they should
pub record IsStretch (rows : List LogRow) (fs : List FrameWays) : Type 0 where
  pub linked : AreLinked (reverse rows)
  pub frames : Laid (length rows) (reverse fs)
  pub plain : BeginsPlain rows
  pub started : AllStarted fs
  pub some : 0 < length fs

-- ---- how they are joined

-- where a way of a stretch ends in a log that had so many rows before
abbrev pub linked_to : ℕ → ℕ → ℕ → ℕ
linked_to outer rows way = cond (nat_eq way 0) 0 (cond (nat_eq way 1) outer (rows + way - 1))

pub record FitLinks (links : Links) (r : LogRow) : Type 0 where
  pub before : links.rows + r.before < 2 ^ 32
  pub within : links.rows + r.within < 2 ^ 32
  pub burdened_before : links.rows + r.burdened_before < 2 ^ 32
  pub burdened_within : links.rows + r.burdened_within < 2 ^ 32

-- the same, for the place of a row
pub record FitPlace (links : Links) (p : Place) : Type 0 where
  pub before : links.rows + p.before < 2 ^ 32
  pub within : links.rows + p.within < 2 ^ 32
  pub burdened_before : links.rows + p.burdened_before < 2 ^ 32
  pub burdened_within : links.rows + p.burdened_within < 2 ^ 32

abbrev pub joined_place : Links → Enclosure → Place → Place
joined_place links e p = record {
  before = linked_to links.plain links.rows p.before;
  within = linked_to links.plain links.rows p.within;
  burdened_before = linked_to links.burdened links.rows p.burdened_before;
  burdened_within = linked_to links.burdened links.rows p.burdened_within;
  caller = 0;
  site = p.site;
  top_site = p.top_site && not (e.sites p.site);
  top_caller = p.top_caller && is_top_caller e p.caller;
}

abbrev pub joined_row : Links → Enclosure → LogRow → LogRow
joined_row links e r = record {
  work = r.work;
  span = r.span;
  own = r.own;
  burdened_own = r.burdened_own;
  before = linked_to links.plain links.rows r.before;
  within = linked_to links.plain links.rows r.within;
  burdened_before = linked_to links.burdened links.rows r.burdened_before;
  burdened_within = linked_to links.burdened links.rows r.burdened_within;
  caller = 0;
  site = r.site;
  top_site = r.top_site && not (e.sites r.site);
  top_caller = r.top_caller && is_top_caller e r.caller;
  merged = None;
}

abbrev pub joined_ways : ℕ → ℕ → LoggedWays → LoggedWays
joined_ways outer rows w = record {
  along = record { rows = linked_to outer rows w.along.rows; own = w.along.own };
  through = record { rows = linked_to outer rows w.through.rows; own = w.through.own };
}

pub record FitFrame (links : Links) (f : FrameWays) : Type 0 where
  pub along : links.rows + f.plain_rows < 2 ^ 32
  pub through : links.rows + f.plain_through_rows < 2 ^ 32
  pub burdened_along : links.rows + f.burdened_rows < 2 ^ 32
  pub burdened_through : links.rows + f.burdened_through_rows < 2 ^ 32
  pub start : links.rows + f.start < 2 ^ 32
  pub started : 1 ≤ f.start

-- it was opened behind the first row of the stretch, which isn't put into the log
abbrev pub joined_frame : Links → ℕ → FrameWays → FrameWays
joined_frame links limit f =
    let plain = joined_ways links.plain links.rows (plain_of f) in
    let burdened = joined_ways links.burdened links.rows (burdened_of f) in
    frame_ways plain burdened (links.rows + f.start - 1) 0 limit

-- the own strands of both together fit, on the ways that are kept
pub record FitOwn (wins : Bool) (stretch w : LoggedWays) : Type 0 where
  pub along : w.along.own + stretch.along.own < 2 ^ 128
  pub through : wins ≡ true → w.along.own + stretch.through.own < 2 ^ 128

-- the ways into the frame in which the stretch begins go on by those of the stretch
abbrev pub gone_on_by : LoggedWays → Bool → LoggedWays → LoggedWays
gone_on_by s wins w = record {
  along = record { rows = s.along.rows; own = w.along.own + s.along.own };
  through = cond wins (record { rows = s.through.rows; own = w.along.own + s.through.own }) w.through;
}

abbrev pub gone_on : Links → OnPaths → FrameWays → FrameWays → FrameWays
gone_on links wins outer f =
    let plain = gone_on_by (joined_ways links.plain links.rows (plain_of outer)) wins.plain (plain_of f) in
    let burdened = gone_on_by (joined_ways links.burdened links.rows (burdened_of outer)) wins.burdened (burdened_of f) in
    frame_ways plain burdened f.start f.stored f.limit

-- ---- the ways that this gives

-- The ways u of the stretch into its outer frame, which begin with the rows of the way into it before, go on those into that
-- frame before.
abbrev pub joined_way : Bool → Ways → Ways → Ways
joined_way wins u w = record {
  along = record { rows = u.along.rows; own = w.along.own + u.along.own };
  through = cond wins (record { rows = u.through.rows; own = w.along.own + u.through.own }) w.through;
}

-- those of the stretch, innermost first, where w ∷ ws are the ways before
abbrev pub joined_list : Bool → List Ways → Ways → List Ways → List Ways
joined_list wins [] w ws = w ∷ ws
joined_list wins (u ∷ []) w ws = joined_way wins u w ∷ ws
joined_list wins (u ∷ v ∷ us) w ws = u ∷ joined_list wins (v ∷ us) w ws

-- ---- what a join asks for

-- the sums of the rows fit, where the outer frame alone is open in the stretch
abbrev pub FitLast : List Ways → Ways → List Ways → Bool → Type 0
FitLast [] w ws wins = Unit {0}
FitLast (u ∷ []) w ws wins = FitTop (joined_way wins u w ∷ ws)
FitLast (u ∷ v ∷ us) w ws wins = Unit {0}

-- some ways before the stretch go on by those of the stretch, and all sums fit
pub record CanJoin (on : Bool) (wins : OnPaths) (e : Enclosure) (o : OpenWays) (s : LoggedStretch) : Type 0 where
  pub base : Box Merged
  pub way : Ways
  pub below : List Ways
  pub ways : List Ways
  pub are : AreWays on o (way ∷ below)
  pub is_base : IsBase on base way.along
  pub enclosed : AreEnclosed on e base (stretch_rows s) (stretch_frames s) ways
  pub own : (f : FrameWays) (fs : List FrameWays) → reverse o.frames.items ≡ f ∷ fs → FitOwn (on_path on wins) (path_of on s.outer) (path_of on f)
  pub fits : FitLast ways way below (on_path on wins)
