-- The ways into open frames as they lie in a log, on both paths at once.
use Rattle.std.specs.Prelude.{◌≡◌, ℕ, suc, ◌+◌, ◌≤◌, ◌<◌, ◌^◌, Bool, true, false, cond, ◌||◌, List, [], ◌∷◌, ◌++◌, length, reverse, take, Option, Some, None}
use Rattle.spp_dag.specs.declared.row.Row.{Row}
use Rattle.spp_dag.specs.declared.stack.FrameKind.{FrameKind}
use Rattle.spp_dag.specs.declared.stack.FrameKind.TheVariants.{Root, Called, Spawned}
use Rattle.spp_site.specs.Rows.{Fits, frame_row}
use Rattle.spp_site.specs.declared.closed_frame.ClosedFrame.{ClosedFrame}
use Rattle.spp_ways.specs.declared.log.LogRow.{LogRow}
use Rattle.spp_ways.specs.declared.open_ways.OnPaths.{OnPaths}
use Rattle.spp_ways.specs.declared.frame_ways.LoggedWay.{LoggedWay}
use Rattle.spp_ways.specs.declared.frame_ways.LoggedWays.{LoggedWays}
use Rattle.spp_ways.specs.declared.frame_ways.FrameWays.{FrameWays}
use Rattle.spp_ways.specs.declared.open_ways.OpenWays.{OpenWays}
use Rattle.spp_ways.specs.Logs.{way_row, AreLinked}
use Rattle.spp_ways.specs.Ways.{Leaf, Way, Ways, strand_ways, waited_ways, way_on, closed_rows, returned_ways, rows_at}

-- the answer for one of both paths: without burdens (false), or under them (true)
abbrev pub on_path : Bool → OnPaths → Bool
on_path on a = cond on a.burdened a.plain

-- ---- what lies in the log

-- the way of a frame that lies so in a log is this one
abbrev pub IsWay : Bool → List LogRow → LoggedWay → Way → Type 0
IsWay on log w v = (w.own ≡ v.own) × ((key : Option ℕ) → way_row on log w.rows key ≡ rows_at v.rows key)

abbrev pub AreBoth : Bool → List LogRow → LoggedWays → Ways → Type 0
AreBoth on log w v = IsWay on log w.along v.along × IsWay on log w.through v.through

-- the ways of a frame on the path without burdens
abbrev pub plain_of : FrameWays → LoggedWays
plain_of f = record {
  along = record { rows = f.plain_rows; own = f.plain_own };
  through = record { rows = f.plain_through_rows; own = f.plain_through_own };
}

-- and on the path under the burdens
abbrev pub burdened_of : FrameWays → LoggedWays
burdened_of f = record {
  along = record { rows = f.burdened_rows; own = f.burdened_own };
  through = record { rows = f.burdened_through_rows; own = f.burdened_through_own };
}

-- the frame that has these ways, without burdens and under them, and these numbers of rows: at its start, stored, and its limit
abbrev pub frame_ways : LoggedWays → LoggedWays → ℕ → ℕ → ℕ → FrameWays
frame_ways p b start stored limit = record {
  plain_own = p.along.own;
  plain_through_own = p.through.own;
  burdened_own = b.along.own;
  burdened_through_own = b.through.own;
  plain_rows = p.along.rows;
  plain_through_rows = p.through.rows;
  burdened_rows = b.along.rows;
  burdened_through_rows = b.through.rows;
  start = start;
  stored = stored;
  limit = limit;
}

abbrev pub path_of : Bool → FrameWays → LoggedWays
path_of on f = cond on (burdened_of f) (plain_of f)

-- the ways into these frames are these
abbrev pub AllWays : Bool → List LogRow → List FrameWays → List Ways → Type 0
AllWays on log [] [] = Unit {0}
AllWays on log [] (v ∷ vs) = ⊥
AllWays on log (f ∷ fs) [] = ⊥
AllWays on log (f ∷ fs) (v ∷ vs) = AreBoth on log (path_of on f) v × AllWays on log fs vs

-- on one of both paths these are the ways into the open frames, innermost first: they have these sums
abbrev pub AreWays : Bool → OpenWays → List Ways → Type 0
AreWays on o ways = AllWays on (reverse o.log.rows.items) (reverse o.frames.items) ways

-- the ways end within the first n rows
abbrev pub AreIn : ℕ → LoggedWays → Type 0
AreIn n w = (w.along.rows ≤ n) × (w.through.rows ≤ n)

-- The ways into the frames, innermost first, end within the first n rows, and those into the frames below one where the log
-- ended as it was opened.
abbrev pub Laid : ℕ → List FrameWays → Type 0
Laid n [] = Unit {0}
Laid n (f ∷ fs) = (f.start ≤ n) × AreIn n (plain_of f) × AreIn n (burdened_of f) × Laid f.start fs

pub record IsLaid (o : OpenWays) : Type 0 where
  pub linked : AreLinked (reverse o.log.rows.items)
  pub frames : Laid (length o.log.rows.items) (reverse o.frames.items)

-- ---- the steps, on one path

abbrev pub HasOne : List Ways → Type 0
HasOne [] = ⊥
HasOne (w ∷ ws) = Unit {0}

abbrev pub HasTwo : List Ways → Type 0
HasTwo [] = ⊥
HasTwo (w ∷ ws) = HasOne ws

-- there is an innermost frame, and its strands can have so many instructions more
abbrev pub FitStrand : ℕ → List Ways → Type 0
FitStrand count [] = ⊥
FitStrand count (w ∷ ws) = w.along.own + count < 2 ^ 128

-- the strands of the innermost of these frames can have so many instructions more on that path
abbrev pub FitTopStrand : Bool → ℕ → List FrameWays → Type 0
FitTopStrand on count [] = ⊥
FitTopStrand on count (f ∷ fs) = (path_of on f).along.own + count < 2 ^ 128

abbrev pub strand_list : ℕ → List Ways → List Ways
strand_list count [] = []
strand_list count (w ∷ ws) = strand_ways count w ∷ ws

abbrev pub waited_list : Bool → List Ways → List Ways
waited_list takes [] = []
waited_list takes (w ∷ ws) = waited_ways takes w ∷ ws

-- the sums of the rows of the ways into the innermost frame fit their types
abbrev pub FitTop : List Ways → Type 0
FitTop [] = Unit {0}
FitTop (w ∷ ws) = ((key : Option ℕ) → Fits (rows_at w.along.rows key)) × ((key : Option ℕ) → Fits (rows_at w.through.rows key))

-- what the close of a frame adds to its row besides its strands
abbrev pub bare_row : ClosedFrame → Row
bare_row c = frame_row (record c { local = 0 })

abbrev pub returned_list : FrameKind → Bool → Bool → ℕ → Row → List Ways → List Ways
returned_list kind takes wins site row [] = []
returned_list kind takes wins site row (w ∷ []) = []
returned_list kind takes wins site row (w ∷ v ∷ ws) = returned_ways kind wins (closed_rows (Some site) row (way_on takes w)) v ∷ ws

-- the rows of the root frame, which alone is open and closes, its own the last
abbrev pub root_rows : Bool → Row → List Ways → List Leaf
root_rows takes row [] = []
root_rows takes row (w ∷ ws) = closed_rows None row (way_on takes w)

-- ---- one frame in the log

-- the way on which the frame goes on where it waits
abbrev pub chosen : Bool → LoggedWays → LoggedWay
chosen takes w = cond takes w.through w.along

abbrev pub nothing : LoggedWay
nothing = record { rows = 0; own = 0 }

-- the ways into a frame that has waited, and has taken the child that waits in it or not: no child waits in it any longer
abbrev pub waited : Bool → LoggedWays → LoggedWays
waited takes w = record { along = chosen takes w; through = nothing }

abbrev pub waited_frame : OnPaths → FrameWays → FrameWays
waited_frame takes f = frame_ways (waited takes.plain (plain_of f)) (waited takes.burdened (burdened_of f)) f.start f.stored f.limit

-- their rows have been merged: they end with these two of the log
abbrev pub merged_ways : ℕ → ℕ → LoggedWays → LoggedWays
merged_ways along through w = record { along = record { rows = along; own = w.along.own }; through = record { rows = through; own = w.through.own } }

pub record AreMerged (along through : ℕ) (f g : FrameWays) : Type 0 where
  pub plain : plain_of g ≡ merged_ways along through (plain_of f)
  pub burdened : burdened_of g ≡ merged_ways along through (burdened_of f)
  pub start : g.start ≡ f.start

-- the innermost frame has three rows or more
abbrev pub HasRowsOf : ℕ → List FrameWays → Type 0
HasRowsOf n [] = ⊥
HasRowsOf n (f ∷ fs) = f.start + 3 ≤ n

abbrev pub HasRows : OpenWays → Type 0
HasRows o = HasRowsOf (length o.log.rows.items) (reverse o.frames.items)

-- a frame of that kind has returned, whose way through it ends with that row
abbrev pub come : FrameKind → Bool → ℕ → LoggedWays → LoggedWays
come Root wins rows w = w
come Called wins rows w = record { along = record { rows = rows; own = w.along.own }; through = w.through }
come Spawned wins rows w = record { along = w.along; through = cond wins (record { rows = rows; own = w.along.own }) w.through }

-- whether the way through a frame of that kind is kept on either path
abbrev pub entered : FrameKind → OnPaths → Bool
entered Root wins = false
entered Called wins = true
entered Spawned wins = wins.plain || wins.burdened

-- The ways into the parent of a frame of that kind, which returns, that stay as they are end within the first n rows.
abbrev pub StayIn : ℕ → FrameKind → Bool → LoggedWays → Type 0
StayIn n Root wins w = AreIn n w
StayIn n Called wins w = AreIn n w
StayIn n Spawned wins w = (w.along.rows ≤ n) × cond wins (Unit {0}) (w.through.rows ≤ n)

-- ---- a return in the log

-- the row of a frame that returns, where its own ways and those into its parent are these
abbrev pub returned_row : OnPaths → ℕ → ℕ → ClosedFrame → FrameWays → FrameWays → LogRow
returned_row takes site caller closed v g = record {
  work = closed.work;
  span = closed.span;
  own = (chosen takes.plain (plain_of v)).own;
  burdened_own = (chosen takes.burdened (burdened_of v)).own;
  before = g.plain_rows;
  within = (chosen takes.plain (plain_of v)).rows;
  burdened_before = g.burdened_rows;
  burdened_within = (chosen takes.burdened (burdened_of v)).rows;
  caller = caller;
  site = site;
  top_site = closed.top_site;
  top_caller = closed.top_caller;
  merged = None;
}

-- the parent, where the way through the child ends with the n-th row
abbrev pub come_frame : FrameKind → OnPaths → ℕ → ℕ → ℕ → FrameWays → FrameWays
come_frame kind wins n stored limit g =
    frame_ways (come kind wins.plain n (plain_of g)) (come kind wins.burdened n (burdened_of g)) g.start stored limit

-- The innermost frame v has returned to g, and the log is cut to so many rows, but for the frame's own, which is put behind
-- them if the way through it is kept on either path.
abbrev pub IsLeft : Bool → FrameKind → OnPaths → OnPaths → ℕ → ℕ → ClosedFrame → FrameWays → FrameWays → List FrameWays → ℕ → List LogRow → List LogRow → List FrameWays → Type 0
IsLeft false kind takes wins site caller closed v g below to old rows frames = (rows ≡ take to old) × (frames ≡ g ∷ below)
IsLeft true kind takes wins site caller closed v g below to old rows frames =
    (stored : ℕ) × (limit : ℕ) × ((chosen takes.plain (plain_of v)).rows ≤ to) × ((chosen takes.burdened (burdened_of v)).rows ≤ to)
    × (rows ≡ take to old ++ (returned_row takes site caller closed v g ∷ []))
    × (frames ≡ come_frame kind wins (suc to) stored limit g ∷ below)

pub record IsPut (kind : FrameKind) (takes wins : OnPaths) (site caller : ℕ) (closed : ClosedFrame) (old new : OpenWays) : Type 0 where
  pub child : FrameWays
  pub parent : FrameWays
  pub below : List FrameWays
  pub frames : reverse old.frames.items ≡ child ∷ parent ∷ below
  pub to : ℕ
  pub start : parent.start ≤ to
  pub plain : StayIn to kind wins.plain (plain_of parent)
  pub burdened : StayIn to kind wins.burdened (burdened_of parent)
  pub short : to ≤ length old.log.rows.items
  pub left : IsLeft (entered kind wins) kind takes wins site caller closed child parent below to old.log.rows.items new.log.rows.items (reverse new.frames.items)
