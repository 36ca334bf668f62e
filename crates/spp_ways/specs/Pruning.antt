-- The rows of a stretch that its ways enter, and the stretch without the others.
use Rattle.std.specs.Prelude.{◌≡◌, ℕ, zero, suc, ◌+◌, ◌≤◌, ◌<◌, Bool, true, cond, List, [], ◌∷◌, ◌++◌, length, get_or, None}
use Rattle.spp_site.specs.Marks.{is_marked}
use Rattle.spp_ways.specs.declared.log.LogRow.{LogRow}
use Rattle.spp_ways.specs.declared.place.Place.{Place}
use Rattle.spp_ways.specs.declared.frame_ways.LoggedWays.{LoggedWays}
use Rattle.spp_ways.specs.declared.frame_ways.FrameWays.{FrameWays}
use Rattle.spp_ways.specs.declared.kept_rows.KeptRows.{KeptRows}
use Rattle.spp_ways.specs.OpenWays.{frame_ways, plain_of, burdened_of}
use Rattle.spp_ways.specs.Stretches.{outer_row}

-- ---- which rows are kept
-- `m k` tells whether the k-th row is kept, counted from 1, and with it the way that ends with it; `m 0` is of the way that enters
-- no row.

-- the ways to which a row leads are kept
pub record AreLinksKept (m : ℕ → Bool) (r : LogRow) : Type 0 where
  pub before : m r.before ≡ true
  pub within : m r.within ≡ true
  pub burdened_before : m r.burdened_before ≡ true
  pub burdened_within : m r.burdened_within ≡ true

-- Where a row behind the first n is kept, so are the ways to which it leads.
abbrev pub AreKeptBehind : (ℕ → Bool) → List LogRow → ℕ → Type 0
AreKeptBehind m rows n = (k : ℕ) → n ≤ k → k < length rows → m (suc k) ≡ true → AreLinksKept m (get_or rows k outer_row)

-- the ways into a frame are kept
pub record AreWaysKept (m : ℕ → Bool) (f : FrameWays) : Type 0 where
  pub along : m f.plain_rows ≡ true
  pub through : m f.plain_through_rows ≡ true
  pub burdened_along : m f.burdened_rows ≡ true
  pub burdened_through : m f.burdened_through_rows ≡ true

-- what is kept by the one is kept by the other
abbrev pub AreAlso : (ℕ → Bool) → (ℕ → Bool) → Type 0
AreAlso m more = (k : ℕ) → m k ≡ true → more k ≡ true

-- ---- what is kept of a stretch

-- How many of the first n rows are kept. The way that ended with the n-th, if that is kept, ends with this one of those.
abbrev pub kept_up_to : (ℕ → Bool) → ℕ → ℕ
kept_up_to m zero = 0
kept_up_to m (suc n) = kept_up_to m n + cond (m (suc n)) 1 0

abbrev pub pruned_place : (ℕ → Bool) → Place → Place
pruned_place m p = record p {
  before = kept_up_to m p.before;
  within = kept_up_to m p.within;
  burdened_before = kept_up_to m p.burdened_before;
  burdened_within = kept_up_to m p.burdened_within;
}

-- no row of a stretch was merged
abbrev pub pruned_row : (ℕ → Bool) → LogRow → LogRow
pruned_row m r = record r {
  before = kept_up_to m r.before;
  within = kept_up_to m r.within;
  burdened_before = kept_up_to m r.burdened_before;
  burdened_within = kept_up_to m r.burdened_within;
  merged = None;
}

-- those of the first n rows that are kept
abbrev pub pruned_rows : (ℕ → Bool) → List LogRow → ℕ → List LogRow
pruned_rows m rows zero = []
pruned_rows m rows (suc n) = pruned_rows m rows n ++ cond (m (suc n)) (pruned_row m (get_or rows n outer_row) ∷ []) []

abbrev pub pruned_ways : (ℕ → Bool) → LoggedWays → LoggedWays
pruned_ways m w = record {
  along = record { rows = kept_up_to m w.along.rows; own = w.along.own };
  through = record { rows = kept_up_to m w.through.rows; own = w.through.own };
}

abbrev pub pruned_frame : (ℕ → Bool) → FrameWays → FrameWays
pruned_frame m f = frame_ways (pruned_ways m (plain_of f)) (pruned_ways m (burdened_of f)) (kept_up_to m f.start) f.stored f.limit

-- ---- as it is stored

abbrev pub marks_of : KeptRows → ℕ → Bool
marks_of k = is_marked k.marks

-- its counts are how many of the first rows are kept, for each number of these
abbrev pub HasCounts : KeptRows → Type 0
HasCounts k = (n : ℕ) → n < length k.counts.items → get_or k.counts.items n 0 ≡ kept_up_to (marks_of k) n

-- the counts reach to where the ways end to which a row leads
pub record ReachesPlace (k : KeptRows) (p : Place) : Type 0 where
  pub before : p.before < length k.counts.items
  pub within : p.within < length k.counts.items
  pub burdened_before : p.burdened_before < length k.counts.items
  pub burdened_within : p.burdened_within < length k.counts.items

-- and to where those into a frame end, and where the frame was opened
pub record ReachesFrame (n : ℕ) (f : FrameWays) : Type 0 where
  pub start : f.start < n
  pub along : f.plain_rows < n
  pub through : f.plain_through_rows < n
  pub burdened_along : f.burdened_rows < n
  pub burdened_through : f.burdened_through_rows < n
