-- What contracts see of a row of a log, and how it is stored.
use Rattle.std.specs.Prelude.{ℕ, Bool, Option, Some, None}
use Rattle.std.specs.Global.{Box}
use Rattle.spp_ways.specs.declared.place.Place.{Place}
use Rattle.spp_ways.specs.declared.frame_counts.FrameCounts.{FrameCounts}
use Rattle.spp_ways.specs.declared.frame_counts.NarrowCounts.{NarrowCounts}
use Rattle.spp_ways.specs.declared.log.Merged.{Merged}
use Rattle.spp_ways.specs.declared.log.Counts.{Counts}
use Rattle.spp_ways.specs.declared.log.Counts.TheVariants.{Narrow, Wide, Merged as MergedCounts}

-- A closed frame, or what was merged, and for either path how the ways lead on from it. The names are those of the fields of
-- `FrameCounts` and `Place`.
pub record LoggedRow : Type 0 where
  pub work : ℕ
  pub span : ℕ
  pub own : ℕ
  pub burdened_own : ℕ
  pub before : ℕ
  pub within : ℕ
  pub burdened_before : ℕ
  pub burdened_within : ℕ
  pub caller : ℕ
  pub site : ℕ
  pub top_site : Bool
  pub top_caller : Bool
  pub merged : Option (Box Merged)

abbrev pub logged_row : Place → FrameCounts → Option (Box Merged) → LoggedRow
logged_row p c merged = record {
  work = c.work;
  span = c.span;
  own = c.own;
  burdened_own = c.burdened_own;
  before = p.before;
  within = p.within;
  burdened_before = p.burdened_before;
  burdened_within = p.burdened_within;
  caller = p.caller;
  site = p.site;
  top_site = p.top_site;
  top_caller = p.top_caller;
  merged = merged;
}

-- ---- how it is stored

-- the counts that 64 bits each stand for
abbrev pub widened : NarrowCounts → FrameCounts
widened c = record { work = c.work; span = c.span; own = c.own; burdened_own = c.burdened_own }

-- those of a row's frame; zeros for what was merged
abbrev pub frame_counts : Counts → FrameCounts
frame_counts (Narrow c) = widened c
frame_counts (Wide c) = c.value.counts
frame_counts (MergedCounts m) = record { work = 0; span = 0; own = 0; burdened_own = 0 }

abbrev pub merged_sums : Counts → Option (Box Merged)
merged_sums (Narrow c) = None
merged_sums (Wide c) = None
merged_sums (MergedCounts m) = Some m

abbrev pub stored_row : Place → Counts → LoggedRow
stored_row p c = logged_row p (frame_counts c) (merged_sums c)
