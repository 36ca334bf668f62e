-- Records that stand in a trace.
use Rattle.std.specs.Prelude.{◌≡◌, ℕ, ◌≤◌, ◌^◌, List, ◌++◌, length}
use Rattle.spp_event.specs.Recordings.{Record, Recording}

-- the trace has so many sites and functions, and these are its records from the one at `first` on
pub record HasPart (trace : Recording) (sites funcs first : ℕ) (rs : List Record) : Type 0 where
  pub sites_are : length trace.sites ≡ sites
  pub funcs_are : length trace.funcs ≡ funcs
  pub few : length trace.records ≤ 2 ^ 28
  pub before : List Record
  pub behind : List Record
  pub records : trace.records ≡ before ++ (rs ++ behind)
  pub at : length before ≡ first
