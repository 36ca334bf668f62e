-- How far a reader of records has come, and what is wrong with those that it has seen.
use Rattle.std.specs.Prelude.{◌≡◌, ℕ, ◌+◌, ◌<◌, List, length, take}
use Rattle.std.specs.List.{count_by, sum_by}
use Rattle.spp_event.specs.Recordings.{Record}
use Rattle.spp_frame.specs.declared.Fault.{Fault}
use Rattle.spp_frame.specs.Nesting.{opens_frame, closes_frame, weight, IsGoodBefore, IsFirstBad}

-- nothing is wrong before position i, and the two numbers are the depth there and the work before it
pub record Far (rs : List Record) (i d w : ℕ) : Type 0 where
  pub good : IsGoodBefore rs i
  pub depth : count_by opens_frame (take i rs) ≡ d + count_by closes_frame (take i rs)
  pub work : w ≡ sum_by weight (take i rs)

-- one of the records is wrong, and this is the first
pub record IsBadIn (rs : List Record) (f : Fault) : Type 0 where
  pub within : f.at < length rs
  pub first : IsFirstBad rs f
