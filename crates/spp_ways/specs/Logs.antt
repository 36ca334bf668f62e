-- A log of closed frames, and the ways that end in it.
use Rattle.std.specs.Prelude.{◌≡◌, ℕ, zero, suc, ◌≤◌, ◌<◌, Bool, cond, nat_eq, List, [], ◌∷◌, length, reverse, Option, Some, None}
use Rattle.spp_dag.specs.declared.row.Row.{Row}
use Rattle.spp_dag.specs.Shares.{plus, zero_row}
use Rattle.spp_dag.specs.Steps.{same_key}
use Rattle.std.specs.Global.{Box}
use Rattle.spp_site.specs.Rows.{frame_row}
use Rattle.spp_site.specs.declared.closed_frame.ClosedFrame.{ClosedFrame}
use Rattle.spp_site.specs.Profiles.{key_row}
use Rattle.spp_ways.specs.declared.log.Merged.{Merged}
use Rattle.spp_ways.specs.declared.log.LogRow.{LogRow}
use Rattle.spp_ways.specs.declared.log.Log.{Log}

-- ---- what a row of the log says of one of both paths: without burdens (false), or under them (true)

-- where the way ends that leads to the frame in its parent
abbrev pub before_on : Bool → LogRow → ℕ
before_on on r = cond on r.burdened_before r.before

-- where the way through it ends
abbrev pub within_on : Bool → LogRow → ℕ
within_on on r = cond on r.burdened_within r.within

-- the frame as a table of that path counts it
abbrev pub closed_on : Bool → LogRow → ClosedFrame
closed_on on r = record {
  local = cond on r.burdened_own r.own;
  work = r.work;
  span = r.span;
  top_site = r.top_site;
  top_caller = r.top_caller;
}

-- what that frame adds to the row of a key
abbrev pub frame_on : Bool → LogRow → Option ℕ → Row
frame_on on r key = cond (same_key (Some r.site) key) (frame_row (closed_on on r)) zero_row

-- what was merged adds on that path: what both paths have alike, and what it has besides
abbrev pub merged_on : Bool → Merged → Option ℕ → Row
merged_on on m key = plus (key_row m.common key) (key_row (cond on m.burdened m.plain) key)

abbrev pub merged_row : Bool → LogRow → Option (Box Merged) → Option ℕ → Row
merged_row on r None key = frame_on on r key
merged_row on r (Some m) key = merged_on on m.value key

-- what a row of the log adds to the row of a key: that of its frame, or what was merged
abbrev pub row_on : Bool → LogRow → Option ℕ → Row
row_on on r key = merged_row on r r.merged key

-- A row for what was merged, which leads on either path to the way that ends with the to-th row, or to nothing where `to` is 0,
-- and with no way within it.
pub record IsMergedRow (to : ℕ) (m : Merged) (r : LogRow) : Type 0 where
  pub box : Box Merged
  pub merged : r.merged ≡ Some box
  pub value : box.value ≡ m
  pub before : r.before ≡ to
  pub within : r.within ≡ 0
  pub burdened_before : r.burdened_before ≡ to
  pub burdened_within : r.burdened_within ≡ 0
  pub site : r.site ≡ 0

-- ---- the ways

-- What the way that ends with the k-th row of a log, whose rows are told the last first and counted from 1, adds to the row of
-- a key; nothing where k is 0. It is what the way adds that leads to the frame of that row, the way through it, and the frame
-- itself.
abbrev pub way_row : Bool → List LogRow → ℕ → Option ℕ → Row
way_row on [] k key = zero_row
way_row on (r ∷ rs) k key = cond (nat_eq k (suc (length rs)))
    (plus (way_row on rs (before_on on r) key) (plus (way_row on rs (within_on on r) key) (row_on on r key)))
    (way_row on rs k key)

abbrev pub row_in : Bool → Log → ℕ → Option ℕ → Row
row_in on log k key = way_row on (reverse log.rows.items) k key

-- ---- what a way has behind a prefix

-- where the way ends that leads to the frame of the k-th row; 0 where k is
abbrev pub before_at : Bool → List LogRow → ℕ → ℕ
before_at on [] k = 0
before_at on (r ∷ rs) k = cond (nat_eq k (suc (length rs))) (before_on on r) (before_at on rs k)

-- the way k without the last n frames that it enters one after the other, and without the ways through these
abbrev pub led : Bool → List LogRow → ℕ → ℕ → ℕ
led on log zero k = k
led on log (suc n) k = before_at on log (led on log n k)

-- The way p is a prefix of the way k: it is k, or a prefix of the way to the frame of k's last row.
abbrev pub HasPrefix : Bool → List LogRow → ℕ → ℕ → Type 0
HasPrefix on log k p = (n : ℕ) × (led on log n k ≡ p)

-- What the way k adds behind its prefix p: its last frames, and the ways through them. It is all that k adds where p is 0.
abbrev pub rest_row : Bool → List LogRow → ℕ → ℕ → Option ℕ → Row
rest_row on [] k p key = zero_row
rest_row on (r ∷ rs) k p key = cond (nat_eq k (suc (length rs)))
    (cond (nat_eq k p) zero_row (plus (rest_row on rs (before_on on r) p key) (plus (way_row on rs (within_on on r) key) (row_on on r key))))
    (rest_row on rs k p key)

abbrev pub rest_in : Bool → Log → ℕ → ℕ → Option ℕ → Row
rest_in on log k p key = rest_row on (reverse log.rows.items) k p key

-- a row leads to rows before it alone
pub record IsLinked (n : ℕ) (r : LogRow) : Type 0 where
  pub before : r.before ≤ n
  pub within : r.within ≤ n
  pub burdened_before : r.burdened_before ≤ n
  pub burdened_within : r.burdened_within ≤ n
  pub site : r.site < 65536

-- each row of a log does, told the last first
abbrev pub AreLinked : List LogRow → Type 0
AreLinked [] = Unit {0}
AreLinked (r ∷ rs) = IsLinked (length rs) r × AreLinked rs
