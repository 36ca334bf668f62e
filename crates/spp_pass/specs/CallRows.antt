-- What the frames come to that close in a stretch of events.
use Rattle.std.specs.Prelude.{◌≡◌, ℕ, ◌*◌, ◌<◌, ◌≤◌, cond, not, List, [], ◌∷◌, length, get_or, Option}
use Rattle.spp_dag.specs.declared.row.Row.{Row}
use Rattle.spp_dag.specs.Shares.{plus, zero_row}
use Rattle.spp_site.specs.Rows.{frame_row}
use Rattle.spp_site.specs.NarrowRows.{at_site}
use Rattle.spp_site.specs.declared.closed_frame.ClosedFrame.{ClosedFrame}
use Rattle.spp_ways.specs.Enclosures.{Enclosure, is_top_caller, enclosed}
use Rattle.spp_pass.specs.declared.calls.CallRow.{CallRow}

-- What the row of frames of a site and a caller is in a run where this encloses the stretch: its sums by site are 0 where an
-- enclosing frame was entered by the site, those by caller where the caller isn't top in it (`is_top_caller`).
abbrev pub enclosed_sums : Enclosure → ℕ → ℕ → Row → Row
enclosed_sums e site caller r = record {
  count = r.count;
  local = r.local;
  site_count = cond (not (e.sites site)) r.site_count 0;
  site_work = cond (not (e.sites site)) r.site_work 0;
  site_span = cond (not (e.sites site)) r.site_span 0;
  caller_count = cond (is_top_caller e caller) r.caller_count 0;
  caller_work = cond (is_top_caller e caller) r.caller_work 0;
  caller_span = cond (is_top_caller e caller) r.caller_span 0;
}

-- what rows add to that of a key
abbrev pub calls_row : Enclosure → List CallRow → Option ℕ → Row
calls_row e [] key = zero_row
calls_row e (c ∷ cs) key = plus (calls_row e cs key) (at_site c.site (enclosed_sums e c.site c.caller c.row) key)

-- each is of a site below that
abbrev pub AreCallsBelow : ℕ → List CallRow → Type 0
AreCallsBelow n [] = Unit {0}
AreCallsBelow n (c ∷ cs) = (c.site < n) × AreCallsBelow n cs

-- in place of a row where there is none
abbrev pub no_calls : CallRow
no_calls = record { row = zero_row; site = 0; caller = 0 }

-- the same by their numbers
abbrev pub EachBelow : ℕ → List CallRow → Type 0
EachBelow n cs = (k : ℕ) → k < length cs → (get_or cs k no_calls).site < n

-- a row for one frame
abbrev pub lone_row : ℕ → ℕ → ClosedFrame → CallRow
lone_row site caller f = record { row = frame_row f; site = site; caller = caller }

-- what a frame that closes adds to it
abbrev pub call_row : Enclosure → ℕ → ℕ → ClosedFrame → Option ℕ → Row
call_row e site caller f key = at_site site (frame_row (enclosed e site caller f)) key

-- a frame that closes has been added, whatever encloses the stretch
pub record AreAdded (site caller : ℕ) (f : ClosedFrame) (old new : List CallRow) : Type 0 where
  pub rows : (e : Enclosure) (key : Option ℕ) → calls_row e new key ≡ plus (calls_row e old key) (call_row e site caller f key)
  pub below : (n : ℕ) → AreCallsBelow n old → site < n → AreCallsBelow n new

-- The sums of no more than n frames, none of which has more than 2^92 instructions.
pub record IsLight (n : ℕ) (r : Row) : Type 0 where
  pub count : r.count ≤ n
  pub local : r.local ≤ n * 4951760157141521099596496896
  pub site_count : r.site_count ≤ n
  pub site_work : r.site_work ≤ n * 4951760157141521099596496896
  pub site_span : r.site_span ≤ n * 4951760157141521099596496896
  pub caller_count : r.caller_count ≤ n
  pub caller_work : r.caller_work ≤ n * 4951760157141521099596496896
  pub caller_span : r.caller_span ≤ n * 4951760157141521099596496896

abbrev pub AreLight : ℕ → List CallRow → Type 0
AreLight n [] = Unit {0}
AreLight n (c ∷ cs) = IsLight n c.row × AreLight n cs

pub record IsLightFrame (f : ClosedFrame) : Type 0 where
  pub local : f.local ≤ 4951760157141521099596496896
  pub work : f.work ≤ 4951760157141521099596496896
  pub span : f.span ≤ 4951760157141521099596496896
