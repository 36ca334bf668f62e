-- What is known of a run of which the figures are asked, and whose records come block by block.
use Rattle.std.specs.Prelude.{◌≡◌, ℕ, ◌<◌, List, length, Err}
use Rattle.spp_event.specs.declared.records.EventFault.TheVariants.{Truncated}
use Rattle.spp_event.specs.Recordings.{Record, Recording, AreEventsOf, record_at}
use Rattle.spp_crew.specs.Blocks.{IsSummaryOfFirst}
use Rattle.spp_crew.specs.Joinings.{IsShown, threads_in, waiting_in}
use Rattle.spp_crew.specs.RecordProfiles.{BeginsWith}
use Rattle.spp_crew.specs.declared.record_head.RecordHead.{RecordHead}
use Rattle.spp_crew.specs.declared.record_figures.RecordFigures.{RecordFigures}

-- the same numbers, but for the function that the root of the trace runs
abbrev pub rooted : Recording → RecordHead → RecordHead
rooted t head = record { root = t.root; sites = head.sites; funcs = head.funcs; count = head.count }

-- the trace has a header of these numbers, whichever function its root runs, and these are the first of its records
abbrev pub BeginsAs : Recording → RecordHead → List Record → Type 0
BeginsAs t head rs = BeginsWith t (rooted t head) rs

-- how many records have come
abbrev pub seen_by : RecordFigures → ℕ
seen_by f = f.at

-- how many threads that read records are still to be joined
abbrev pub threads_of : RecordFigures → ℕ
threads_of f = threads_in f.shown

-- how many blocks of records wait to be joined
abbrev pub waiting_of : RecordFigures → ℕ
waiting_of f = waiting_in f.shown

-- these have come: that is shown of each trace that begins with them
pub record HasSeen (f : RecordFigures) (rs : List Record) : Type 0 where
  pub count : f.at ≡ length rs
  pub good : AreEventsOf f.head.sites f.head.funcs rs
  pub found : (t : Recording) → BeginsAs t f.head rs → IsShown IsSummaryOfFirst t f.burdens (length rs) f.shown

-- these have come of the trace, and of the others, if there are any, the first is cut off
pub record EndsWith (f : RecordFigures) (t : Recording) : Type 0 where
  pub before : List Record
  pub begins : BeginsAs t f.head before
  pub seen : HasSeen f before
  pub cut : 0 < length begins.behind → record_at begins.behind 0 ≡ Err Truncated
