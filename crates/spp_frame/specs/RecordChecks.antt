-- What a check of records that come piece by piece has seen.
use Rattle.std.specs.Prelude.{◌≡◌, ℕ, ◌<◌, List, length, ◌++◌, MatchOption, Err}
use Rattle.spp_event.specs.declared.records.EventFault.TheVariants.{Truncated}
use Rattle.spp_event.specs.Recordings.{Record, record_at}
use Rattle.spp_frame.specs.declared.record_check.RecordCheck.{RecordCheck}
use Rattle.spp_frame.specs.Pieces.{Far, IsBadIn}

-- how many records it has seen
abbrev pub seen_by : RecordCheck → ℕ
seen_by c = c.at

-- it has seen these records: it has found the first bad one, or has come to their end
pub record HasSeen (c : RecordCheck) (rs : List Record) : Type 0 where
  pub count : c.at ≡ length rs
  pub found : MatchOption c.bad (Far rs (length rs) c.frames.depth c.frames.work) (λ f. IsBadIn rs f)

-- these are the records that it has seen, and the others, the first of which is cut off
pub record EndsWith (c : RecordCheck) (rs : List Record) : Type 0 where
  pub before : List Record
  pub behind : List Record
  pub all : rs ≡ before ++ behind
  pub seen : HasSeen c before
  pub cut : 0 < length behind → record_at behind 0 ≡ Err Truncated
