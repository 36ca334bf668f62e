-- What is known of a run whose records come block by block.
use Rattle.std.specs.Prelude.{◌≡◌, ℕ, ◌<◌, List, ◌++◌, length, Err}
use Rattle.spp_event.specs.declared.records.EventFault.TheVariants.{Truncated}
use Rattle.spp_event.specs.Recordings.{Record, Recording, InLimits, AreEventsOf, record_at}
use Rattle.spp_crew.specs.Shared.{IsShared}
use Rattle.spp_crew.specs.Joinings.{IsShown, threads_in, waiting_in}
use Rattle.spp_crew.specs.declared.record_head.RecordHead.{RecordHead}
use Rattle.spp_crew.specs.declared.record_profile.RecordProfile.{RecordProfile}

-- the trace has a header of these numbers, and these are the first of its records
pub record BeginsWith (t : Recording) (head : RecordHead) (rs : List Record) : Type 0 where
  pub root_is : t.root ≡ head.root
  pub sites_are : length t.sites ≡ head.sites
  pub funcs_are : length t.funcs ≡ head.funcs
  pub count_is : length t.records ≡ head.count
  pub limits : InLimits t
  pub good : AreEventsOf (length t.sites) (length t.funcs) t.records
  pub behind : List Record
  pub records : t.records ≡ rs ++ behind

-- how many records have come
abbrev pub seen_by : RecordProfile → ℕ
seen_by p = p.at

-- how many threads that read records are still to be joined
abbrev pub threads_of : RecordProfile → ℕ
threads_of p = threads_in p.shown

-- how many blocks of records wait to be joined
abbrev pub waiting_of : RecordProfile → ℕ
waiting_of p = waiting_in p.shown

-- these have come: that is shown of each trace that begins with them
pub record HasSeen (p : RecordProfile) (rs : List Record) : Type 0 where
  pub count : p.at ≡ length rs
  pub good : AreEventsOf p.head.sites p.head.funcs rs
  pub found : (t : Recording) → BeginsWith t p.head rs → IsShown IsShared t p.burdens (length rs) p.shown

-- these have come of the trace, and of the others, if there are any, the first is cut off
pub record EndsWith (p : RecordProfile) (t : Recording) : Type 0 where
  pub before : List Record
  pub begins : BeginsWith t p.head before
  pub seen : HasSeen p before
  pub cut : 0 < length begins.behind → record_at begins.behind 0 ≡ Err Truncated
