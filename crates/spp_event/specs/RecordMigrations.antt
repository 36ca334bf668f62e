-- What a migration of a trace whose records come piece by piece has seen.
use Rattle.std.specs.Prelude.{◌≡◌, ℕ, ◌<◌, List, length, ◌++◌, MatchResult, Err}
use Rattle.spp_event.specs.declared.migrating.MigrateFault.TheVariants.{Bad}
use Rattle.spp_event.specs.declared.record_migration.RecordMigration.{RecordMigration}
use Rattle.spp_event.specs.declared.records.EventFault.TheVariants.{Truncated}
use Rattle.spp_event.specs.Header.{HasGoodNames}
use Rattle.spp_event.specs.Migrating.{IsMigrateFault}
use Rattle.spp_event.specs.Recordings.{Record, Recording, InLimits, record_at}
use Rattle.spp_event.specs.Written.{AreWritten}

-- how many records it has seen
abbrev pub seen_by : RecordMigration → ℕ
seen_by m = m.at

-- how many the header claims
abbrev pub claimed_by : RecordMigration → ℕ
claimed_by m = m.count

-- it has seen these records, of a trace with the header of t: they are written, or it has found the first bad one
pub record HasSeen (m : RecordMigration) (t : Recording) (rs : List Record) : Type 0 where
  pub count : m.at ≡ length rs
  pub sites : m.sites ≡ length t.sites
  pub funcs : m.funcs ≡ length t.funcs
  pub claimed : m.count ≡ length t.records
  pub found : MatchResult m.written (λ bytes. AreWritten t rs bytes.items) (λ bad. IsMigrateFault rs (Bad bad.at bad.why))

-- these are the records that it has seen of the trace, and the others, the first of which is cut off
pub record EndsWith (m : RecordMigration) (t : Recording) : Type 0 where
  pub limits : InLimits t
  pub names : HasGoodNames t
  pub before : List Record
  pub behind : List Record
  pub all : t.records ≡ before ++ behind
  pub seen : HasSeen m t before
  pub cut : 0 < length behind → record_at behind 0 ≡ Err Truncated
