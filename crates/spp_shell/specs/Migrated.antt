-- What was migrated of the bytes of records.
use Rattle.std.specs.Prelude.{ℕ, List, [], length}
use Rattle.spp_event.specs.declared.version.Version.{Version}
use Rattle.spp_event.specs.Recordings.{Recording, records_of}
use Rattle.spp_event.specs.RecordMigrations.{HasSeen, seen_by}
use Rattle.spp_shell.specs.declared.migrated_records.MigratedRecords.{MigratedRecords}

-- how many records it has seen
abbrev pub migrated_by : MigratedRecords → ℕ
migrated_by r = seen_by r.migration

-- the first has seen no record of the trace
abbrev pub IsBegun : Recording → MigratedRecords → Type 0
IsBegun t first = HasSeen first.migration t []

-- these bytes of whole events of that version were migrated, of each trace that the first was begun for
abbrev pub AreMigrated : Version → MigratedRecords → MigratedRecords → List ℕ → Type 0
AreMigrated version first now bytes =
    (t : Recording) → IsBegun t first → HasSeen now.migration t (records_of version (length t.sites) (length t.funcs) (migrated_by now) bytes)
