-- What a check has seen of the bytes of records.
use Rattle.std.specs.Prelude.{◌≡◌, ℕ, List}
use Rattle.spp_event.specs.declared.version.Version.{Version}
use Rattle.spp_event.specs.Recordings.{records_of}
use Rattle.spp_frame.specs.RecordChecks.{HasSeen, seen_by}
use Rattle.spp_shell.specs.declared.checked_records.CheckedRecords.{CheckedRecords}

-- the check has seen these bytes of whole events of that version, in a trace of as many sites and functions as the first
pub record IsChecked (version : Version) (first now : CheckedRecords) (bytes : List ℕ) : Type 0 where
  pub sites : now.sites ≡ first.sites
  pub funcs : now.funcs ≡ first.funcs
  pub seen : HasSeen now.check (records_of version now.sites now.funcs (seen_by now.check) bytes)

-- how many records it has seen
abbrev pub checked_by : CheckedRecords → ℕ
checked_by r = seen_by r.check
