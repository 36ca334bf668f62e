-- What is known of a run of which the figures are found as its records come.
use Rattle.std.specs.Prelude.{◌≡◌, ℕ, List}
use Rattle.spp_event.specs.declared.version.Version.{Version}
use Rattle.spp_event.specs.Recordings.{records_of}
use Rattle.spp_crew.specs.RecordFigures.{HasSeen, seen_by}
use Rattle.spp_shell.specs.declared.figured_records.FiguredRecords.{FiguredRecords}
use Rattle.spp_shell.specs.declared.record_stream.Head.{Head}

-- how many records have been read
abbrev pub figured_by : FiguredRecords → ℕ
figured_by r = seen_by r.figures

-- these bytes of whole events of that version have been read, in a trace with the header and under the burdens of the first
pub record IsFigured (version : Version) (first now : FiguredRecords) (bytes : List ℕ) : Type 0 where
  pub head : now.figures.head ≡ first.figures.head
  pub burdens : now.figures.burdens ≡ first.figures.burdens
  pub seen : HasSeen now.figures (records_of version now.figures.head.sites now.figures.head.funcs (figured_by now) bytes)

-- they are of a trace with a header of these numbers
pub record AreBehind (head : Head) (r : FiguredRecords) : Type 0 where
  pub sites : r.figures.head.sites ≡ head.sites
  pub funcs : r.figures.head.funcs ≡ head.funcs
  pub count : r.figures.head.count ≡ head.count
