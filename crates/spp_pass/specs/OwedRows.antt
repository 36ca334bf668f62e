-- Rows of frames that have closed in a stretch, which no table has yet.
use Rattle.std.specs.Prelude.{ℕ, List, [], ◌∷◌, Option}
use Rattle.spp_dag.specs.declared.row.Row.{Row}
use Rattle.spp_dag.specs.Shares.{plus, zero_row}
use Rattle.spp_site.specs.Marks.{is_marked}
use Rattle.spp_ways.specs.Enclosures.{Enclosure}
use Rattle.spp_pass.specs.declared.owed.OwedCalls.{OwedCalls}
use Rattle.spp_pass.specs.CallRows.{calls_row}
use Rattle.spp_pass.specs.CallFrames.{stretch_calls}

-- what encloses the stretch whose rows are owed
abbrev pub owed_enclosure : OwedCalls → Enclosure
owed_enclosure o = record { sites = is_marked o.sites; funcs = is_marked o.funcs; direct = o.direct }

-- what they add to the row of a key
abbrev pub owed_row : OwedCalls → Option ℕ → Row
owed_row o key = calls_row (owed_enclosure o) (stretch_calls o.calls) key

abbrev pub owed_rows : List OwedCalls → Option ℕ → Row
owed_rows [] key = zero_row
owed_rows (o ∷ os) key = plus (owed_row o key) (owed_rows os key)
