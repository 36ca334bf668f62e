-- What contracts see of a run, and of a row of a comparison.
use Rattle.std.specs.Prelude.{map}
use Rattle.std.specs.String.{string_bytes}
use Rattle.spp_report.specs.declared.run.Run.{Run}
use Rattle.spp_report.specs.declared.comparison.CompareRow.{CompareRow}
use Rattle.spp_report.specs.Comparison.{Told, ToldRow}

-- what is compared of it; S is the type of its hasher, and H that of what this makes
abbrev pub told : {S H : Type 0} → Run S H → Told
told run = record { figures = run.figures; root = run.root; sites = map (λ e. (string_bytes e.0, e.1)) run.sites.entries }

-- what a row tells
abbrev pub told_row : CompareRow → ToldRow
told_row r = record { name = r.name.now; before = r.before; after = r.after }
