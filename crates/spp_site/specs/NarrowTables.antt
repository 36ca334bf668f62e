-- What contracts see of tables of narrow rows, and of rows that wait to be added to them: the rows of a table.
use Rattle.std.specs.Prelude.{ℕ, suc, List, [], ◌∷◌}
use Rattle.std.specs.FinMap as map
use Rattle.spp_dag.specs.declared.row.Row.{Row}
use Rattle.spp_dag.specs.Shares.{plus}
use Rattle.spp_site.specs.declared.narrow_row.NarrowRow.{NarrowRow}
use Rattle.spp_site.specs.declared.narrow_row.KnownRow.{KnownRow}
use Rattle.spp_site.specs.Table.{Sums, row_at}
use Rattle.spp_site.specs.NarrowRows.{narrow_row}

-- a table, with a row added to that of a site
abbrev pub with_row : Sums → ℕ → Row → Sums
with_row t site row = record t { sites = map.insert t.sites site (plus (row_at t site) row) }

-- with narrow rows added, which are those of the sites from the k-th on
abbrev pub with_narrow : Sums → ℕ → List NarrowRow → Sums
with_narrow t k [] = t
with_narrow t k (r ∷ rs) = with_row (with_narrow t (suc k) rs) k (narrow_row r)

-- a table of wide rows, with the narrow ones of the first sites
abbrev pub narrow_sums : Sums → List NarrowRow → Sums
narrow_sums wide rows = with_narrow wide 0 rows

-- a table, with rows of sites added
abbrev pub with_known : Sums → List KnownRow → Sums
with_known t [] = t
with_known t (k ∷ ks) = with_row (with_known t ks) k.site (narrow_row k.row)
