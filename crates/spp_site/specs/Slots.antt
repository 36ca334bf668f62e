-- How a table is stored: the rows in the order in which their sites came, and for each site the place of its row.
use Rattle.std.specs.Prelude.{◌≡◌, ℕ, ◌+◌, ◌-◌, ◌≤◌, ◌<◌, cond, nat_eq, List, [], ◌∷◌, length, get_or}
use Rattle.std.specs.Ordering.{nat_cmp}
use Rattle.std.specs.FinMap as map
use Rattle.spp_dag.specs.declared.row.Row.{Row}
use Rattle.spp_dag.specs.Shares.{zero_row, plus}
use Rattle.spp_site.specs.declared.slots.SiteRow.{SiteRow}
use Rattle.spp_site.specs.Rows.{is_zero}
use Rattle.spp_site.specs.Table.{Sums}

-- what stands at a place past the last
abbrev pub blank : SiteRow
blank = record { site = 0; row = zero_row }

-- the sum of the rows of a site
abbrev pub row_in : List SiteRow → ℕ → Row
row_in [] site = zero_row
row_in (e ∷ es) site = plus (cond (nat_eq site e.site) e.row zero_row) (row_in es site)

-- these sums by their sites, without those that are zero
abbrev pub sites_of : List SiteRow → map.FinMap nat_cmp Row
sites_of [] = map.empty
sites_of (e ∷ es) = cond (is_zero (row_in (e ∷ es) e.site)) (sites_of es) (map.insert (sites_of es) e.site (row_in (e ∷ es) e.site))

-- what contracts see of what is stored
abbrev pub stored : Row → List SiteRow → Sums
stored root rows = record { root = root; sites = sites_of rows }

-- rows without the root's
abbrev pub rows_alone : List SiteRow → Sums
rows_alone rows = stored zero_row rows

-- the index reaches the sites of these rows
abbrev pub AreReached : List ℕ → List SiteRow → Type 0
AreReached index rows = (k : ℕ) → k < length rows → (get_or rows k blank).site < length index

-- no row is the site's
abbrev pub HasNoRow : List SiteRow → ℕ → Type 0
HasNoRow rows site = (k : ℕ) → k < length rows → (get_or rows k blank).site ≡ site → ⊥

-- the row at place k is the site's
abbrev pub IsPlaceOf : List SiteRow → ℕ → ℕ → Type 0
IsPlaceOf rows site k = (k < length rows) × ((get_or rows k blank).site ≡ site)

-- the rows are of sites that a trace can have
abbrev pub AreOfSites : List SiteRow → Type 0
AreOfSites rows = (k : ℕ) → k < length rows → (get_or rows k blank).site < 65536

-- The index has the place of each row at its site, counted from 1, and 0 at all other sites; and it is no longer than a
-- trace can have sites. So there are no more rows than that.
pub record IsIndexed (index : List ℕ) (rows : List SiteRow) : Type 0 where
  pub placed : (k : ℕ) → k < length rows → get_or index (get_or rows k blank).site 0 ≡ k + 1
  pub exact : (site : ℕ) → 0 < get_or index site 0 → IsPlaceOf rows site (get_or index site 0 - 1)
  pub inside : (k : ℕ) → k < length rows → (get_or rows k blank).site < length index
  pub small : length index ≤ 65536

-- The hints have at a site the place of one of its rows, counted from 1, or 0; and they are no more than a trace can have
-- sites. A site can have several rows, and rows that no hint tells of.
pub record IsHinted (hints : List ℕ) (rows : List SiteRow) : Type 0 where
  pub exact : (site : ℕ) → 0 < get_or hints site 0 → IsPlaceOf rows site (get_or hints site 0 - 1)
  pub sites : AreOfSites rows
  pub small : length hints ≤ 65536
