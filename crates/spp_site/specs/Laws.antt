-- The law of tables.
use Rattle.std.specs.Prelude.{◌≡◌, ℕ}
use Rattle.spp_site.specs.Table.{Sums, row_at, HasNoZeroRow}

-- two tables with no zero row, equal roots and equal rows at every site are equal
abbrev pub RowsMakeTable : Type 0
RowsMakeTable = (a b : Sums) → HasNoZeroRow a → HasNoZeroRow b → a.root ≡ b.root → ((s : ℕ) → row_at a s ≡ row_at b s) → a ≡ b
