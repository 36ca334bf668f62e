-- The positions that a table is about.
use Rattle.std.specs.Prelude.{ℕ, Bool}
use Rattle.spp_dag.specs.Rows.{everywhere, contains}
use Rattle.spp_reference.specs.declared.rows.Places.{Places}
use Rattle.spp_reference.specs.declared.rows.Places.TheVariants.{All, On}

-- whether a position is among them
abbrev pub holds : Places → ℕ → Bool
holds All = everywhere
holds (On path) = contains path.now
