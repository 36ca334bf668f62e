-- Rows of frames that have closed, which the table of a run doesn't have.
use Rattle.std.specs.Prelude.{◌≡◌, ℕ, Option}
use Rattle.spp_dag.specs.declared.row.Row.{Row}
use Rattle.spp_dag.specs.Shares.{plus}
use Rattle.spp_site.specs.Profiles.{key_row}
use Rattle.spp_pass.specs.declared.aside.RowsAside.{RowsAside}
use Rattle.spp_site.specs.NarrowRows.{known_rows}
use Rattle.spp_pass.specs.OwedRows.{owed_rows}
use Rattle.spp_pass.specs.Passes.{Seen}

-- what rows that are kept aside add to it
abbrev pub aside_row : RowsAside → Option ℕ → Row
aside_row r key = plus (plus (key_row r.table key) (known_rows r.known.items key)) (owed_rows r.owed.items key)

-- those rows have been added to what was counted
pub record HasAside (aside : RowsAside) (old new : Seen) : Type 0 where
  pub frames : new.frames ≡ old.frames
  pub open_sites : new.open_sites ≡ old.open_sites
  pub open_funcs : new.open_funcs ≡ old.open_funcs
  pub work : new.work ≡ old.work
  pub table : (key : Option ℕ) → key_row new.table key ≡ plus (key_row old.table key) (aside_row aside key)
