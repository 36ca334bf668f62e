use Rattle.std.proofs.Common.{drop}
use Rattle.spp_dag.specs.Shares.{plus}
use Rattle.spp_site.specs.Profiles.{key_row}
use Rattle.spp_site.specs.NarrowRows.{known_rows}
use Rattle.spp_site.proofs.NarrowRows.{LacksKnown}
use Rattle.spp_site.proofs.narrow_table.NarrowTable.add_known.Given as goal

-- the rows before the index are in the table
abbrev pub invariant-loop-one : goal.invariant-loop-one
invariant-loop-one l = LacksKnown (key_row l.self) (drop l.one-index l.known) (λ key. plus (key_row l.fn.self key) (known_rows l.known key))
