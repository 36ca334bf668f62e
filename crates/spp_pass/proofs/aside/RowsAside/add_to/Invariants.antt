use Rattle.std.proofs.Common.{drop}
use Rattle.spp_dag.specs.Shares.{plus}
use Rattle.spp_site.specs.Profiles.{key_row}
use Rattle.spp_pass.specs.AsideRows.{aside_row}
use Rattle.spp_site.proofs.NarrowRows.{LacksKnown}
use Rattle.spp_pass.proofs.aside.RowsAside.add_to.Given as goal

-- all rows are in the table, but for those known ones that aren't before the index
abbrev pub invariant-loop-one : goal.invariant-loop-one
invariant-loop-one l = LacksKnown (key_row l.table) (drop l.one-index l.fn.self.known.items) (λ key. plus (key_row l.fn.table key) (aside_row l.fn.self key))
