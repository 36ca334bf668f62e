use Rattle.std.proofs.Common.{drop}
use Rattle.spp_dag.specs.Shares.{plus}
use Rattle.spp_site.specs.Profiles.{key_row}
use Rattle.spp_pass.specs.OwedRows.{owed_rows}
use Rattle.spp_pass.proofs.AsideRows.{Rest}
use Rattle.spp_pass.proofs.owed.OwedCalls.add_all.Given as goal

-- those before the index are in the table
abbrev pub invariant-loop-calls : goal.invariant-loop-calls
invariant-loop-calls l = Rest l.table (drop l.calls-index l.owed) (λ key. plus (key_row l.fn.table key) (owed_rows l.owed key))
