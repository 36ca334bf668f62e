use Rattle.std.proofs.Common.{refl, arith}
use Rattle.spp_dag.specs.Shares.{plus}
use Rattle.spp_site.specs.Profiles.{key_row}
use Rattle.spp_pass.specs.OwedRows.{owed_rows}
use Rattle.spp_pass.proofs.AsideRows.{rest_none}
use Rattle.spp_pass.proofs.owed.OwedCalls.add_all.Goals as goal

pub loop-calls-init : goal.loop-calls-init
loop-calls-init c = λ key. refl

pub returns : goal.returns
returns c = rest_none c.loop-calls.table c.args.owed.now c.loop-calls.calls-index (λ key. plus (key_row c.args.table.now key) (owed_rows c.args.owed.now key)) (omega (arith, c.loop-calls-test.false)) c.loop-calls.invariant
