use Rattle.std.proofs.Common.{drop}
use Rattle.spp_dag.specs.Shares.{plus}
use Rattle.spp_site.specs.Profiles.{key_row}
use Rattle.spp_ways.specs.Enclosures.{enclosure_of}
use Rattle.spp_pass.specs.CallRows.{calls_row}
use Rattle.spp_pass.proofs.Joining.{Rest}
use Rattle.spp_pass.proofs.calls.add_calls.Given as goal

-- the calls before the index are in the table
abbrev pub invariant-loop-call : goal.invariant-loop-call
invariant-loop-call l = Rest l.table (enclosure_of l.enclosing) (drop l.call-index l.calls) (λ key. plus (key_row l.fn.table key) (calls_row (enclosure_of l.enclosing) l.calls key))
