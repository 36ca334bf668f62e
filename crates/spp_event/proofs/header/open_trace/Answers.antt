use Rattle.std.proofs.Common.{arith}
use Rattle.spp_event.proofs.OpenTraceAnswers.{is_found, is_only, is_refused}
use Rattle.spp_event.proofs.TracesPass.{trace_again}
use Rattle.spp_event.proofs.header.open_trace.Goals as goal

pub returns-clause-found : goal.returns-clause-found
returns-clause-found c = is_found c.args.bytes.now c.checked.result (λ i. omega (arith, c.type_inv.bytes i)) c.checked.ensures

pub returns-clause-only : goal.returns-clause-only
returns-clause-only c = λ t h. is_only c.args.bytes.now c.checked.result t (trace_again c.args.bytes.now t h) c.checked.ensures

pub returns-clause-refused : goal.returns-clause-refused
returns-clause-refused c = is_refused c.args.bytes.now c.checked.result (λ i. omega (arith, c.type_inv.bytes i)) c.checked.ensures
