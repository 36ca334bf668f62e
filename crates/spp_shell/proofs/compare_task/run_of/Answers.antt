use Rattle.std.proofs.Common.{inr}
use Rattle.spp_shell.specs.Devices.{giving_of}
use Rattle.spp_shell.proofs.Inputs.{placed_refused}
use Rattle.spp_shell.proofs.Streams.{began_within}
use Rattle.spp_shell.proofs.compare_task.run_of.Goals as goal

pub returns-in-Err-clause-refused : goal.returns-in-Err-clause-refused
returns-in-Err-clause-refused g c =
    placed_refused (giving_of g.S.Source.answered g.S.Source.failed g.S.Source.failures c.args.input.now c.tell_input.new.source) c.args.place (λ bytes gave. inr (bytes, gave))
    (λ front began. began_within g.S.Source.answered g.S.Source.failed g.S.Source.failures c.args.input.now c.tell_input.new.source front began)
    c.in-Err.refusal c.placed.result c.in-Err.ensures.refused c.placed.ensures
