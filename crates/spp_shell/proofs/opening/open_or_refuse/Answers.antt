use Rattle.spp_shell.specs.Check.{TellsHeader}
use Rattle.spp_shell.proofs.Refusals.{line_then}
use Rattle.spp_shell.proofs.opening.open_or_refuse.Goals as goal

pub returns-in-Err-clause-refused : goal.returns-in-Err-clause-refused
returns-in-Err-clause-refused c =
    line_then _ _ (λ line. TellsHeader c.args.bytes.now line) c.refusal_of_header.ensures (λ line said. (c.in-Err.fault, c.in-Err.ensures.refused said.0, said.1))
