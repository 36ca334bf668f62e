use Rattle.spp_shell.proofs.Refusals.{line_made}
use Rattle.spp_shell.proofs.opening.refusal_of_event.Goals as goal

pub returns : goal.returns
returns c = line_made _ _ _ c.of_line.ensures c.line_of_event.ensures
