use Rattle.std.proofs.Common.{List, ℕ, ◌++◌}
use Rattle.spp_shell.specs.Check.{TellsHeader}
use Rattle.spp_shell.proofs.Continuations.{fault_stays}
use Rattle.spp_shell.proofs.Refusals.{line_then}
use Rattle.spp_shell.proofs.opening.open_front.Goals as goal

pub returns-in_default-clause-refused : goal.returns-in_default-clause-refused
returns-in_default-clause-refused c =
    line_then _ _ (λ line. (more : List ℕ) → TellsHeader (c.args.bytes.now ++ more) line) c.refusal_of_header.ensures
    (λ line said more. (
      c.in-Err.fault,
      fault_stays c.args.bytes.now c.in-Err.fault c.in_default.not-Short c.in_default.not-Trailing (c.in-Err.ensures.refused said.0) more,
      said.1,
    ))
