use Rattle.std.proofs.Common.{subst}
use Rattle.spp_frame.specs.Answers.{IsFaultOf}
use Rattle.spp_frame.specs.declared.profile_fault.ProfileFault.{ProfileFault}
use Rattle.spp_shell.specs.Check.{IsFirstBadLine}
use Rattle.spp_shell.proofs.Refusals.{line_then}
use Rattle.spp_shell.proofs.profile_task.profile_or_refuse.Goals as goal

pub returns-in-Err-Bad-clause-line : goal.returns-in-Err-Bad-clause-line
returns-in-Err-Bad-clause-line g c =
    let fault = c.in-Err-Bad.ensures.fault in
    let bad = subst (λ (f : ProfileFault). IsFaultOf c.args.trace.now.records f) c.in-Err-Bad.field-0-is fault in
    line_then _ _ (IsFirstBadLine c.args.trace.now.records) c.refusal_of_event.ensures (λ line is. (c.in-Err-Bad.fault, bad, is))
