use Rattle.std.proofs.Common.{◌∷◌, [], refl, subst, inr}
use Rattle.spp_event.specs.Recordings.{Recording}
use Rattle.spp_frame.specs.Answers.{IsFaultOf}
use Rattle.spp_frame.specs.declared.profile_fault.ProfileFault.{ProfileFault}
use Rattle.spp_shell.specs.Check.{IsCheckLine}
use Rattle.spp_shell.proofs.Refusals.{line_then}
use Rattle.spp_shell.proofs.figures_task.answer_figures.Goals as goal

pub returns-in-Err-Bad-clause-line : goal.returns-in-Err-Bad-clause-line
returns-in-Err-Bad-clause-line g c =
    let t = c.in_ok-trace.trace in
    let fault = subst (λ (x : Recording). IsFaultOf x.records c.in-Err-Bad.field-0) c.in_ok-cut.ensures.trace c.in-Err-Bad.ensures.fault in
    let bad = subst (λ (f : ProfileFault). IsFaultOf t.records f) c.in-Err-Bad.field-0-is fault in
    line_then _ _ (IsCheckLine (c.args.bytes.now ∷ [])) c.refusal_of_event.ensures
    (λ line is. (c.args.bytes.now, refl, inr (t, c.in_ok-trace.ensures.found, (c.in-Err-Bad.fault, bad, is))))
