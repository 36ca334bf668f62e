use Rattle.std.proofs.Common.{refl}
use Rattle.std.proofs.lemmas.Result.{IfOk-weaker}
use Rattle.spp_shell.proofs.profile_task.answer_profile.Goals as goal

pub returns-clause-text : goal.returns-clause-text
returns-clause-text g c =
    IfOk-weaker c.tell_input.result _ _ (λ text is. (is.0, is.1, (is.0, refl, (is.2.trace, is.2.profile, is.2.is_trace, is.2.is_profile, is.2.is_told)))) c.tell_input.ensures.told
