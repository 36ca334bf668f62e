use Rattle.std.proofs.Common.{sym, ◌∙◌}
use Rattle.std.proofs.lemmas.Result.{IfOk-weaker}
use Rattle.spp_shell.proofs.Told.{plain_like}
use Rattle.spp_shell.proofs.profile_task.ReportTelling.tell.Goals as goal

pub returns-else-self : goal.returns-else-self
returns-else-self c =
    let named = c.args.named.now in
    rw c.if-self.false (IfOk-weaker c.plain_text.result _ _ (λ text is trace same. is ∙ sym (plain_like trace named.trace.now named.profile.now same)) c.plain_text.ensures)
