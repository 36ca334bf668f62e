use Rattle.std.proofs.Common.{length, subst, sym}
use Rattle.spp_path.specs.Entered.{AreEnteredIn}
use Rattle.spp_path.proofs.Found.{all_found}
use Rattle.spp_path.proofs.settling.WayBack.finish.Goals as goal

pub returns : goal.returns
returns c = λ es bd ps wf p come.
    subst (λ xs. AreEnteredIn es bd 0 (length es) xs) (sym c.reverse.ensures.items) (all_found es wf bd ps p c.args.self c.leave.new.self come c.in_ok-leave.ensures)
