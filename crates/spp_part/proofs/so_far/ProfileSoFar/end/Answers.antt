use Rattle.std.proofs.Common.{sym, subst}
use Rattle.spp_frame.specs.Answers.{IsFaultOf}
use Rattle.spp_frame.specs.declared.profile_fault.ProfileFault.{ProfileFault}
use Rattle.spp_part.specs.declared.stretch.End.{End}
use Rattle.spp_part.specs.States.{IsEventAt}
use Rattle.spp_part.specs.Parts.{end_event}
use Rattle.spp_part.proofs.so_far.ProfileSoFar.end.Goals as goal

pub returns-then-not-branch-clause-fault : goal.returns-then-not-branch-clause-fault
returns-then-not-branch-clause-fault c rest trace st e lt =
    subst (λ (f : ProfileFault). IsFaultOf trace.records f) (sym c.bad.ensures)
    (c.in_ok-ret_counted-in-Return.ensures.fault c.if-not-branch.true rest trace c.args.at st (subst (λ (x : End). IsEventAt trace c.args.at (end_event x)) c.in-Return.is e) lt)
