use Rattle.std.proofs.Common.{subst}
use Rattle.spp_frame.specs.Answers.{IsFaultOf}
use Rattle.spp_frame.specs.declared.profile_fault.ProfileFault.{ProfileFault}
use Rattle.spp_crew.proofs.RecordProfiles.{come_if}
use Rattle.spp_crew.proofs.shown.Shown.followed_by.Goals as goal

pub go_on-requires-clause-come : goal.go_on-requires-clause-come
go_on-requires-clause-come g c =
    let come = c.requires.come c.in-Good.joining c.in-Good.is c.if-block-count.false in
    (come.0, c.args.block.first, come.1, come.2)

pub returns-in-Err-Bad-clause-shown : goal.returns-in-Err-Bad-clause-shown
returns-in-Err-Bad-clause-shown g c = λ trace few shown at.
    let come = come_if g.A.SoFar.is_so_far trace c.args.block.burdens c.args.block.first c.args.self c.in-Good.joining c.in-Good.is shown in
    subst (λ (f : ProfileFault). IsFaultOf trace.records f) c.in-Err-Bad.field-0-is (c.in-Err-Bad.ensures.fault trace c.args.block.first come at)
