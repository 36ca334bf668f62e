use Rattle.std.proofs.Common.{sym, subst}
use Rattle.spp_frame.specs.Answers.{IsFaultOf}
use Rattle.spp_frame.specs.declared.profile_fault.ProfileFault.{ProfileFault}
use Rattle.spp_frame.specs.declared.profile_fault.ProfileFault.TheVariants.{Bad}
use Rattle.spp_frame.specs.declared.Why.TheVariants.{Event}
use Rattle.spp_part.proofs.Parting.{stopped}
use Rattle.spp_part.proofs.so_far.ProfileSoFar.cut_off.Goals as goal

pub returns : goal.returns
returns c trace burdens i so within is =
    subst (λ (f : ProfileFault). IsFaultOf trace.records f) (sym c.bad.ensures)
    (subst (λ k. IsFaultOf trace.records (Bad (record { at = k; why = Event c.args.fault }))) (sym so.1)
    (stopped trace burdens i c.args.self.now.counting c.args.self.now.ways so.0 c.args.fault within is))
