use Rattle.std.proofs.Common.{◌+◌, ℕ, List, ◌∷◌, subst}
use Rattle.spp_event.specs.Recordings.{Recording}
use Rattle.spp_frame.specs.Answers.{IsFaultOf}
use Rattle.spp_frame.specs.declared.profile_fault.ProfileFault.{ProfileFault}
use Rattle.spp_part.specs.Parts.{IsSoFar}
use Rattle.spp_part.specs.declared.part_profile.PartProfile.{PartProfile}
use Rattle.spp_jobs.specs.ProfilePieces.{Follow}
use Rattle.spp_jobs.proofs.ProfilePieces.{told_on}
use Rattle.spp_jobs.proofs.profiled.join_parts.Goals as goal

pub returns-in_err-join-clause-fault : goal.returns-in_err-join-clause-fault
returns-in_err-join-clause-fault c =
    told_on
    (λ (f : ProfileFault). (trace : Recording) (i k : ℕ) → IsSoFar trace c.args.burdens i c.args.so_far.now → Follow trace c.args.burdens i c.args.parts.items k → IsFaultOf trace.records f)
    c.in_err-join.field-0.0 c.from_residual.result c.from_residual.ensures.1
    (λ trace i k so rest.
    let here = c.loop-part.invariant trace i k so rest in
    let next : Follow trace c.args.burdens here.0 (c.in-Some.part ∷ c.pop_front.new.self.items) k = subst (λ (l : List PartProfile). Follow trace c.args.burdens here.0 l k) c.in-Some.ensures.items here.2 in
    c.in_err-join.ensures.fault trace here.0 next.0 here.1 next.1)

pub loop-part-preserved : goal.loop-part-preserved
loop-part-preserved c trace i k so rest =
    let here = c.loop-part.invariant trace i k so rest in
    let next : Follow trace c.args.burdens here.0 (c.in-Some.part ∷ c.pop_front.new.self.items) k = subst (λ (l : List PartProfile). Follow trace c.args.burdens here.0 l k) c.in-Some.ensures.items here.2 in
    (here.0 + next.0, c.in_ok-join.ensures.so_far trace here.0 next.0 here.1 next.1, next.2)
