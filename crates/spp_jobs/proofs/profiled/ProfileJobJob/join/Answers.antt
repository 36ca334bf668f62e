use Rattle.std.proofs.Common.{◌++◌, refl, sym, ap₂, subst, ◌∙◌, List}
use Rattle.spp_part.specs.declared.part_profile.PartProfile.{PartProfile}
use Rattle.spp_book.specs.Jobs.{AreNeighbours, IsJoined}
use Rattle.spp_jobs.specs.Names.{parts_in}
use Rattle.spp_jobs.specs.ProfilePieces.{IsPiece}
use Rattle.spp_jobs.specs.declared.profiled.ProfilePiece.{ProfilePiece}
use Rattle.spp_jobs.specs.declared.profiled.ProfilePiece.TheVariants.{Later}
use Rattle.spp_jobs.proofs.ProfilePieces.{can_go_on, begun_joined, later_joined}
use Rattle.spp_jobs.proofs.profiled.ProfileJobJob.join.Goals as goal

pub gone_on-requires : goal.gone_on-requires
gone_on-requires c =
    can_go_on c.in-Begun.so_far c.in-Begun.burdens (Later c.in-Later-right.parts) c.in-Later-right.parts.items refl
    (subst (λ (x : ProfilePiece). AreNeighbours parts_in IsPiece x (Later c.in-Later-right.parts)) c.in-Begun.is
    (subst (λ (y : ProfilePiece). AreNeighbours parts_in IsPiece c.args.left y) c.in-Later-right.is c.requires))

pub returns-in-Later-right-clause-joined : goal.returns-in-Later-right-clause-joined
returns-in-Later-right-clause-joined c =
    subst (λ (y : ProfilePiece). IsJoined parts_in IsPiece c.args.left y c.gone_on.result) (sym c.in-Later-right.is)
    (subst (λ (x : ProfilePiece). IsJoined parts_in IsPiece x (Later c.in-Later-right.parts) c.gone_on.result) (sym c.in-Begun.is)
    (begun_joined c.in-Begun.so_far c.in-Begun.burdens (Later c.in-Later-right.parts) c.in-Later-right.parts.items refl c.gone_on.result c.gone_on.ensures))

pub returns-else-is_err-clause-joined : goal.returns-else-is_err-clause-joined
returns-else-is_err-clause-joined c =
    subst (λ (y : ProfilePiece). IsJoined parts_in IsPiece c.args.left y (Later c.chained.result)) (sym c.in-Later-right-2.is)
    (subst (λ (x : ProfilePiece). IsJoined parts_in IsPiece x (Later c.in-Later-right-2.back) (Later c.chained.result)) (sym c.in-Later.is)
    (later_joined (Later c.in-Later.front) (Later c.in-Later-right-2.back) (Later c.chained.result) c.in-Later.front.items c.in-Later-right-2.back.items refl refl
    (c.chained.ensures ∙ ap₂ (λ (xs ys : List PartProfile). xs ++ ys) c.make_room.ensures.left c.make_room.ensures.right)))
