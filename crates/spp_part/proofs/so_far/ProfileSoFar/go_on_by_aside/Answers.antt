use Rattle.std.proofs.Common.{subst}
use Rattle.spp_part.specs.declared.stretch.StoredStretch.{StoredStretch}
use Rattle.spp_part.specs.Parts.{GoesOn, rest_of, stored_of}
use Rattle.spp_part.proofs.Standing.{aside_same}
use Rattle.spp_part.proofs.so_far.ProfileSoFar.go_on_by_aside.Goals as goal

pub returns-in-Strand-clause-stands : goal.returns-in-Strand-clause-stands
returns-in-Strand-clause-stands c lent trace burdens i j settled st go =
    aside_same lent c.args.self.now.aside c.strands.new.self.aside c.strands.ensures.aside trace burdens j c.strands.new.self.counting c.strands.new.self.ways
    (c.strands.ensures.stands (rest_of c.args.self.now lent) trace burdens c.args.first i j settled st (subst (λ (k : StoredStretch). GoesOn trace burdens c.args.first i j settled (stored_of k)) c.in-Strand.is go))
