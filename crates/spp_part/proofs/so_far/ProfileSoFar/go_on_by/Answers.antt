use Rattle.std.proofs.Common.{subst}
use Rattle.spp_part.specs.declared.stretch.StoredStretch.{StoredStretch}
use Rattle.spp_part.specs.Parts.{GoesOn, stored_of}
use Rattle.spp_part.proofs.so_far.ProfileSoFar.go_on_by.Goals as goal

pub returns-in-Strand-clause-stands : goal.returns-in-Strand-clause-stands
returns-in-Strand-clause-stands c rest trace burdens i j settled st go =
    c.strands.ensures.stands rest trace burdens c.args.first i j settled st (subst (λ (k : StoredStretch). GoesOn trace burdens c.args.first i j settled (stored_of k)) c.in-Strand.is go)
