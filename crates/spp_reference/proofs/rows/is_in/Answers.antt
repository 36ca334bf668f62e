use Rattle.std.proofs.Common.{subst, sym, ◌≡◌, ◌∙◌}
use Rattle.spp_reference.specs.Places.{holds}
use Rattle.spp_reference.proofs.Sums.{any_contains}
use Rattle.spp_reference.proofs.rows.is_in.Goals as goal

pub returns-in-On : goal.returns-in-On
returns-in-On c =
    subst (λ places. c.contains.result ≡ holds places c.args.i) (sym c.in-On.is) (c.contains.ensures.value ∙ any_contains c.in-On.path.now c.args.i)
