use Rattle.std.proofs.Common.{◌≡◌, ℕ, true, List, sym, subst}
use Rattle.spp_site.specs.NarrowRows.{is_noted, AreNoted}
use Rattle.spp_site.proofs.Noted.{noted_more, one_noted}
use Rattle.spp_site.proofs.noted_table.note.Goals as goal

pub returns-in_ok-push-clause-noted : goal.returns-in_ok-push-clause-noted
returns-in_ok-push-clause-noted c =
    subst (λ (l : List ℕ). AreNoted l c.args.rows.now) (sym c.in_ok-push.ensures.items) (noted_more c.args.noted.now.items c.args.site c.args.rows.now c.requires.noted)

pub returns-in_ok-push-clause-one : goal.returns-in_ok-push-clause-one
returns-in_ok-push-clause-one c = subst (λ (l : List ℕ). is_noted l c.args.site ≡ true) (sym c.in_ok-push.ensures.items) (one_noted c.args.noted.now.items c.args.site)
