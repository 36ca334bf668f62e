use Rattle.std.proofs.Common.{◌≡◌, ◌∷◌, map, take}
use Rattle.spp_shell.specs.Advise.{root_told, site_told, told_site}
use Rattle.spp_shell.proofs.advising.listed.Given as goal

abbrev pub invariant-loop-site : goal.invariant-loop-site
invariant-loop-site l =
    map told_site l.sites.items ≡ root_told l.profile ∷ map (site_told l.trace l.profile l.counts) (take l.site-index l.first)
