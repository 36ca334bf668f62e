use Rattle.std.proofs.Common.{◌≡◌, map}
use Rattle.std.specs.List.{All}
use Rattle.spp_advice.specs.Ranking.{met_sites, weight_of}
use Rattle.spp_advice.specs.declared.ranking.Weighed.{Weighed}
use Rattle.spp_advice.proofs.ranking.weigh_all.Given as goal

-- The sites below `site` are weighed.
abbrev pub invariant-loop-site : goal.invariant-loop-site
invariant-loop-site l = record {
  sites : map (λ (w : Weighed). w.site) l.all.items ≡ met_sites l.profile l.counts l.site;
  weights : All (λ (w : Weighed). w.weight ≡ weight_of l.profile l.counts l.burdens w.site) l.all.items;
}
