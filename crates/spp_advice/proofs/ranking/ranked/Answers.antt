use Rattle.std.proofs.Common.{◌≡◌, ℕ, List, map, rules}
use Rattle.std.proofs.lemmas.Result.{IfOk-weaker}
use Rattle.spp_advice.specs.Ranking.{met_sites, weight_of, AreFirst}
use Rattle.spp_advice.specs.declared.ranking.Weighed.{Weighed}
use Rattle.spp_advice.proofs.Ranks.{told_sorted, first_are}
use Rattle.spp_advice.proofs.ranking.ranked.Goals as goal

pub returns : goal.returns
returns c =
    let weight = weight_of c.args.profile.now c.args.counts.now c.args.burdens in
    let met : List ℕ = met_sites c.args.profile.now c.args.counts.now c.args.sites in
    let sorted : List Weighed = c.sort_by.new.self.items in
    let up = told_sorted sorted c.in_ok-sort_by.ensures.sorted (λ a r f' k. search rules) in
    IfOk-weaker c.sites_of.result (λ v. v.items ≡ map (λ (x : Weighed). x.site) c.deref.result.now) (λ v. AreFirst weight met c.args.top v.items)
    (λ v e. first_are weight met c.in_ok-all.all.items sorted c.truncate.new.self.items c.deref.result.now c.args.top v.items c.in_ok-all.ensures.sites c.in_ok-all.ensures.weights
    c.in_ok-sort_by.ensures.permutation up c.truncate.ensures.items c.deref.ensures.value e)
    c.sites_of.ensures
