use Rattle.std.proofs.Common.{◌≡◌, ℕ, List, [], ◌∷◌, ◌++◌, Vec, Global, map, refl, sym, ap, subst, ◌∙◌}
use Rattle.std.specs.List.{All}
use Rattle.spp_site.specs.declared.profile.Profile.{Profile}
use Rattle.spp_advice.specs.Ranking.{is_met, weight_of}
use Rattle.spp_advice.specs.declared.ranking.Weighed.{Weighed}
use Rattle.spp_advice.proofs.Ranks.{met_pushed, met_passed, weights_pushed}
use Rattle.spp_advice.proofs.ranking.weigh_all.Goals.{then-meets+in_ok-push, else-meets}
use Rattle.spp_advice.proofs.ranking.weigh_all.Goals as goal

pub loop-site-preserved : goal.loop-site-preserved
loop-site-preserved c =
    let p : Profile = c.args.profile.now in
    let weight = weight_of p c.args.counts.now c.args.burdens in
    let old : List Weighed = c.loop-site.all.items in
    let new : List Weighed = c.if-meets.all.items in
    let at : ℕ = c.loop-site.site in
    elim c.if-meets.branch [
      | then-meets+in_ok-push w ↦
          let one : Weighed = record { site = at; weight = w.weight-weight.result } in
          let is : new ≡ old ++ one ∷ [] = ap (λ (v : Vec Weighed Global). v.items) w.all-is ∙ w.in_ok-push.ensures.items in
          record {
            sites = met_pushed (is_met p c.args.counts.now) at old new one (sym c.meets.ensures ∙ w.if-meets.true) refl is c.loop-site.invariant.sites;
            weights = weights_pushed weight old new one w.weight-weight.ensures is c.loop-site.invariant.weights;
          }
      | else-meets w ↦
          let is : new ≡ old = ap (λ (v : Vec Weighed Global). v.items) w.all-is in
          record {
            sites = ap (λ (ws : List Weighed). map (λ (x : Weighed). x.site) ws) is
                ∙ met_passed (is_met p c.args.counts.now) at (map (λ (x : Weighed). x.site) old) (sym c.meets.ensures ∙ w.if-meets.false) c.loop-site.invariant.sites;
            weights = subst (λ (ws : List Weighed). All (λ (x : Weighed). x.weight ≡ weight x.site) ws) (sym is) c.loop-site.invariant.weights;
          }
    ]
