use Rattle.std.proofs.Common.{◌≡◌, ◌+◌, ◌∷◌, ◌++◌, [], take, sym, ◌∙◌, ap}
use Rattle.std.specs.Option.{option_map}
use Rattle.std.proofs.lemmas.List.{take_more}
use Rattle.spp_report.specs.Advice.{burdened_weight}
use Rattle.spp_report.proofs.Advices.{heaviest_kept, heaviest_taken}
use Rattle.spp_report.proofs.advice.heaviest.Goals as goal
use Rattle.spp_report.proofs.advice.heaviest.Goals.{then-weight-least, else-weight-least}

pub loop-site-preserved : goal.loop-site-preserved
loop-site-preserved c =
    let burdens = c.args.burdens in
    let i = c.loop-site.site-index in
    let sites = c.args.sites.now in
    let site = c.site-item.result in
    let heaviest = option_map (λ s. s.now) c.loop-site.heaviest in
    let weight : site.burdened_path.local + c.cost.result ≡ burdened_weight burdens site = ap (λ n. site.burdened_path.local + n) c.cost.ensures.value in
    let more : take (i + 1) sites ≡ take i sites ++ site ∷ [] =
    take_more sites i site c.loop-site-test.true ∙ ap (λ y. take i sites ++ y ∷ []) (sym c.site-item.is) in
    elim c.if-weight-least.branch [
      | then-weight-least w ↦
          rw (more, w.heaviest-is, w.least-is) (
            heaviest_taken burdens (take i sites) heaviest site c.loop-site.invariant.0 (rw (sym weight, sym c.loop-site.invariant.1) w.if-weight-least.true),
            ap (λ n. n + 1) weight,
          )
      | else-weight-least w ↦
          rw (more, w.heaviest-is, w.least-is) (
            heaviest_kept burdens (take i sites) heaviest site c.loop-site.invariant.0 (rw (sym weight, sym c.loop-site.invariant.1) w.if-weight-least.false),
            c.loop-site.invariant.1,
          )
    ]
