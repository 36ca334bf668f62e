use Rattle.std.proofs.Common.{◌<◌, length, arith, refl, sym, ◌∙◌, ap}
use Rattle.spp_summary.specs.declared.opens.Open.{Open}
use Rattle.spp_summary.proofs.Chains.{outside_front}
use Rattle.spp_summary.proofs.storage.Storage.outside.Goals as goal

pub returns-in-Some : goal.returns-in-Some
returns-in-Some c =
    let p = c.args.self.now in
    let xs = p.opens.items in
    let lt : 0 < length xs = omega (arith, c.in-Some.ensures.variant.0 refl, p.opens.ok.0) in
    ap (λ (o : Open). o.gap) c.in-Some.ensures.lookup ∙ sym (outside_front p.run xs c.in-Some.first.now lt)
