use Rattle.std.proofs.Common.{◌<◌, length, arith, refl}
use Rattle.spp_summary.proofs.Chains.{raised_front}
use Rattle.spp_summary.proofs.storage.Storage.place.Goals as goal

pub returns-in-Some-clause-opens : goal.returns-in-Some-clause-opens
returns-in-Some-clause-opens c =
    let xs = c.args.self.now.opens.items in
    let lt : 0 < length xs = omega (arith, c.in-Some.ensures.variant.0 refl, c.args.self.now.opens.ok.0) in
    raised_front c.args.next xs c.in-Some.first.now lt c.in-Some.ensures.value
