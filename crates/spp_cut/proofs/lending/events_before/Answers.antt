use Rattle.std.proofs.Common.{rules, ◌≡◌, take, arith}
use Rattle.spp_cut.specs.Parts.{events_in}
use Rattle.spp_cut.proofs.Halves.{events_parted}
use Rattle.spp_cut.proofs.lending.events_before.Goals as goal

pub returns-clause-others : goal.returns-clause-others
returns-clause-others c =
    let value : c.loop-part.events ≡ events_in (take c.args.at c.args.parts.now) = search rules in
    let parted = events_parted c.args.parts.now c.args.at in
    omega arith
