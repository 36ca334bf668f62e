use Rattle.std.proofs.Common.{arith, reverse}
use Rattle.spp_summary.proofs.ReadEvents.{laid_since}
use Rattle.spp_summary.proofs.storage.Storage.middle.Goals as goal

pub overflow_sub-outside : goal.overflow_sub-outside
overflow_sub-outside c =
    let p = c.args.self.now in
    omega (arith, laid_since p.run p.before p.since (reverse p.opens.items) (reverse p.states.items) c.requires.laid, c.outside.ensures)
