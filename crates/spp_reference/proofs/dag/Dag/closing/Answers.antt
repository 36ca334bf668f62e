use Rattle.spp_reference.proofs.Sums.{read_closing}
use Rattle.spp_reference.proofs.dag.Dag.closing.Goals as goal

pub returns-clause-within : goal.returns-clause-within
returns-clause-within c =
    read_closing c.self.inside.events.now c.args.self.now c.self.inside.closings.items c.self.inside.owners.items c.args.f c.index.result.now c.self.invariant c.self.view_is c.requires c.index.ensures
