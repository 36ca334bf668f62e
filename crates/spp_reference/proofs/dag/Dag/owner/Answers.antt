use Rattle.spp_reference.proofs.Sums.{read_owner}
use Rattle.spp_reference.proofs.dag.Dag.owner.Goals as goal

pub returns-clause-before : goal.returns-clause-before
returns-clause-before c =
    read_owner c.self.inside.events.now c.args.self.now c.self.inside.closings.items c.self.inside.owners.items c.args.k c.index.result.now c.self.invariant c.self.view_is c.requires c.index.ensures
