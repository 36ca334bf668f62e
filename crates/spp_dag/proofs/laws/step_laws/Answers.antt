-- The laws of one event.
use Rattle.spp_dag.proofs.Steps.{entry_follows}
use Rattle.spp_dag.proofs.StepsShares.{share_follows}
use Rattle.spp_dag.proofs.laws.step_laws.Goals as goal

pub returns-clause-entry : goal.returns-clause-entry
returns-clause-entry c = entry_follows

pub returns-clause-share : goal.returns-clause-share
returns-clause-share c = share_follows
