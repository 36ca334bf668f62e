-- The laws of walks.
use Rattle.spp_dag.proofs.Ties.{first_enters}
use Rattle.spp_dag.proofs.LeastChild.{walks_ordered}
use Rattle.spp_dag.proofs.laws.walk_laws.Goals as goal

pub returns-clause-parting : goal.returns-clause-parting
returns-clause-parting c = first_enters

pub returns-clause-ordered : goal.returns-clause-ordered
returns-clause-ordered c = walks_ordered
