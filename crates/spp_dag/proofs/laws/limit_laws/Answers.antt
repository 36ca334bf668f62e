-- The bounds.
use Rattle.spp_dag.proofs.Bounds.{work_fits, walk_fits, stack_fits, rows_fit}
use Rattle.spp_dag.proofs.laws.limit_laws.Goals as goal

pub returns-clause-work : goal.returns-clause-work
returns-clause-work c = work_fits

pub returns-clause-walks : goal.returns-clause-walks
returns-clause-walks c = walk_fits

pub returns-clause-stacks : goal.returns-clause-stacks
returns-clause-stacks c = stack_fits

pub returns-clause-rows : goal.returns-clause-rows
returns-clause-rows c = rows_fit
