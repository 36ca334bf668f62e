-- The laws of the path.
use Rattle.spp_dag.proofs.Ties.{path_exists, path_exists_to, path_unique}
use Rattle.spp_dag.proofs.Stacks.{path_enters_taken, path_takes_child, taken_join}
use Rattle.spp_dag.proofs.PathLaws.{path_calls, path_passes}
use Rattle.spp_dag.proofs.LeastChild.{path_takes_least}
use Rattle.spp_dag.proofs.laws.path_laws.Goals as goal

pub returns-clause-exists : goal.returns-clause-exists
returns-clause-exists c = path_exists

pub returns-clause-exists_to : goal.returns-clause-exists_to
returns-clause-exists_to c = λ es wf burdens k waits. path_exists_to es wf burdens k waits.0 waits.1

pub returns-clause-one : goal.returns-clause-one
returns-clause-one c = path_unique

pub returns-clause-taken : goal.returns-clause-taken
returns-clause-taken c = path_enters_taken

pub returns-clause-called : goal.returns-clause-called
returns-clause-called c = path_calls

pub returns-clause-passes : goal.returns-clause-passes
returns-clause-passes c = path_passes

pub returns-clause-choice : goal.returns-clause-choice
returns-clause-choice c = path_takes_child

pub returns-clause-joins : goal.returns-clause-joins
returns-clause-joins c = taken_join

pub returns-clause-least : goal.returns-clause-least
returns-clause-least c = path_takes_least
