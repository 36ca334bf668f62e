-- The laws of entries and choices.
use Rattle.spp_dag.proofs.Entries.{entry_is_one, running_passes, taken_is_choice, child_is_waited}
use Rattle.spp_dag.proofs.laws.choice_laws.Goals as goal

pub returns-clause-entry : goal.returns-clause-entry
returns-clause-entry c = entry_is_one

pub returns-clause-running : goal.returns-clause-running
returns-clause-running c = running_passes

pub returns-clause-taken : goal.returns-clause-taken
returns-clause-taken c = taken_is_choice

pub returns-clause-waited : goal.returns-clause-waited
returns-clause-waited c = child_is_waited
