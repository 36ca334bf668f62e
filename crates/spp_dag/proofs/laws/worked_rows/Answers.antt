-- The worked rows.
use Rattle.spp_dag.proofs.WorkedRows.{empty, large_strands, one_child, equal_ways, empty_child, equal_children, no_sync, recursive_calls, recursive_root, nested_children, two_syncs, call_between, child_not_entered}
use Rattle.spp_dag.proofs.laws.worked_rows.Goals as goal

pub returns-clause-empty : goal.returns-clause-empty
returns-clause-empty c = empty

pub returns-clause-large_strands : goal.returns-clause-large_strands
returns-clause-large_strands c = large_strands

pub returns-clause-one_child : goal.returns-clause-one_child
returns-clause-one_child c = one_child

pub returns-clause-equal_ways : goal.returns-clause-equal_ways
returns-clause-equal_ways c = equal_ways

pub returns-clause-empty_child : goal.returns-clause-empty_child
returns-clause-empty_child c = empty_child

pub returns-clause-equal_children : goal.returns-clause-equal_children
returns-clause-equal_children c = equal_children

pub returns-clause-no_sync : goal.returns-clause-no_sync
returns-clause-no_sync c = no_sync

pub returns-clause-recursive_calls : goal.returns-clause-recursive_calls
returns-clause-recursive_calls c = recursive_calls

pub returns-clause-recursive_root : goal.returns-clause-recursive_root
returns-clause-recursive_root c = recursive_root

pub returns-clause-nested_children : goal.returns-clause-nested_children
returns-clause-nested_children c = nested_children

pub returns-clause-two_syncs : goal.returns-clause-two_syncs
returns-clause-two_syncs c = two_syncs

pub returns-clause-call_between : goal.returns-clause-call_between
returns-clause-call_between c = call_between

pub returns-clause-child_not_entered : goal.returns-clause-child_not_entered
returns-clause-child_not_entered c = child_not_entered
