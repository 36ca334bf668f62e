use Rattle.spp_event.proofs.HeaderLaws.{header_fault_is_one, trace_has_no_fault, trace_is_one, trace_or_fault}
use Rattle.spp_event.proofs.SpelledBodies.{trace_is_spelled, bytes_are_one}
use Rattle.spp_event.proofs.laws.header_laws.Goals as goal

pub returns-clause-one_fault : goal.returns-clause-one_fault
returns-clause-one_fault c = header_fault_is_one

pub returns-clause-no_fault : goal.returns-clause-no_fault
returns-clause-no_fault c = trace_has_no_fault

pub returns-clause-one_trace : goal.returns-clause-one_trace
returns-clause-one_trace c = trace_is_one

pub returns-clause-either : goal.returns-clause-either
returns-clause-either c = trace_or_fault

pub returns-clause-bytes : goal.returns-clause-bytes
returns-clause-bytes c = trace_is_spelled

pub returns-clause-one_list : goal.returns-clause-one_list
returns-clause-one_list c = bytes_are_one
