-- The laws of the stack machine.
use Rattle.spp_dag.proofs.Stacks.{stack_stands, machine_gives_spans, frames_give_spans, waits_give_spans}
use Rattle.spp_dag.proofs.Faults.{machine_finds}
use Rattle.spp_dag.proofs.Pieces.{run-append}
use Rattle.spp_dag.proofs.laws.stack_laws.Goals as goal

pub returns-clause-stands : goal.returns-clause-stands
returns-clause-stands c = stack_stands

pub returns-clause-ends : goal.returns-clause-ends
returns-clause-ends c = machine_gives_spans

pub returns-clause-frames : goal.returns-clause-frames
returns-clause-frames c = frames_give_spans

pub returns-clause-waits : goal.returns-clause-waits
returns-clause-waits c = waits_give_spans

pub returns-clause-faults : goal.returns-clause-faults
returns-clause-faults c = machine_finds

pub returns-clause-follows : goal.returns-clause-follows
returns-clause-follows c = run-append
