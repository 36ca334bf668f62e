use Rattle.std.proofs.Common.{◌<◌, subst}
use Rattle.spp_crew.proofs.CutRecords.{bad_of_first}
use Rattle.spp_crew.proofs.figured_blocks.unless_bad.Goals as goal

pub returns-in-Err-clause-fault : goal.returns-in-Err-clause-fault
returns-in-Err-clause-fault c = λ trace burdens k is.
    bad_of_first trace burdens k c.args.summary c.in-Err.fault is c.in-Err.ensures.fault (subst (λ n. c.in-Err.fault.at < n) c.events.ensures.value c.if-fault-events.true)
