use Rattle.spp_crew.proofs.RecordProfiles.{if_err}
use Rattle.spp_crew.proofs.figured_blocks.SummarySoFar.join.Goals as goal

pub returns-clause-fault : goal.returns-clause-fault
returns-clause-fault g c = if_err c.both.result (λ f h. λ trace i block so_far at part. h trace c.args._burdens i block so_far at part) c.both.ensures.fault
