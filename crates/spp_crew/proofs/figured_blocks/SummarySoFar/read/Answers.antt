use Rattle.spp_crew.proofs.Profiled.{if_ok}
use Rattle.spp_crew.proofs.RecordProfiles.{if_err}
use Rattle.spp_crew.proofs.figured_blocks.SummarySoFar.read.Goals as goal

pub returns-clause-so_far : goal.returns-clause-so_far
returns-clause-so_far g c = if_ok c.both.result (λ s h. λ trace i so_far at. h trace c.args.block.now.burdens i c.args.block.now so_far at c.in-Ok.ensures) c.both.ensures.both

pub returns-clause-fault : goal.returns-clause-fault
returns-clause-fault g c = if_err c.both.result (λ f h. λ trace i so_far at. h trace c.args.block.now.burdens i c.args.block.now so_far at c.in-Ok.ensures) c.both.ensures.fault
