use Rattle.std.proofs.Common.{◌+◌}
use Rattle.spp_crew.specs.Blocks.{count_of}
use Rattle.spp_crew.proofs.Profiled.{if_ok}
use Rattle.spp_crew.proofs.RecordProfiles.{if_err}
use Rattle.spp_crew.proofs.joining.Joining.go_on.Goals as goal

pub join_first-requires-clause-come : goal.join_first-requires-clause-come
join_first-requires-clause-come g c =
    let come = c.requires.come in
    (come.0, come.1 + count_of c.args.block, c.in-Ok-post.ensures.come come.0 c.args.block.burdens come.1 (c.in-Ok.ensures.come come.0 come.1 come.2) come.3)

pub returns-clause-come : goal.returns-clause-come
returns-clause-come g c =
    if_ok c.join_first.result (λ j h. λ trace k come at. h trace (k + count_of c.args.block) (c.in-Ok-post.ensures.come trace c.args.block.burdens k (c.in-Ok.ensures.come trace k come) at)) c.join_first.ensures.come

pub returns-clause-fault : goal.returns-clause-fault
returns-clause-fault g c =
    if_err c.join_first.result (λ f h. λ trace k come at. h trace (k + count_of c.args.block) (c.in-Ok-post.ensures.come trace c.args.block.burdens k (c.in-Ok.ensures.come trace k come) at)) c.join_first.ensures.fault

pub returns-in-Err-clause-fault : goal.returns-in-Err-clause-fault
returns-in-Err-clause-fault g c trace k come at = c.in-Err.ensures.fault trace k come

pub returns-then-most-eq0-clause-come : goal.returns-then-most-eq0-clause-come
returns-then-most-eq0-clause-come g c = if_ok c.read_here.result (λ j h. λ trace k come at. h trace k (c.in-Ok.ensures.come trace k come) at) c.read_here.ensures.come

pub returns-then-most-eq0-clause-fault : goal.returns-then-most-eq0-clause-fault
returns-then-most-eq0-clause-fault g c = if_err c.read_here.result (λ f h. λ trace k come at. h trace k (c.in-Ok.ensures.come trace k come) at) c.read_here.ensures.fault
