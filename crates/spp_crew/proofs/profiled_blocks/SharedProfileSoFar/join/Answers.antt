use Rattle.std.proofs.Common.{◌+◌}
use Rattle.spp_crew.specs.Blocks.{count_of}
use Rattle.spp_crew.proofs.BlockParts.{part_at}
use Rattle.spp_crew.proofs.Profiled.{if_ok}
use Rattle.spp_crew.proofs.RecordProfiles.{if_err}
use Rattle.spp_crew.proofs.profiled_blocks.SharedProfileSoFar.join.Goals as goal

pub join_and_share-requires : goal.join_and_share-requires
join_and_share-requires g c =
    let q = c.requires in
    (q.0, q.1, count_of q.2, q.3, part_at q.0 c.args.burdens q.1 q.2 q.4 c.args.part q.5)

pub returns-then-shares_rows_of-clause-so_far : goal.returns-then-shares_rows_of-clause-so_far
returns-then-shares_rows_of-clause-so_far g c = if_ok c.join_and_share.result (λ s h. λ trace i block shared at part. h trace i (count_of block) shared (part_at trace c.args.burdens i block at c.args.part part)) c.join_and_share.ensures.so_far

pub returns-then-shares_rows_of-clause-fault : goal.returns-then-shares_rows_of-clause-fault
returns-then-shares_rows_of-clause-fault g c = if_err c.join_and_share.result (λ f h. λ trace i block shared at part. h trace i (count_of block) shared (part_at trace c.args.burdens i block at c.args.part part)) c.join_and_share.ensures.fault

pub join-requires : goal.join-requires
join-requires g c =
    let q = c.requires in
    (q.0, q.1, count_of q.2, c.in_ok-so_far.ensures q.0 c.args.burdens q.1 q.3, part_at q.0 c.args.burdens q.1 q.2 q.4 c.args.part q.5)

pub returns-in-Ok-clause-so_far : goal.returns-in-Ok-clause-so_far
returns-in-Ok-clause-so_far g c = λ trace i block shared at part.
    c.alone.ensures trace c.args.burdens (i + count_of block)
    (c.in-Ok.ensures.so_far trace i (count_of block) (c.in_ok-so_far.ensures trace c.args.burdens i shared) (part_at trace c.args.burdens i block at c.args.part part))

pub returns-clause-fault : goal.returns-clause-fault
returns-clause-fault g c = λ trace i block shared at part.
    c.in-Err.ensures.fault trace i (count_of block) (c.in_ok-so_far.ensures trace c.args.burdens i shared) (part_at trace c.args.burdens i block at c.args.part part)
