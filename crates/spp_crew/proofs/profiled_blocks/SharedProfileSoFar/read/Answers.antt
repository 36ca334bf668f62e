use Rattle.std.proofs.Common.{◌+◌}
use Rattle.spp_crew.specs.Blocks.{count_of}
use Rattle.spp_crew.proofs.profiled_blocks.SharedProfileSoFar.read.Goals as goal

pub returns-in-Ok-clause-so_far : goal.returns-in-Ok-clause-so_far
returns-in-Ok-clause-so_far g c trace i shared at =
    let block = c.args.block.now in
    c.alone.ensures trace block.burdens (i + count_of block) (c.in-Ok.ensures.so_far trace i (c.in_ok-so_far.ensures trace block.burdens i shared) at)

pub returns-in-Err-clause-fault : goal.returns-in-Err-clause-fault
returns-in-Err-clause-fault g c trace i shared at = c.in-Err.ensures.fault trace i (c.in_ok-so_far.ensures trace c.args.block.now.burdens i shared) at
