use Rattle.std.proofs.Common.{◌+◌, refl}
use Rattle.std.proofs.lemmas.List.{nil_from_length}
use Rattle.spp_crew.specs.Blocks.{count_of}
use Rattle.spp_crew.proofs.Joinings.{no_blocks}
use Rattle.spp_crew.proofs.joining.Joining.read_here.Goals as goal

pub returns-in-Err-clause-fault : goal.returns-in-Err-clause-fault
returns-in-Err-clause-fault g c trace k come at = c.in-Err.ensures.fault trace k come

pub read-requires-clause-so_far : goal.read-requires-clause-so_far
read-requires-clause-so_far g c =
    let come = c.requires.come in
    (come.0, come.1, c.in-Ok.ensures.so_far come.0 come.1 come.2, come.3)

pub returns-in-Ok-read-clause-come : goal.returns-in-Ok-read-clause-come
returns-in-Ok-read-clause-come g c trace k come at =
    let behind = k + count_of c.args.block in
    (behind, c.in-Ok-read.ensures.so_far trace k (c.in-Ok.ensures.so_far trace k come) at, no_blocks trace c.args.block.burdens behind c.in-Ok.joined.waiting.items (nil_from_length _ c.in-Ok.ensures.none))

pub returns-in-Err-read-clause-fault : goal.returns-in-Err-read-clause-fault
returns-in-Err-read-clause-fault g c trace k come at = c.in-Err-read.ensures.fault trace k (c.in-Ok.ensures.so_far trace k come) at
