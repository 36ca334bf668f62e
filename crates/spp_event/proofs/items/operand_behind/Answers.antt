use Rattle.std.proofs.Common.{arith}
use Rattle.spp_event.proofs.ItemNumbers.{behind_more}
use Rattle.spp_event.proofs.items.operand_behind.Goals as goal

pub loop-k-preserved : goal.loop-k-preserved
loop-k-preserved c = behind_more c.args.front c.args.bytes.now c.loop-k.k c.loop-k.n c.from-digit.result c.loop-k.invariant (omega arith) (omega arith) (omega arith)
