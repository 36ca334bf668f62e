use Rattle.spp_event.proofs.ItemNumbers.{Behind}
use Rattle.spp_event.proofs.items.operand_behind.Given as goal

abbrev pub invariant-loop-k : goal.invariant-loop-k
invariant-loop-k l = Behind l.front l.bytes l.k l.n
