use Rattle.spp_event.proofs.ItemNumbers.{Reading}
use Rattle.spp_event.proofs.items.operand_of.Given as goal

abbrev pub invariant-loop-k : goal.invariant-loop-k
invariant-loop-k l = Reading l.bytes l.k l.n
