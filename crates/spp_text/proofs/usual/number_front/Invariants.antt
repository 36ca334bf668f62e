use Rattle.spp_text.proofs.UsualNumbers.{ReadSoFar}
use Rattle.spp_text.proofs.usual.number_front.Given as goal

abbrev pub invariant-loop-i : goal.invariant-loop-i
invariant-loop-i l = ReadSoFar l.text l.i l.n
