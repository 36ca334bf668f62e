use Rattle.std.proofs.Common.{◌≡◌, drop}
use Rattle.spp_text.specs.Reading.{value_from}
use Rattle.spp_text.proofs.words.value_of.Given as goal

abbrev pub invariant-loop-b : goal.invariant-loop-b
invariant-loop-b l = value_from l.n (drop l.b-index l.word) ≡ value_from 0 l.word
