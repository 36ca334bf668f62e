use Rattle.std.proofs.Common.{◌≡◌, map, take}
use Rattle.spp_command_line.proofs.reading.texts.Given as goal

abbrev pub invariant-loop-word : goal.invariant-loop-word
invariant-loop-word g l = map (λ w. w.now) l.texts.items ≡ map g.S.AsStr.text (take l.word-index l.fn.words)
