use Rattle.std.proofs.Common.{◌≡◌, length}
use Rattle.spp_shell.proofs.Advised.{FoundTo}
use Rattle.spp_shell.proofs.finding.find_alone.Given as goal

abbrev pub invariant-loop-i : goal.invariant-loop-i
invariant-loop-i l = (length l.figures ≡ length l.fn.figures) × FoundTo l.trace l.burdens l.changes l.from l.figures l.i
