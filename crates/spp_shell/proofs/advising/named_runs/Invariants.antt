use Rattle.std.proofs.Common.{◌≡◌, map, take}
use Rattle.spp_shell.specs.Advise.{named_change, told_change}
use Rattle.spp_shell.proofs.advising.named_runs.Given as goal

abbrev pub invariant-loop-i : goal.invariant-loop-i
invariant-loop-i l =
    (map told_change l.runs.items ≡ map (named_change l.trace) (take l.i l.changes)) × (map (λ r. r.figures) l.runs.items ≡ take l.i l.figures)
