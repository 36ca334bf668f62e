use Rattle.std.proofs.Common.{◌-◌}
use Rattle.spp_reference.proofs.Greatest.{Filled}
use Rattle.spp_reference.proofs.walks.greatest_weights.Given as goal

-- the last entries are filled
abbrev pub invariant-loop-after : goal.invariant-loop-after
invariant-loop-after l = Filled l.dag l.burdens l.end (l.end - l.after) l.best.items
