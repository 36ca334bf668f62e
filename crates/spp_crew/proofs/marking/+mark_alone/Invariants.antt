use Rattle.std.proofs.Common.{◌-◌}
use Rattle.spp_crew.proofs.marking.+mark_alone.Given as goal

-- how many parts are left to be marked
abbrev pub decreases-mark_alone : goal.decreases-mark_alone
decreases-mark_alone g l = l.end - l.from
