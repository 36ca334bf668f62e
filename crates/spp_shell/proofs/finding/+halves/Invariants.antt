use Rattle.std.proofs.Common.{◌-◌, ◌+◌, ◌*◌}
use Rattle.spp_shell.proofs.finding.+halves.Given as goal

-- how many changes are left, with a step for each call between
abbrev pub decreases-find_range : goal.decreases-find_range
decreases-find_range g l = 4 * (l.end - l.from)

abbrev pub decreases-find_halves : goal.decreases-find_halves
decreases-find_halves g l = 4 * (l.end - l.from) - 1

abbrev pub decreases-find_halves-on_new_thread : goal.decreases-find_halves-on_new_thread
decreases-find_halves-on_new_thread g l = 4 * (l.end - l.middle) + 1

abbrev pub decreases-find_halves-here : goal.decreases-find_halves-here
decreases-find_halves-here g l = 4 * (l.middle - l.from) + 1
