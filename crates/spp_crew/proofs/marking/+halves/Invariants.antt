use Rattle.std.proofs.Common.{◌-◌, ◌+◌, ◌*◌}
use Rattle.spp_crew.proofs.marking.+halves.Given as goal

-- how many parts are left to be marked, with a step for each call between
abbrev pub decreases-mark_range : goal.decreases-mark_range
decreases-mark_range g l = 4 * (l.end - l.from)

abbrev pub decreases-mark_halves : goal.decreases-mark_halves
decreases-mark_halves g l = 4 * (l.end - l.from) - 1

abbrev pub decreases-mark_halves-on_new_thread : goal.decreases-mark_halves-on_new_thread
decreases-mark_halves-on_new_thread g l = 4 * (l.end - l.middle) + 1

abbrev pub decreases-mark_halves-here : goal.decreases-mark_halves-here
decreases-mark_halves-here g l = 4 * (l.middle - l.from) + 1
