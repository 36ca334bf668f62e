use Rattle.std.proofs.Common.{◌≡◌, ◌++◌, take}
use Rattle.spp_jobs.proofs.survey.push_copies.Given as goal

abbrev pub invariant-loop-summary : goal.invariant-loop-summary
invariant-loop-summary l = l.each.items ≡ l.fn.each.items ++ take l.summary-index l.summaries
