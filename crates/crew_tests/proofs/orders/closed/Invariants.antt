use Rattle.std.proofs.Common.{◌≡◌}
use Rattle.crew_tests.proofs.orders.closed.Given as goal

-- the book is that of the job
abbrev pub invariant-loop-number : goal.invariant-loop-number
invariant-loop-number g l = l.book.name ≡ g.J.Job.name l.job
