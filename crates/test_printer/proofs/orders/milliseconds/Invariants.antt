use Rattle.std.proofs.Common.{◌≡◌}
use Rattle.test_printer.proofs.orders.milliseconds.Given as goal

-- the book is that of the job
abbrev pub invariant-loop-place : goal.invariant-loop-place
invariant-loop-place g l = l.book.name ≡ g.J.Job.name l.job
