use Rattle.std.proofs.Common.{◌≡◌}
use Rattle.book_tests.proofs.book.are_accepted.Given as goal

abbrev pub invariant-loop-number : goal.invariant-loop-number
invariant-loop-number l = l.book.name ≡ l.fn.book.name
