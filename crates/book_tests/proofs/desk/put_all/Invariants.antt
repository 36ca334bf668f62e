use Rattle.std.proofs.Common.{◌≡◌}
use Rattle.book_tests.proofs.desk.put_all.Given as goal

-- the pass is as it was but for its share
abbrev pub invariant-loop-piece : goal.invariant-loop-piece
invariant-loop-piece g l = l.pass ≡ record l.fn.pass { share = l.pass.share }
