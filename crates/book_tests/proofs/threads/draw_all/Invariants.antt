use Rattle.std.proofs.Common.{◌≡◌}
use Rattle.spp_book.specs.Desks.{IsOpen}
use Rattle.book_tests.proofs.threads.draw_all.Given as goal

-- the pass is as it was but for the numbers that were drawn, and not finished
abbrev pub invariant-loop-turn : goal.invariant-loop-turn
invariant-loop-turn g l = (l.pass ≡ record l.fn.pass { drawn = l.pass.drawn }) × IsOpen l.pass
