use Rattle.std.proofs.Common.{◌≡◌, length}
use Rattle.spp_book.specs.Desks.{IsOf, IsOpen}
use Rattle.spp_crew.proofs.Draws.{AreApart}
use Rattle.spp_crew.proofs.round.work.Given as goal

-- The pass is one of the desk, for as many workers, and not finished. A number was drawn with it in each round of the loop,
-- none of them twice, and a piece of each was put.
abbrev pub invariant-loop-draw : goal.invariant-loop-draw
invariant-loop-draw g l = record {
  unfinished : IsOpen l.pass;
  workers : l.pass.workers ≡ l.fn.pass.workers;
  of : IsOf l.pass l.desk;
  apart : AreApart (g.J.Job.parts_of g.N.Naming.job) l.pass.drawn;
  count : length l.pass.drawn ≡ l._draw;
  put : l.pass.share ≡ length l.pass.drawn;
}
