use Rattle.spp_book.specs.Worlds.{MayRun}
use Rattle.book_tests.specs.Lists.{list_parts, list_range, IsRange}
use Rattle.book_tests.proofs.world.steps_of.Given as goal

abbrev pub invariant-loop-next : goal.invariant-loop-next
invariant-loop-next l =
    let numbers = l.job.numbers.now in
    MayRun (list_parts numbers) (list_range numbers) (IsRange numbers) l.steps.items
