use Rattle.std.proofs.Common.{sym, subst}
use Rattle.spp_book.specs.Worlds.{MayRun}
use Rattle.book_tests.specs.Lists.{list_parts, list_range, IsRange}
use Rattle.book_tests.proofs.Runs.{may_push}
use Rattle.book_tests.proofs.world.steps_of.Goals as goal

pub loop-next-preserved : goal.loop-next-preserved
loop-next-preserved c =
    let numbers = c.args.job.now.numbers.now in
    subst (λ xs. MayRun (list_parts numbers) (list_range numbers) (IsRange numbers) xs) (sym c.in_ok-push.ensures.items)
    (may_push (list_parts numbers) (list_range numbers) (IsRange numbers) c.loop-next.steps.items c.in_ok-step.step c.loop-next.invariant c.in_ok-step.ensures)
