use Rattle.std.proofs.Common.{◌++◌, ◌∙◌, ap₂}
use Rattle.book_tests.proofs.Ranges.{ranges_join}
use Rattle.book_tests.proofs.list_job.ListJobJob.join.Goals as goal

pub returns-in-Ok-clause-joined : goal.returns-in-Ok-clause-joined
returns-in-Ok-clause-joined c name i j k h l most left right =
    c.in-Ok.ensures.items ∙ (ap₂ (λ xs ys. xs ++ ys) left (c.as_slice.ensures.value ∙ right) ∙ ranges_join name i j k h l)
