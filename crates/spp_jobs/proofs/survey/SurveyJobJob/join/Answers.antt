use Rattle.std.proofs.Common.{◌++◌, ap₂, ◌∙◌}
use Rattle.spp_jobs.proofs.Surveys.{neighbours_burdens, neighbours_next, neighbours_joined}
use Rattle.spp_jobs.proofs.survey.SurveyJobJob.join.Goals as goal

pub join-requires-clause-burdens : goal.join-requires-clause-burdens
join-requires-clause-burdens c = neighbours_burdens c.args.left c.args.right c.requires

pub join-requires-clause-neighbours : goal.join-requires-clause-neighbours
join-requires-clause-neighbours c = neighbours_next c.args.left c.args.right c.requires

pub returns-in-Ok-clause-joined : goal.returns-in-Ok-clause-joined
returns-in-Ok-clause-joined c =
    neighbours_joined c.args.left c.args.right (record { each = c.chained.result; whole = c.in-Ok.whole })
    (c.chained.ensures ∙ ap₂ (λ xs ys. xs ++ ys) c.make_room.ensures.left c.make_room.ensures.right) c.in-Ok.ensures.ok
