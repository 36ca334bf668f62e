use Rattle.std.proofs.Common.{List, ◌++◌, None, Some, refl, ap₂, ◌∙◌}
use Rattle.spp_dag.specs.declared.choices.Choices.{Choices}
use Rattle.spp_jobs.proofs.Tables.{neighbours_fit, neighbours_tabled, tabled_moved}
use Rattle.spp_jobs.proofs.tabled.TableJobJob.join.Goals as goal

pub returns-then-is_err-clause-refused : goal.returns-then-is_err-clause-refused
returns-then-is_err-clause-refused c = (
  tabled_moved c.args.left (record { share = c.args.left.share; choices = c.make_room.new.left }) refl c.make_room.ensures.left,
  tabled_moved c.args.right (record { share = c.args.right.share; choices = c.make_room.new.right }) refl c.make_room.ensures.right,
)

pub summed-requires-clause-root_fits : goal.summed-requires-clause-root_fits
summed-requires-clause-root_fits c = neighbours_fit c.args.left c.args.right c.requires None

pub summed-requires-clause-sites_fit : goal.summed-requires-clause-sites_fit
summed-requires-clause-sites_fit c = λ s. neighbours_fit c.args.left c.args.right c.requires (Some s)

pub returns-in-Ok-clause-joined : goal.returns-in-Ok-clause-joined
returns-in-Ok-clause-joined c =
    neighbours_tabled c.args.left c.args.right (record { share = c.in-Ok.share; choices = c.chained.result }) c.in-Ok.ensures.sums
    (c.chained.ensures ∙ ap₂ (λ (xs ys : List Choices). xs ++ ys) c.make_room.ensures.left c.make_room.ensures.right)

pub returns-in-Err-clause-refused : goal.returns-in-Err-clause-refused
returns-in-Err-clause-refused c = (
  tabled_moved c.args.left (record { share = c.in-Err.refused.left; choices = c.make_room.new.left }) c.in-Err.ensures.back.0 c.make_room.ensures.left,
  tabled_moved c.args.right (record { share = c.in-Err.refused.right; choices = c.make_room.new.right }) c.in-Err.ensures.back.1 c.make_room.ensures.right,
)
