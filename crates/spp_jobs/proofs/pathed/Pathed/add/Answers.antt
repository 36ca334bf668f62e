use Rattle.std.proofs.Common.{None, Some}
use Rattle.spp_jobs.proofs.pathed.Pathed.add.Goals as goal

pub merge_both-requires-clause-root_fits : goal.merge_both-requires-clause-root_fits
merge_both-requires-clause-root_fits c = c.requires.path None

pub merge_both-requires-clause-sites_fit : goal.merge_both-requires-clause-sites_fit
merge_both-requires-clause-sites_fit c = λ s. c.requires.path (Some s)

pub merge_both-requires-clause-second_root_fits : goal.merge_both-requires-clause-second_root_fits
merge_both-requires-clause-second_root_fits c = c.requires.burdened None

pub merge_both-requires-clause-second_sites_fit : goal.merge_both-requires-clause-second_sites_fit
merge_both-requires-clause-second_sites_fit c = λ s. c.requires.burdened (Some s)
