use Rattle.std.proofs.Common.{None, Some}
use Rattle.spp_jobs.specs.Paths.{IsPathed}
use Rattle.spp_jobs.proofs.Paths.{path_fits, burdened_path_fits}
use Rattle.crew_tests.proofs.orders.is_pathed.Goals as goal

pub from_share-requires-clause-root_fits : goal.from_share-requires-clause-root_fits
from_share-requires-clause-root_fits c = let v : IsPathed c.requires.0 0 c.requires.1.0 c.args.told.now = c.requires.1.1 in path_fits v.0 0 c.requires.1.0 c.args.told.now v.2 None

pub from_share-requires-clause-sites_fit : goal.from_share-requires-clause-sites_fit
from_share-requires-clause-sites_fit c = λ s. let v : IsPathed c.requires.0 0 c.requires.1.0 c.args.told.now = c.requires.1.1 in path_fits v.0 0 c.requires.1.0 c.args.told.now v.2 (Some s)

pub from_share-requires-2-clause-root_fits : goal.from_share-requires-2-clause-root_fits
from_share-requires-2-clause-root_fits c = let v : IsPathed c.requires.0 0 c.requires.1.0 c.args.told.now = c.requires.1.1 in burdened_path_fits v.0 0 c.requires.1.0 c.args.told.now v.2 None

pub from_share-requires-2-clause-sites_fit : goal.from_share-requires-2-clause-sites_fit
from_share-requires-2-clause-sites_fit c = λ s. let v : IsPathed c.requires.0 0 c.requires.1.0 c.args.told.now = c.requires.1.1 in burdened_path_fits v.0 0 c.requires.1.0 c.args.told.now v.2 (Some s)
