use Rattle.std.proofs.Common.{None, Some}
use Rattle.spp_jobs.specs.Tables.{IsTabled}
use Rattle.spp_jobs.proofs.Tables.{tabled_fits}
use Rattle.crew_tests.proofs.orders.is_tabled.Goals as goal

pub from_share-requires-clause-root_fits : goal.from_share-requires-clause-root_fits
from_share-requires-clause-root_fits c = let v : IsTabled c.requires.0 0 c.requires.1.0 c.args.told.now = c.requires.1.1 in tabled_fits v.0 0 c.requires.1.0 c.args.told.now v.2 None

pub from_share-requires-clause-sites_fit : goal.from_share-requires-clause-sites_fit
from_share-requires-clause-sites_fit c = λ s. let v : IsTabled c.requires.0 0 c.requires.1.0 c.args.told.now = c.requires.1.1 in tabled_fits v.0 0 c.requires.1.0 c.args.told.now v.2 (Some s)
