use Rattle.spp_site.proofs.Stored.{same_tables}
use Rattle.spp_site.proofs.laws.table_laws.Goals as goal

pub returns : goal.returns
returns c = same_tables
