use Rattle.spp_site.proofs.Stored.{stored_no_zero}
use Rattle.spp_site.proofs.table.Table.copy.Goals as goal

pub returns-clause-no_zero_row : goal.returns-clause-no_zero_row
returns-clause-no_zero_row c = stored_no_zero c.table.inside.root c.in_ok-rows.rows.items
