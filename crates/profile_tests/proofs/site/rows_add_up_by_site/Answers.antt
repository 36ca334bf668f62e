use Rattle.std.proofs.Common.{arith, refl}
use Rattle.spp_site.specs.Table.{row_at}
use Rattle.spp_site.proofs.Small.{small_empty, small_fits, small_thirty}
use Rattle.profile_tests.proofs.site.rows_add_up_by_site.Goals as goal

pub add-requires-clause-fits : goal.add-requires-clause-fits
add-requires-clause-fits g c = small_fits 0 30 (row_at c.new-table.result 0) _ (omega arith) (small_empty c.new-table.result c.new-table.ensures 0) (small_thirty _ refl)
