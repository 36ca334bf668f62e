use Rattle.std.proofs.Common.{arith, refl}
use Rattle.spp_site.specs.Table.{row_at}
use Rattle.spp_site.proofs.Small.{small_empty, small_added, small_fits, small_thirty}
use Rattle.profile_tests.proofs.site.a_frame_that_closes_adds_to_its_site.Goals as goal

pub close-requires-clause-fits : goal.close-requires-clause-fits
close-requires-clause-fits g c = small_fits 0 30 (row_at c.new-table.result 2) _ (omega arith) (small_empty c.new-table.result c.new-table.ensures 2) (small_thirty _ refl)

pub close-requires-2-clause-fits : goal.close-requires-2-clause-fits
close-requires-2-clause-fits g c =
    let one = small_added 0 30 c.new-table.result c.close.new.self 2 _ (small_empty c.new-table.result c.new-table.ensures) (small_thirty _ refl) c.in_ok-close.ensures.added in
    small_fits 30 30 (row_at c.close.new.self 2) _ (omega arith) (one 2) (small_thirty _ refl)
