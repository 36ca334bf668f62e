use Rattle.std.proofs.Common.{arith, refl, ap}
use Rattle.spp_site.specs.Table.{row_at}
use Rattle.spp_site.proofs.Small.{small_empty, small_kept, small_fits, small_thirty}
use Rattle.program_tests.proofs.report.table_of.Goals as goal

pub add-requires-clause-fits : goal.add-requires-clause-fits
add-requires-clause-fits c =
    let start = small_kept 0 c.new-table.result c.add_root.new.self (small_empty c.new-table.result c.new-table.ensures) (ap (λ t. t.sites) c.add_root.ensures) in
    small_fits 0 30 (row_at c.add_root.new.self 0) _ (omega arith) (start 0) (small_thirty _ refl)
