use Rattle.std.proofs.Common.{arith, refl, ap}
use Rattle.spp_site.specs.Table.{row_at}
use Rattle.spp_site.proofs.Small.{small_empty, small_added, small_kept, small_fits, small_thirty}
use Rattle.profile_tests.proofs.site.tables_merge_and_are_copied.Goals as goal

pub add-requires-clause-fits : goal.add-requires-clause-fits
add-requires-clause-fits g c =
    let start = small_kept 0 c.new-left.result c.add_root.new.self (small_empty c.new-left.result c.new-left.ensures) (ap (λ t. t.sites) c.add_root.ensures) in
    small_fits 0 30 (row_at c.add_root.new.self 7) _ (omega arith) (start 7) (small_thirty _ refl)

pub add-requires-2-clause-fits : goal.add-requires-2-clause-fits
add-requires-2-clause-fits g c =
    let start = small_kept 0 c.new-left.result c.add_root.new.self (small_empty c.new-left.result c.new-left.ensures) (ap (λ t. t.sites) c.add_root.ensures) in
    let one = small_added 0 30 c.add_root.new.self c.add.new.self 7 _ start (small_thirty _ refl) c.in_ok-add.ensures.added in
    small_fits 30 30 (row_at c.add.new.self 2) _ (omega arith) (one 2) (small_thirty _ refl)

pub add-requires-3-clause-fits : goal.add-requires-3-clause-fits
add-requires-3-clause-fits g c =
    let start = small_kept 0 c.new-right.result c.add_root-2.new.self (small_empty c.new-right.result c.new-right.ensures) (ap (λ t. t.sites) c.add_root-2.ensures) in
    small_fits 0 30 (row_at c.add_root-2.new.self 65535) _ (omega arith) (start 65535) (small_thirty _ refl)

pub add-requires-4-clause-fits : goal.add-requires-4-clause-fits
add-requires-4-clause-fits g c =
    let start = small_kept 0 c.new-right.result c.add_root-2.new.self (small_empty c.new-right.result c.new-right.ensures) (ap (λ t. t.sites) c.add_root-2.ensures) in
    let one = small_added 0 30 c.add_root-2.new.self c.add-3.new.self 65535 _ start (small_thirty _ refl) c.in_ok-add-3.ensures.added in
    small_fits 30 30 (row_at c.add-3.new.self 2) _ (omega arith) (one 2) (small_thirty _ refl)

pub merged-requires-clause-sites_fit : goal.merged-requires-clause-sites_fit
merged-requires-clause-sites_fit g c =
    let left = small_kept 0 c.new-left.result c.add_root.new.self (small_empty c.new-left.result c.new-left.ensures) (ap (λ t. t.sites) c.add_root.ensures) in
    let left_one = small_added 0 30 c.add_root.new.self c.add.new.self 7 _ left (small_thirty _ refl) c.in_ok-add.ensures.added in
    let left_two = small_added 30 30 c.add.new.self c.add-2.new.self 2 _ left_one (small_thirty _ refl) c.in_ok-add-2.ensures.added in
    let right = small_kept 0 c.new-right.result c.add_root-2.new.self (small_empty c.new-right.result c.new-right.ensures) (ap (λ t. t.sites) c.add_root-2.ensures) in
    let right_one = small_added 0 30 c.add_root-2.new.self c.add-3.new.self 65535 _ right (small_thirty _ refl) c.in_ok-add-3.ensures.added in
    let right_two = small_added 30 30 c.add-3.new.self c.add-4.new.self 2 _ right_one (small_thirty _ refl) c.in_ok-add-4.ensures.added in
    λ s. small_fits 60 60 (row_at c.add-2.new.self s) (row_at c.add-4.new.self s) (omega arith) (left_two s) (right_two s)
