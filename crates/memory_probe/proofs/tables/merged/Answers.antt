use Rattle.memory_probe.proofs.Small.{ten_fits, with_ten, same_small, both_fit}
use Rattle.memory_probe.proofs.tables.merged.Goals as goal

pub add-requires-clause-fits : goal.add-requires-clause-fits
add-requires-clause-fits c = ten_fits c.new-left.result 40000 c.new-left.ensures

pub merged-requires-clause-sites_fit : goal.merged-requires-clause-sites_fit
merged-requires-clause-sites_fit c =
    let left = with_ten c.new-left.result c.add.new.self 40000 c.new-left.ensures c.in_ok-add.ensures.added in
    both_fit c.add.new.self c.in_ok-right.right left (same_small c.add.new.self c.in_ok-right.right c.in_ok-right.ensures.same left)
