use Rattle.std.proofs.Common.{sym, ◌∙◌}
use Rattle.memory_probe.proofs.Small.{ten_fits, with_ten, same_small, both_fit, when_refused}
use Rattle.memory_probe.proofs.tables.absorbed.Goals as goal

pub add-requires-clause-fits : goal.add-requires-clause-fits
add-requires-clause-fits c = ten_fits c.new-table.result 40000 c.new-table.ensures

pub add-requires-2-clause-fits : goal.add-requires-2-clause-fits
add-requires-2-clause-fits c = ten_fits c.new-more.result 50000 c.new-more.ensures

pub absorb-requires-clause-sites_fit : goal.absorb-requires-clause-sites_fit
absorb-requires-clause-sites_fit c =
    let table = with_ten c.new-table.result c.add.new.self 40000 c.new-table.ensures c.in_ok-add.ensures.added in
    let more = with_ten c.new-more.result c.add-2.new.self 50000 c.new-more.ensures c.in_ok-add-2.ensures.added in
    both_fit c.add.new.self c.into_share-share.result table (same_small c.add-2.new.self c.into_share-share.result c.into_share-share.ensures more)

pub absorb-requires-else-not-is_unchanged-clause-sites_fit :
    goal.absorb-requires-else-not-is_unchanged-clause-sites_fit
absorb-requires-else-not-is_unchanged-clause-sites_fit c =
    let table = with_ten c.new-table.result c.add.new.self 40000 c.new-table.ensures c.in_ok-add.ensures.added in
    let more = with_ten c.new-more.result c.add-2.new.self 50000 c.new-more.ensures c.in_ok-add-2.ensures.added in
    let stays = when_refused c.absorb.result (sym c.is_err-was_refused.ensures.value ∙ c.if-was_refused.true) c.absorb.ensures.stays in
    both_fit c.absorb.new.self c.into_share-share.result (same_small c.add.new.self c.absorb.new.self stays table)
    (same_small c.add-2.new.self c.into_share-share.result c.into_share-share.ensures more)
