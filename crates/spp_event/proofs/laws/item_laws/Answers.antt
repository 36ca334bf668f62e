use Rattle.spp_event.proofs.ItemBodies.{items_are_parted}
use Rattle.spp_event.proofs.ItemsRead.{one_item_each, item_is_read, read_is_item}
use Rattle.spp_event.proofs.ItemLengths.{items_are_short, items_of_traces_are_shorter}
use Rattle.spp_event.proofs.laws.item_laws.Goals as goal

pub returns-clause-one_item : goal.returns-clause-one_item
returns-clause-one_item c = one_item_each

pub returns-clause-spelled : goal.returns-clause-spelled
returns-clause-spelled c = item_is_read

pub returns-clause-read : goal.returns-clause-read
returns-clause-read c = read_is_item

pub returns-clause-parted : goal.returns-clause-parted
returns-clause-parted c = items_are_parted

pub returns-clause-short : goal.returns-clause-short
returns-clause-short c = items_are_short

pub returns-clause-shorter : goal.returns-clause-shorter
returns-clause-shorter c = items_of_traces_are_shorter
