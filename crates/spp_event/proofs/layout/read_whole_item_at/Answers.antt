use Rattle.spp_event.proofs.ItemPlaces.{next_place}
use Rattle.spp_event.proofs.layout.read_whole_item_at.Goals as goal

pub returns-clause-behind : goal.returns-clause-behind
returns-clause-behind c i q = next_place c.args.body.now i c.args.place c.behind_item-next.result q c.behind_item-next.ensures
