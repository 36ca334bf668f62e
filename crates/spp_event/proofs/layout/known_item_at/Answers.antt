use Rattle.std.proofs.Common.{◌∙◌}
use Rattle.spp_event.specs.Recordings.{item}
use Rattle.spp_event.proofs.ItemPlaces.{item_is, next_place}
use Rattle.spp_event.proofs.ItemsRead.{known_item}
use Rattle.spp_event.proofs.layout.known_item_at.Goals as goal

pub returns-in-Some-clause-said : goal.returns-in-Some-clause-said
returns-in-Some-clause-said c i sites funcs q ok =
    known_item sites funcs (item c.args.body.now i) c.in-Some.found.0 c.in-Some.ensures.is.1 (item_is c.args.body.now i c.args.place c.in-Some.found.1 q c.in-Some.ensures.between ∙ c.in-Some.ensures.is.0) ok

pub returns-in-Some-clause-behind : goal.returns-in-Some-clause-behind
returns-in-Some-clause-behind c i q = next_place c.args.body.now i c.args.place c.in-Some.found.1 q c.in-Some.ensures.between
