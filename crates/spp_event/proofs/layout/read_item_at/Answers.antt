use Rattle.std.proofs.Common.{◌+◌, ℕ, List, [], refl, sym, ap, ◌∙◌, arith}
use Rattle.spp_event.specs.Items.{read_item}
use Rattle.spp_event.specs.Recordings.{item}
use Rattle.spp_event.proofs.ItemPlaces.{item_is, item_is_none, no_items, end_place, next_place}
use Rattle.spp_event.proofs.ItemsRead.{no_item, spelled_item}
use Rattle.spp_event.proofs.layout.read_item_at.Goals as goal

pub returns-in-Some-clause-said : goal.returns-in-Some-clause-said
returns-in-Some-clause-said c i q =
    c.within.ensures.said ∙ sym (spelled_item c.args.sites c.args.funcs (item c.args.body.now i) c.in-Some.event c.in-Some.ensures.is.1 (item_is c.args.body.now i c.args.place c.in-Some.next q c.in-Some.ensures.between ∙ c.in-Some.ensures.is.0))

pub returns-in-Some-clause-behind : goal.returns-in-Some-clause-behind
returns-in-Some-clause-behind c i q = next_place c.args.body.now i c.args.place c.in-Some.next q c.in-Some.ensures.between

pub returns-then-place-body-clause-said : goal.returns-then-place-body-clause-said
returns-then-place-body-clause-said c i q =
    sym (ap (λ (x : List ℕ). read_item c.args.sites c.args.funcs x) (item_is_none c.args.body.now i c.args.place q (omega arith)) ∙ no_item c.args.sites c.args.funcs [] refl)

pub returns-then-place-body-clause-behind : goal.returns-then-place-body-clause-behind
returns-then-place-body-clause-behind c i q =
    end_place c.args.body.now (i + 1) c.args.place (omega arith) (let n = no_items c.args.body.now i c.args.place q (omega arith) in omega arith)
