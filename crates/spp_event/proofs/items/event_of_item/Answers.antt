use Rattle.std.proofs.Common.{◌≡◌, Some, slice_get, refl, sym, ap, ◌∙◌, arith}
use Rattle.std.specs.Option.{option_copied}
use Rattle.spp_event.proofs.ItemsRead.{spelled_item, no_item, untagged, below_tags, above_tags, among_tags, unspelled_item}
use Rattle.spp_event.proofs.items.event_of_item.Goals as goal
use Rattle.spp_event.proofs.items.event_of_item.Goals.{then-lead-lt128-via-then-lead-lt128, then-lead-lt128-via-else-lead-lt128+then-lead-gt132}

pub returns-in_default-clause-said : goal.returns-in_default-clause-said
returns-in_default-clause-said c = sym (no_item c.args.sites c.args.funcs c.args.item.now (sym c.first.ensures.value ∙ ap option_copied c.in_default.is))

pub returns-then-lead-lt128-clause-said : goal.returns-then-lead-lt128-clause-said
returns-then-lead-lt128-clause-said c =
    let first : slice_get c.args.item.now 0 ≡ Some c.in-Some.lead.now = sym c.first.ensures.value ∙ ap option_copied c.in-Some.is in
    sym (untagged c.args.sites c.args.funcs c.args.item.now c.in-Some.lead.now first (elim c.then-lead-lt128.branch [
      | then-lead-lt128-via-then-lead-lt128 w ↦ below_tags c.in-Some.lead.now (omega arith)
      | then-lead-lt128-via-else-lead-lt128+then-lead-gt132 w ↦ above_tags c.in-Some.lead.now (omega arith)
    ]))

pub returns-in-Some-spelled-clause-said : goal.returns-in-Some-spelled-clause-said
returns-in-Some-spelled-clause-said c = c.within.ensures.said ∙ sym (spelled_item c.args.sites c.args.funcs c.args.item.now c.in-Some-spelled.event c.in-Some-spelled.ensures.some.1 c.in-Some-spelled.ensures.some.0)

pub returns-in-None-clause-said : goal.returns-in-None-clause-said
returns-in-None-clause-said c =
    let first : slice_get c.args.item.now 0 ≡ Some c.in-Some.lead.now = sym c.first.ensures.value ∙ ap option_copied c.in-Some.is in
    sym (unspelled_item c.args.sites c.args.funcs c.args.item.now c.in-Some.lead.now first (among_tags c.in-Some.lead.now (omega arith) (omega arith)) (c.in-None.ensures.none refl))
