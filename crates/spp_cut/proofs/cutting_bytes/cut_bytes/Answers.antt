use Rattle.std.proofs.Common.{◌≤◌, List, ℕ, length, sym, subst, ◌∙◌}
use Rattle.spp_event.specs.declared.version.Version.{Version}
use Rattle.spp_event.specs.Items.{items}
use Rattle.spp_event.specs.Recordings.{room, filled}
use Rattle.spp_cut.specs.Cuts.{AreInOrder, AreGoodTo}
use Rattle.spp_cut.proofs.Orders.{good_in_order, positions_in_order}
use Rattle.spp_cut.proofs.cutting_bytes.cut_bytes.Goals as goal

pub positions_of-requires-clause-in_order : goal.positions_of-requires-clause-in_order
positions_of-requires-clause-in_order c =
    subst (λ e. AreInOrder 0 c.args.cuts.now e) c.body_len.ensures (good_in_order c.body_len.result c.args.cuts.now c.in_ok-check_offsets.ensures.good.0)

pub parts_at-requires-clause-in_order : goal.parts_at-requires-clause-in_order
parts_at-requires-clause-in_order c =
    let t = c.args.trace.now in
    let few : length (items t.body) ≤ length t.records = subst (λ (v : Version). filled v t.body ≤ room v (length t.records)) c.requires c.keeps_limits.ensures.room in
    let in_order : AreInOrder 0 c.args.cuts.now (length t.body) = subst (λ e. AreInOrder 0 c.args.cuts.now e) c.body_len.ensures (good_in_order c.body_len.result c.args.cuts.now c.in_ok-check_offsets.ensures.good.0) in
    subst (λ (l : List ℕ). AreInOrder 0 l (length t.records)) (sym (c.deref.ensures.value ∙ c.in_ok-positions.ensures.are)) (positions_in_order t c.args.cuts.now few in_order)

pub returns-clause-good : goal.returns-clause-good
returns-clause-good c = subst (λ e. AreGoodTo e c.args.cuts.now (length c.args.cuts.now)) c.body_len.ensures c.in_ok-check_offsets.ensures.good.0
