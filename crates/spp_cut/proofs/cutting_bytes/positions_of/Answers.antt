use Rattle.std.proofs.Common.{◌≡◌, ◌≤◌, ◌+◌, length, get_or, subst, arith}
use Rattle.spp_event.specs.declared.version.Version.{Version}
use Rattle.spp_event.specs.Items.{items}
use Rattle.spp_event.specs.Recordings.{room, filled}
use Rattle.spp_cut.specs.Cuts.{events_before}
use Rattle.spp_cut.proofs.Orders.{in_turn, next_within, few_before, mapped_more}
use Rattle.spp_cut.proofs.cutting_bytes.positions_of.Goals as goal

pub items_between-before-requires-clause-within : goal.items_between-before-requires-clause-within
items_between-before-requires-clause-within c =
    next_within c.loop-offset.from (length c.args.trace.now.body) c.loop-offset.offset-index c.args.offsets.now c.loop-offset-test.true c.loop-offset.invariant.in_order

pub overflow_add-before : goal.overflow_add-before
overflow_add-before c =
    let t = c.args.trace.now in
    let few : length (items t.body) ≤ length t.records = subst (λ (v : Version). filled v t.body ≤ room v (length t.records)) c.requires.version c.keeps_limits.ensures.room in
    let most = few_before t (get_or c.args.offsets.now c.loop-offset.offset-index 0) in
    omega (arith, few, most, c.keeps_limits.ensures.limits.events, c.items_between-before.ensures, c.loop-offset.invariant.before)

pub loop-offset-preserved : goal.loop-offset-preserved
loop-offset-preserved c =
    let t = c.args.trace.now in
    let n = c.loop-offset.offset-index in
    let offsets = c.args.offsets.now in
    let inv = c.loop-offset.invariant in
    let turn = in_turn c.loop-offset.from (length t.body) n offsets c.loop-offset-test.true inv.in_order in
    let before : c.loop-offset.before + c.items_between-before.result ≡ events_before t (get_or offsets n 0) = omega (arith, c.items_between-before.ensures, inv.before) in
    record {
      before = before;
      in_order = turn.1;
      are = mapped_more (events_before t) n (c.loop-offset.before + c.items_between-before.result) offsets c.loop-offset.positions.items c.push.new.self.items c.loop-offset-test.true inv.are before c.in_ok-push.ensures.items;
    }
