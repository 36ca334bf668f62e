use Rattle.std.proofs.Common.{◌≤◌, length, take, subst, arith}
use Rattle.spp_event.specs.declared.version.Version.{Version}
use Rattle.spp_event.specs.Items.{items}
use Rattle.spp_event.specs.Recordings.{Recording, room, filled}
use Rattle.spp_event.proofs.ItemCounts.{fewer_in_front}
use Rattle.spp_event.proofs.traces.Trace.items_between.Goals as goal

pub overflow_cast-result : goal.overflow_cast-result
overflow_cast-result c =
    let t = c.args.self.now in
    let few : length (items t.body) ≤ length t.records = subst (λ (v : Version). filled v t.body ≤ room v (length t.records)) c.requires.version c.keeps_limits.ensures.room in
    let most = c.keeps_limits.ensures.limits.events in
    let same = subst (λ (r : Recording). length (items (take c.args.to c.self.inside.body.now)) ≤ length (items r.body)) c.self.view_is (fewer_in_front c.self.inside.body.now c.args.to) in
    omega (arith, few, most, same, c.count_begun.ensures)
