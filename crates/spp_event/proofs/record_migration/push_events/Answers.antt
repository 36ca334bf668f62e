use Rattle.std.proofs.Common.{◌≡◌, ◌++◌, List, Ok, sym, ap, ◌∙◌, arith}
use Rattle.std.specs.List.{flat_map}
use Rattle.std.proofs.lemmas.List.{take_all}
use Rattle.spp_event.specs.Migrating.{item_in}
use Rattle.spp_event.specs.Recordings.{Record, record_at, records_of}
use Rattle.spp_event.proofs.RecordPlaces.{length-records_of, record_at-records_of}
use Rattle.spp_event.proofs.WrittenEvents.{good_next, added_next}
use Rattle.spp_event.proofs.record_migration.push_events.Goals as goal

pub returns-in-Err-clause-fault : goal.returns-in-Err-clause-fault
returns-in-Err-clause-fault g c =
    let v = g.B.BytesReader.version in
    let a = c.args in
    let at = c.loop-at.at in
    let n = length-records_of v a.sites a.funcs a.count a.bytes.now in
    (omega arith, record_at-records_of v a.sites a.funcs a.count a.bytes.now at (omega arith) ∙ sym c.in-Err.ensures.said, c.loop-at.invariant.good)

pub loop-at-preserved : goal.loop-at-preserved
loop-at-preserved g c =
    let v = g.B.BytesReader.version in
    let a = c.args in
    let at = c.loop-at.at in
    let rs = records_of v a.sites a.funcs a.count a.bytes.now in
    let n = length-records_of v a.sites a.funcs a.count a.bytes.now in
    let is : record_at rs at ≡ Ok c.in-Ok.event = record_at-records_of v a.sites a.funcs a.count a.bytes.now at (omega arith) ∙ sym c.in-Ok.ensures.said in
    record {
      next = c.read_in.ensures.next;
      good = good_next rs at c.in-Ok.event is c.loop-at.invariant.good;
      added = added_next rs at c.in-Ok.event a.written.items c.loop-at.written.items c.push_item.new.bytes.items (omega arith) is c.loop-at.invariant.added c.in_ok-push_item-in-Ok.ensures;
    }

pub returns-clause-added : goal.returns-clause-added
returns-clause-added g c =
    let v = g.B.BytesReader.version in
    let a = c.args in
    let rs = records_of v a.sites a.funcs a.count a.bytes.now in
    let n = length-records_of v a.sites a.funcs a.count a.bytes.now in
    c.loop-at.invariant.added ∙ ap (λ (l : List Record). a.written.items ++ flat_map item_in l) (take_all c.loop-at.at rs (omega arith))
