use Rattle.std.proofs.Common.{◌≡◌, ◌++◌, take}
use Rattle.std.specs.List.{flat_map}
use Rattle.spp_event.specs.Migrating.{AreGoodTo, item_in}
use Rattle.spp_event.specs.Recordings.{records_of}
use Rattle.spp_event.proofs.record_migration.push_events.Given as goal

-- the events so far were good, and their items were added
abbrev pub invariant-loop-at : goal.invariant-loop-at
invariant-loop-at g l = record {
  next : g.B.BytesReader.stands l.reader l.bytes l.at;
  good : AreGoodTo (records_of g.B.BytesReader.version l.sites l.funcs l.count l.bytes) l.at;
  added : l.written.items ≡ l.fn.written.items ++ flat_map item_in (take l.at (records_of g.B.BytesReader.version l.sites l.funcs l.count l.bytes));
}
