use Rattle.std.proofs.Common.{◌≡◌, ◌++◌, take}
use Rattle.std.specs.List.{flat_map}
use Rattle.spp_event.specs.Records.{spelling}
use Rattle.spp_event.proofs.writing.push_records.Given as goal

abbrev pub invariant-loop-event : goal.invariant-loop-event
invariant-loop-event l = l.bytes.items ≡ l.fn.bytes.items ++ flat_map spelling (take l.event-index l.events)
