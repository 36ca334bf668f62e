use Rattle.std.proofs.Common.{◌≡◌, ◌++◌, take}
use Rattle.std.specs.List.{flat_map}
use Rattle.spp_event.specs.Header.{header_spelling}
use Rattle.spp_event.specs.Migrating.{AreGoodTo, compact, item_in}
use Rattle.spp_event.specs.Readers.{Stands}
use Rattle.spp_event.proofs.migrating.migrate.Given as goal

-- the events so far were good, and their items stand behind the header
abbrev pub invariant-loop-at : goal.invariant-loop-at
invariant-loop-at l = Stands l.events l.trace l.at × AreGoodTo l.trace.records l.at
    × (l.bytes.items ≡ header_spelling (compact l.trace) ++ flat_map item_in (take l.at l.trace.records))
