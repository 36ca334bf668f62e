-- A trace that is written once more, in version 2.
use Rattle.std.specs.Prelude.{◌≡◌, ℕ, ◌<◌, List, [], length, Result, Ok, Err, IsOk}
use Rattle.std.specs.List.{flat_map}
use Rattle.spp_event.specs.declared.records.Event.{Event}
use Rattle.spp_event.specs.declared.records.EventFault.{EventFault}
use Rattle.spp_event.specs.declared.migrating.MigrateFault.{MigrateFault}
use Rattle.spp_event.specs.declared.migrating.MigrateFault.TheVariants.{Bad, Memory}
use Rattle.spp_event.specs.declared.version.Version.TheVariants.{Two}
use Rattle.spp_event.specs.Items.{item_of}
use Rattle.spp_event.specs.Recordings.{Recording, record_at}

-- the item of a good record
abbrev pub item_in : Result Event EventFault → List ℕ
item_in (Ok e) = item_of e
item_in (Err fault) = []

-- the same names, root function and records, in version 2
abbrev pub compact : Recording → Recording
compact t = record t { version = Two; body = flat_map item_in t.records }

abbrev pub AreGoodTo : List (Result Event EventFault) → ℕ → Type 0
AreGoodTo records n = (i : ℕ) → i < n → IsOk (record_at records i)

-- the least bad record, or that an allocation failed
abbrev pub IsMigrateFault : List (Result Event EventFault) → MigrateFault → Type 0
IsMigrateFault records (Bad at why) = (at < length records) × (record_at records at ≡ Err why) × AreGoodTo records at
IsMigrateFault records Memory = Unit {0}
