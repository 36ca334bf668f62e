-- The texts of faults, as a line of fault tells them.
use Rattle.std.specs.Prelude.{ℕ, List, ◌++◌, codes, decimal}
use Rattle.spp_event.specs.declared.records.EventFault.{EventFault}
use Rattle.spp_event.specs.declared.records.EventFault.TheVariants as event
use Rattle.spp_event.specs.declared.header.HeaderFault.{HeaderFault}
use Rattle.spp_event.specs.declared.header.HeaderFault.TheVariants as header
use Rattle.spp_event.specs.declared.migrating.MigrateFault.{MigrateFault}
use Rattle.spp_event.specs.declared.migrating.MigrateFault.TheVariants as migrate

abbrev pub event_fault_text : EventFault → List ℕ
event_fault_text event.Truncated = codes "truncated"
event_fault_text event.Tag = codes "tag"
event_fault_text event.Padding = codes "padding"
event_fault_text event.Operand = codes "operand"
event_fault_text event.Site = codes "site"
event_fault_text event.Func = codes "function"

abbrev pub header_fault_text : HeaderFault → List ℕ
header_fault_text header.Short = codes "short"
header_fault_text header.Magic = codes "magic"
header_fault_text header.Limits = codes "limits"
header_fault_text (header.Name number) = codes "name " ++ decimal number
header_fault_text (header.SameName number) = codes "same name " ++ decimal number
header_fault_text header.RootFunc = codes "root function"
header_fault_text header.Trailing = codes "trailing"
header_fault_text header.Memory = codes "out of memory"

abbrev pub migrate_fault_text : MigrateFault → List ℕ
migrate_fault_text (migrate.Bad at why) = codes "bad event " ++ decimal at ++ codes ": " ++ event_fault_text why
migrate_fault_text migrate.Memory = codes "out of memory"
