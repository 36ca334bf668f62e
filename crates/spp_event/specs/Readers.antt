-- Where a reader of the events of a trace stands.
use Rattle.std.specs.Prelude.{◌≡◌, ℕ}
use Rattle.spp_event.specs.declared.version.Version.TheVariants.{One, Two}
use Rattle.spp_event.specs.declared.readers.Events.{Events}
use Rattle.spp_event.specs.declared.readers.Events.TheVariants.{Records, Items}
use Rattle.spp_event.specs.Recordings.{Recording}
use Rattle.spp_event.specs.Places.{IsItemPlace}

-- it stands at event i of the trace: a record of version 1 is found by its number alone, an item of version 2 by its place
abbrev pub Stands : Events → Recording → ℕ → Type 0
Stands (Records r) t i = t.version ≡ One
Stands (Items r) t i = (t.version ≡ Two) × IsItemPlace t.body i r.place
