-- The first events of a trace, written in version 2.
use Rattle.std.specs.Prelude.{◌≡◌, ℕ, List, length, ◌++◌}
use Rattle.std.specs.List.{flat_map}
use Rattle.spp_event.specs.Header.{header_spelling}
use Rattle.spp_event.specs.Migrating.{AreGoodTo, compact, item_in}
use Rattle.spp_event.specs.Recordings.{Record, Recording, AreEventsOf}

-- these records are good, and the bytes are the header of that trace in version 2 and their items
pub record AreWritten (t : Recording) (rs : List Record) (bytes : List ℕ) : Type 0 where
  pub good : AreGoodTo rs (length rs)
  pub within : AreEventsOf (length t.sites) (length t.funcs) rs
  pub is : bytes ≡ header_spelling (compact t) ++ flat_map item_in rs
