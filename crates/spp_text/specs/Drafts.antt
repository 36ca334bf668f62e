-- What a draft of a trace keeps.
use Rattle.std.specs.Prelude.{◌≡◌, ℕ, zero, suc, ◌*◌, ◌-◌, ◌≤◌, ◌<◌, ◌^◌, List, [], ◌∷◌, ◌++◌, length, take, drop}
use Rattle.std.specs.List.{list_any, flat_map, AllByRecursion}
use Rattle.std.specs.Str.{bytes_eq}
use Rattle.std.specs.BTreeSet.{BTreeSet}
use Rattle.spp_event.specs.declared.records.Event.{Event}
use Rattle.spp_event.specs.declared.version.Version.TheVariants.{One}
use Rattle.spp_event.specs.NameSets.{has}
use Rattle.spp_event.specs.Recordings.{Recording}
use Rattle.spp_event.specs.Header.{IsName, AreApart, header_spelling}
use Rattle.spp_event.specs.Records.{IsEventOf, event_in, spelling}
use Rattle.spp_text.specs.Reading.{Said}
use denote.Ref.{Bor}

-- the events that so many records say
abbrev pub events_of : ℕ → List ℕ → List Event
events_of zero records = []
events_of (suc n) records = event_in (take 16 records) ∷ events_of n (drop 16 records)

-- those that the last records of these bytes say
unfoldable pub last_events : ℕ → List ℕ → List Event
last_events n bytes = events_of n (drop (length bytes - 16 * n) bytes)

-- one event more
abbrev pub with_event : Said → Event → Said
with_event s e = record { funcs = s.funcs; sites = s.sites; root = s.root; events = s.events ++ e ∷ [] }

-- the trace of these names and this root function, before its first event
abbrev pub begun : List (List ℕ) → List (List ℕ) → ℕ → Recording
begun funcs sites root = record { funcs = funcs; sites = sites; root = root; records = []; version = One; body = [] }

-- what a trace keeps, the names of the sites are in the set, there are no events before all was declared, and from the
-- first of them on the bytes are the header of the trace without events, and the records
pub record IsKept (set : BTreeSet (Bor (List ℕ))) (funcs sites : List (List ℕ)) (root : ℕ) (events : List Event) (bytes : List ℕ) : Type 0 where
  pub few_funcs : length funcs ≤ 65536
  pub few_sites : length sites ≤ 65536
  pub few_events : length events ≤ 2 ^ 28
  pub in_set : (q : List ℕ) → has set q ≡ list_any (λ n. bytes_eq q n) sites
  pub func_names : AllByRecursion IsName funcs
  pub site_names : AllByRecursion IsName sites
  pub apart : AreApart sites
  pub opened : 0 < length events → root < length funcs
  pub within : AllByRecursion (IsEventOf (length sites) (length funcs)) events
  pub written : 0 < length events → bytes ≡ header_spelling (begun funcs sites root) ++ flat_map spelling events
