-- What a trace is written from.
use Rattle.std.specs.Prelude.{length, map, Ok}
use Rattle.std.specs.List.{flat_map, AllByRecursion}
use Rattle.spp_event.specs.declared.writing.Contents.{Contents}
use Rattle.spp_event.specs.declared.version.Version.TheVariants.{One}
use Rattle.spp_event.specs.Records.{spelling, IsEventOf}
use Rattle.spp_event.specs.Recordings.{Recording}

-- the recording whose parts these are, in version 1, each of its records being an event
abbrev pub recording_of : Contents → Recording
recording_of c = record { funcs = map (λ n. n.now) c.funcs.now; sites = map (λ n. n.now) c.sites.now; root = c.root; records = map (λ e. Ok e) c.events.now; version = One; body = flat_map spelling c.events.now }

-- each event is one of their sites and functions
abbrev pub HasOwnEvents : Contents → Type 0
HasOwnEvents c = AllByRecursion (IsEventOf (length c.sites.now) (length c.funcs.now)) c.events.now
