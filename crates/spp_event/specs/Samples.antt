-- The recordings of small traces, for tests and examples.
use Rattle.std.specs.Prelude.{List, [], ◌∷◌, map, codes, Ok}
use Rattle.spp_event.specs.declared.records.Event.{Event}
use Rattle.std.specs.List.{flat_map}
use Rattle.spp_event.specs.declared.version.Version.TheVariants.{One}
use Rattle.spp_event.specs.Records.{spelling}
use Rattle.spp_event.specs.Recordings.{Recording}

-- of the functions `main` and `f` and the site `A`, with these events
abbrev pub sample : List Event → Recording
sample events = record { funcs = codes "main" ∷ codes "f" ∷ []; sites = codes "A" ∷ []; root = 0; records = map (λ e. Ok e) events; version = One; body = flat_map spelling events }
