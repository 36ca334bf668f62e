-- What printing a trace gives, or why it gives nothing.
use Rattle.std.specs.Prelude.{◌≡◌, ℕ, ◌<◌, List, ◌++◌, length, map, Ok, Err, IsOk}
use Rattle.std.specs.List.{flat_map, AllByRecursion}
use Rattle.spp_event.specs.declared.records.Event.{Event}
use Rattle.spp_event.specs.Records.{IsEventOf}
use Rattle.spp_event.specs.Recordings.{Record, record_at}
use Rattle.spp_text.specs.declared.print.PrintFault.{PrintFault}
use Rattle.spp_text.specs.declared.print.PrintFault.TheVariants.{Bad, Memory}
use Rattle.spp_text.specs.Text.{event_line}

-- the records are all events of a trace with so many sites and functions, and their lines were added to the text
abbrev pub PrintsEvents : ℕ → ℕ → List ℕ → List Record → List ℕ → Type 0
PrintsEvents sites funcs old records new =
    (es : List Event) × (records ≡ map (λ e. Ok e) es) × (new ≡ old ++ flat_map event_line es) × AllByRecursion (IsEventOf sites funcs) es

-- the least bad record
abbrev pub IsPrintFault : List Record → PrintFault → Type 0
IsPrintFault records (Bad at why) = (at < length records) × (record_at records at ≡ Err why) × ((i : ℕ) → i < at → IsOk (record_at records i))
IsPrintFault records Memory = Unit {0}
