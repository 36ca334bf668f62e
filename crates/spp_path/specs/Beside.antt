-- Whether a path stays away from a part: within the innermost frame that it enters some frame is open all along.
use Rattle.std.specs.Prelude.{ℕ, zero, suc, ◌+◌, ◌-◌, ◌<◌, ◌≤◌, Ok, Err}
use Rattle.spp_event.specs.declared.records.Event.TheVariants.{Strand, Call, Spawn, Ret, Sync}
use Rattle.spp_event.specs.Recordings.{Record, record_at}
use Rattle.spp_cut.specs.Parts.{PartOf}

-- how many frames are open there after a record, where n were before
abbrev pub open_after : Record → ℕ → ℕ
open_after (Ok (Strand count)) n = n
open_after (Ok (Call site func)) n = n + 1
open_after (Ok (Spawn site func)) n = n + 1
open_after (Ok Ret) n = n - 1
open_after (Ok Sync) n = n
open_after (Err fault) n = n

-- after the first k events of the part, where n are where it begins
abbrev pub open_at : PartOf → ℕ → ℕ → ℕ
open_at part n zero = n
open_at part n (suc k) = open_after (record_at part.trace.records (part.first + k)) (open_at part n k)

-- one is, where the part begins, after each of its events but the last, and after that
abbrev pub StaysBeside : PartOf → ℕ → Type 0
StaysBeside part n = (k : ℕ) → k ≤ part.count → 0 < open_at part n k
