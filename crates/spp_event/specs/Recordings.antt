-- What contracts see of an opened trace: its names, its root function and its records, and the version and the bytes that
-- it was read from.
use Rattle.std.specs.Prelude.{ℕ, ◌*◌, ◌/◌, ◌<◌, ◌≤◌, ◌^◌, List, [], length, map, take, drop, slice_index_or, Result, Err, IfOk}
use Rattle.std.specs.List.{range_with_len}
use Rattle.spp_event.specs.declared.records.Event.{Event}
use Rattle.spp_event.specs.declared.records.EventFault.{EventFault}
use Rattle.spp_event.specs.declared.records.EventFault.TheVariants.{Truncated}
use Rattle.spp_event.specs.declared.version.Version.{Version}
use Rattle.spp_event.specs.declared.version.Version.TheVariants.{One, Two}
use Rattle.spp_event.specs.Records.{spelling, read_record, IsEventOf}
use Rattle.spp_event.specs.Items.{items, item_of, read_item}

-- an event, or the first fault of bytes that spell none
abbrev pub Record : Type 0
Record = Result Event EventFault

pub record Recording : Type 0 where
  pub funcs : List (List ℕ)
  pub sites : List (List ℕ)
  pub root : ℕ
  pub records : List (Result Event EventFault)
  pub version : Version
  pub body : List ℕ

-- the bytes at the place of record i, fewer than 16 where the body ends before
abbrev pub place : List ℕ → ℕ → List ℕ
place body i = take 16 (drop (i * 16) body)

-- the bytes of item i, none where there are not so many
abbrev pub item : List ℕ → ℕ → List ℕ
item body i = slice_index_or (items body) i []

-- the spelling of an event
abbrev pub spelling_in : Version → Event → List ℕ
spelling_in One e = spelling e
spelling_in Two e = item_of e

-- what stands for event i
abbrev pub read_at : Version → ℕ → ℕ → List ℕ → ℕ → Result Event EventFault
read_at One sites funcs body i = read_record sites funcs (place body i)
read_at Two sites funcs body i = read_item sites funcs (item body i)

-- the records of a body
abbrev pub records_of : Version → ℕ → ℕ → ℕ → List ℕ → List (Result Event EventFault)
records_of version sites funcs count body = map (λ i. read_at version sites funcs body i) (range_with_len 0 count)

-- the number of a version
abbrev pub version_number : Version → ℕ
version_number One = 1
version_number Two = 2

-- how much the events have room for: bytes, or items
abbrev pub room : Version → ℕ → ℕ
room One count = 16 * count
room Two count = count

-- how much there is of that
abbrev pub filled : Version → List ℕ → ℕ
filled One body = length body
filled Two body = length (items body)

-- how many whole events they are
abbrev pub count_in : Version → List ℕ → ℕ
count_in One bytes = length bytes / 16
count_in Two bytes = length (items bytes)

-- the record at a position
abbrev pub record_at : List (Result Event EventFault) → ℕ → Result Event EventFault
record_at records i = slice_index_or records i (Err Truncated)

-- the limits of a trace
pub record InLimits (t : Recording) : Type 0 where
  pub some_func : 1 ≤ length t.funcs
  pub funcs : length t.funcs ≤ 65536
  pub sites : length t.sites ≤ 65536
  pub root : t.root < length t.funcs
  pub events : length t.records ≤ 2 ^ 28

-- each record that isn't bad is an event of so many sites and functions
abbrev pub AreEventsOf : ℕ → ℕ → List (Result Event EventFault) → Type 0
AreEventsOf sites funcs records = (i : ℕ) → i < length records → IfOk (record_at records i) (IsEventOf sites funcs)
