-- Version 2 of the format: an event as at most thirteen bytes, and the body of a trace as such items.
use Rattle.std.specs.Prelude.{ℕ, ◌+◌, ◌/◌, ◌%◌, ◌*◌, ◌-◌, ◌^◌, Bool, true, ◌&&◌, ◌||◌, nat_eq, nat_lt, nat_le, if◌then◌else◌, List, [], ◌∷◌, ◌++◌, slice_index, Option, Some, None, Result, Ok, Err}
use Rattle.std.specs.Int.Digits.{digits_of}
use Rattle.std.specs.Str.{bytes_eq}
use Rattle.spp_event.specs.declared.records.Event.{Event}
use Rattle.spp_event.specs.declared.records.Event.TheVariants.{Strand, Call, Spawn, Ret, Sync}
use Rattle.spp_event.specs.declared.records.EventFault.{EventFault}
use Rattle.spp_event.specs.declared.records.EventFault.TheVariants.{Truncated, Tag, Operand, Site, Func}
use Rattle.spp_event.specs.Records.{names_site, names_func}

-- ---- the item of an event

-- a number: its digits in base 64, the highest first, and the last of them raised by 64
abbrev pub operand : ℕ → List ℕ
operand n = digits_of 64 (n / 64) ++ (64 + n % 64) ∷ []

-- an event: 128 and its tag, and then its numbers
abbrev pub item_of : Event → List ℕ
item_of (Strand count) = 128 ∷ operand count
item_of (Call site func) = 129 ∷ operand site ++ operand func
item_of (Spawn site func) = 130 ∷ operand site ++ operand func
item_of Ret = 131 ∷ []
item_of Sync = 132 ∷ []

-- ---- the items of a body

-- A byte before those of some items: an item of its own where the next begins with 128 or more, else the first byte of the next.
abbrev pub in_front : ℕ → List (List ℕ) → List (List ℕ)
in_front b [] = (b ∷ []) ∷ []
in_front b (item ∷ items) = if nat_le 128 (slice_index item 0) then (b ∷ []) ∷ item ∷ items else (b ∷ item) ∷ items

-- One begins at the first byte and at each later byte of 128 or more, and goes up to the next or to the end.
abbrev pub items : List ℕ → List (List ℕ)
items [] = []
items (b ∷ bs) = in_front b (items bs)

-- ---- what an item says

-- the numbers that bytes write, each up to a byte of 64 or more, where digits worth n came before
abbrev pub numbers : ℕ → List ℕ → List ℕ
numbers n [] = []
numbers n (b ∷ bs) = if nat_lt b 64 then numbers (n * 64 + b) bs else (n * 64 + (b - 64)) ∷ numbers 0 bs

-- the event with that tag and these numbers, if there is one
abbrev pub event_by : ℕ → List ℕ → Option Event
event_by tag [] = if nat_eq tag 131 then Some Ret else if nat_eq tag 132 then Some Sync else None
event_by tag (n ∷ []) = if nat_eq tag 128 then Some (Strand n) else None
event_by tag (n ∷ m ∷ []) = if nat_eq tag 129 then Some (Call n m) else if nat_eq tag 130 then Some (Spawn n m) else None
event_by tag (n ∷ m ∷ k ∷ ns) = None

-- its numbers fit their fields
abbrev pub is_event : Event → Bool
is_event (Strand count) = nat_lt count (2 ^ 64)
is_event (Call site func) = nat_lt site (2 ^ 32) && nat_lt func (2 ^ 32)
is_event (Spawn site func) = nat_lt site (2 ^ 32) && nat_lt func (2 ^ 32)
is_event Ret = true
is_event Sync = true

-- the event, where it names a site and a function of the trace, if it names any
abbrev pub within_trace : ℕ → ℕ → Event → Result Event EventFault
within_trace sites funcs e = if names_site sites e then
    (if names_func funcs e then Ok e else Err Func)
    else Err Site

-- the event that an item says, where the item is that of the event; else its operands are wrong
abbrev pub judged : ℕ → ℕ → List ℕ → Option Event → Result Event EventFault
judged sites funcs item None = Err Operand
judged sites funcs item (Some e) = if bytes_eq item (item_of e) && is_event e then within_trace sites funcs e else Err Operand

-- what an item says: the event, or the first of the checks that fails; an item that isn't there has no bytes
unfoldable pub read_item : ℕ → ℕ → List ℕ → Result Event EventFault
read_item sites funcs [] = Err Truncated
read_item sites funcs (lead ∷ rest) = if nat_lt lead 128 || nat_lt 132 lead then Err Tag
    else judged sites funcs (lead ∷ rest) (event_by lead (numbers 0 rest))
