-- What a text says: each line adds to what the lines before it have said, or has a fault. The lines are std's: parted
-- by line feeds, without the one carriage return before a line feed; what follows the last line feed is a line where it
-- isn't empty. LineKinds and Laws say the same without going from line to line, and LineFaults without going through the
-- checks of a line.
use Rattle.std.specs.Prelude.{ℕ, suc, ◌+◌, ◌-◌, ◌*◌, Bool, ◌&&◌, ◌||◌, not, nat_eq, nat_lt, nat_le, if◌then◌else◌, List, [], ◌∷◌, ◌++◌, length, take, drop, filter, codes, min, Option, None, Some, is_some, unwrap_or, Result, Ok, Err}
use Rattle.std.specs.List.{list_all, slice_split}
use Rattle.std.specs.Str.{bytes_eq}
use Rattle.std.specs.Str.Lines.{lines}
use Rattle.spp_event.specs.declared.records.Event.{Event}
use Rattle.spp_event.specs.declared.records.Event.TheVariants.{Strand, Call, Spawn, Ret, Sync}
use Rattle.spp_event.specs.Records.{names_site, names_func}
use Rattle.spp_event.specs.Checks.{is_name, is_taken}
use Rattle.spp_text.specs.declared.fault.TextWhy.{TextWhy}
use Rattle.spp_text.specs.declared.fault.TextWhy.TheVariants.{Word, Count, Number, Name, SameName, Limits, Late, Root, NoFunc, Site, Func}
use Rattle.spp_text.specs.declared.fault.TextFault.{TextFault}

-- what lines have said
pub record Said : Type 0 where
  pub funcs : List (List ℕ)
  pub sites : List (List ℕ)
  pub root : Option ℕ
  pub events : List Event

abbrev pub nothing : Said
nothing = record { funcs = []; sites = []; root = None; events = [] }

-- ---- words and numbers

abbrev pub is_blank : ℕ → Bool
is_blank b = nat_eq b 32 || nat_eq b 9

-- the words of a line, parted by runs of spaces and tabs
abbrev pub words : List ℕ → List (List ℕ)
words line = filter (λ w. not (nat_eq (length w) 0)) (slice_split is_blank line)

-- whether a line begins with these bytes
abbrev pub begins_with : List ℕ → List ℕ → Bool
begins_with front line = bytes_eq (take (length front) line) front

abbrev pub is_digit : ℕ → Bool
is_digit b = nat_le 48 b && nat_le b 57

-- the number whose digits follow those of n
abbrev pub value_from : ℕ → List ℕ → ℕ
value_from n [] = n
value_from n (b ∷ bs) = value_from (n * 10 + (b - 48)) bs

-- the number that a word is in decimal, if it is one and at most `most`
unfoldable pub number_in : ℕ → List ℕ → Option ℕ
number_in most word = if nat_lt 0 (length word) && list_all is_digit word && nat_le (value_from 0 word) most then Some (value_from 0 word) else None

-- ---- the lines

abbrev pub has_event : Said → Bool
has_event s = nat_lt 0 (length s.events)

-- a name for the next function; functions may share one
unfoldable pub read_func : Said → List ℕ → Result Said TextWhy
read_func s name = if has_event s then Err Late
    else if nat_le 65536 (length s.funcs) then Err Limits
    else if is_name name then Ok (record { funcs = s.funcs ++ name ∷ []; sites = s.sites; root = s.root; events = s.events }) else Err Name

-- a name for the next site, which no earlier site has, and which isn't `(root)`
unfoldable pub read_site : Said → List ℕ → Result Said TextWhy
read_site s name = if has_event s then Err Late
    else if nat_le 65536 (length s.sites) then Err Limits
    else if is_name name then
    (if is_taken s.sites name then Err SameName else Ok (record { funcs = s.funcs; sites = s.sites ++ name ∷ []; root = s.root; events = s.events }))
    else Err Name

abbrev pub set_root : Said → Option ℕ → Result Said TextWhy
set_root s None = Err Number
set_root s (Some n) = if has_event s then Err Late
    else if is_some s.root then Err Root else Ok (record { funcs = s.funcs; sites = s.sites; root = Some n; events = s.events })

-- the words behind that of the root
unfoldable pub read_root : Said → List (List ℕ) → Result Said TextWhy
read_root s (n ∷ []) = set_root s (number_in 4294967295 n)
read_root s [] = Err Count
read_root s (n ∷ m ∷ more) = Err Count

abbrev pub strand_of : Option ℕ → Result Event TextWhy
strand_of (Some count) = Ok (Strand count)
strand_of None = Err Number

abbrev pub opened_of : (ℕ → ℕ → Event) → Option ℕ → Option ℕ → Result Event TextWhy
opened_of event (Some site) (Some func) = Ok (event site func)
opened_of event None func = Err Number
opened_of event (Some site) None = Err Number

-- the words behind that of an event
abbrev pub strand_words : List (List ℕ) → Result Event TextWhy
strand_words [] = Err Count
strand_words (n ∷ []) = strand_of (number_in 18446744073709551615 n)
strand_words (n ∷ m ∷ more) = Err Count

abbrev pub open_words : (ℕ → ℕ → Event) → List (List ℕ) → Result Event TextWhy
open_words event [] = Err Count
open_words event (s ∷ []) = Err Count
open_words event (s ∷ f ∷ []) = opened_of event (number_in 4294967295 s) (number_in 4294967295 f)
open_words event (s ∷ f ∷ m ∷ more) = Err Count

abbrev pub lone_words : Event → List (List ℕ) → Result Event TextWhy
lone_words e [] = Ok e
lone_words e (n ∷ more) = Err Count

-- the event that words spell; none where the first is no word of an event
unfoldable pub event_in : List ℕ → List (List ℕ) → Option (Result Event TextWhy)
event_in word ws = if bytes_eq word (codes "strand") then Some (strand_words ws)
    else if bytes_eq word (codes "call") then Some (open_words Call ws)
    else if bytes_eq word (codes "spawn") then Some (open_words Spawn ws)
    else if bytes_eq word (codes "return") then Some (lone_words Ret ws)
    else if bytes_eq word (codes "sync") then Some (lone_words Sync ws)
    else None

-- what must have been said before the first event, or the end of a text without events: a function, and a root function
-- that is one of the functions, which is the first where none was named
unfoldable pub opening_fault : Said → Option TextWhy
opening_fault s = if has_event s then None
    else if nat_eq (length s.funcs) 0 then Some NoFunc
    else if nat_le (length s.funcs) (unwrap_or s.root 0) then Some Root
    else None

unfoldable pub add_event : Said → Event → Result Said TextWhy
add_event s e = if nat_le 268435456 (length s.events) then Err Limits
    else if names_site (length s.sites) e then
    (if names_func (length s.funcs) e then Ok (record { funcs = s.funcs; sites = s.sites; root = s.root; events = s.events ++ e ∷ [] }) else Err Func)
    else Err Site

-- what is missing before the first event is told before the event's own words
abbrev pub add_read : Said → Option TextWhy → Result Event TextWhy → Result Said TextWhy
add_read s (Some why) r = Err why
add_read s None (Err why) = Err why
add_read s None (Ok e) = add_event s e

abbrev pub read_event : Said → Option (Result Event TextWhy) → Result Said TextWhy
read_event s None = Err Word
read_event s (Some r) = add_read s (opening_fault s) r

abbrev pub read_words : Said → List (List ℕ) → Result Said TextWhy
read_words s [] = Ok s
read_words s (word ∷ ws) = if bytes_eq word (codes "root") then read_root s ws else read_event s (event_in word ws)

-- what lines have said, one line more
unfoldable pub read_line : Said → List ℕ → Result Said TextWhy
read_line s line = if begins_with (codes "func ") line then read_func s (drop 5 line)
    else if begins_with (codes "site ") line then read_site s (drop 5 line)
    else if begins_with (codes "#") line then Ok s
    else read_words s (words line)

-- ---- the whole text

-- the fault of the line of that number; numbers past 32 bits are told as the greatest
abbrev pub fault_at : ℕ → TextWhy → TextFault
fault_at number why = record { line = min number 4294967295; why = why }

abbrev pub at_end : Said → ℕ → Option TextWhy → Result Said TextFault
at_end s number None = Ok s
at_end s number (Some why) = Err (fault_at number why)

abbrev pub go_on : ℕ → Result Said TextWhy → (Said → Result Said TextFault) → Result Said TextFault
go_on number (Ok s) next = next s
go_on number (Err why) next = Err (fault_at number why)

-- what has been said after these lines, of which the first has that number; or the first fault
abbrev pub read_lines : Said → ℕ → List (List ℕ) → Result Said TextFault
read_lines s number [] = at_end s number (opening_fault s)
read_lines s number (l ∷ ls) = go_on number (read_line s l) (λ t. read_lines t (suc number) ls)

abbrev pub read_text : List ℕ → Result Said TextFault
read_text text = read_lines nothing 1 (lines text)
