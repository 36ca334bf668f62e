-- The header of a trace: what it spells, when bytes are those of a trace, and what is wrong first with bytes that
-- are not.
use Rattle.std.specs.Prelude.{◌≡◌, ◌≢◌, ◌⊎◌, ℕ, ◌+◌, ◌<◌, ◌≤◌, ◌^◌, List, [], ◌∷◌, ◌++◌, length, take, drop, codes, Contains, slice_index, nat_eq, if◌then◌else◌}
use Rattle.std.specs.List.{flat_map, AllByRecursion}
use Rattle.std.specs.Int.{w16, to_be_bytes, from_be_bytes, IsInRange}
use Rattle.spp_event.specs.declared.header.HeaderFault.{HeaderFault}
use Rattle.spp_event.specs.declared.header.HeaderFault.TheVariants.{Short, Magic, Limits, Name, SameName, RootFunc, Trailing, Memory}
use Rattle.spp_event.specs.Records.{word, word_at}
use Rattle.spp_event.specs.Recordings.{Recording, InLimits, records_of, room, filled}
use Rattle.spp_event.specs.declared.version.Version.{Version}
use Rattle.spp_event.specs.declared.version.Version.TheVariants.{One, Two}

-- the first eight bytes of a trace
abbrev pub magic : Version → List ℕ
magic One = codes "SPTRACE1"
magic Two = codes "SPTRACE2"

-- the version that the last of them says: the digit 2 has the code 50
abbrev pub version_in : List ℕ → Version
version_in bytes = if nat_eq (slice_index bytes 7) 50 then Two else One

-- the name of the root's row, which no site may have
abbrev pub root_name : List ℕ
root_name = codes "(root)"

-- ---- what a header spells

-- two bytes of length, and that many bytes
abbrev pub name_spelling : List ℕ → List ℕ
name_spelling name = to_be_bytes w16 (length name) ++ name

abbrev pub header_spelling : Recording → List ℕ
header_spelling t = magic t.version ++ (word (length t.funcs) ++ word (length t.sites) ++ word t.root ++ word (length t.records)
    ++ flat_map name_spelling t.funcs ++ flat_map name_spelling t.sites)

-- its first 24 bytes: the version, how many functions and sites there are, the root function, and how many events
abbrev pub head_spelling : Version → ℕ → ℕ → ℕ → ℕ → List ℕ
head_spelling version funcs sites root events = magic version ++ (word funcs ++ word sites ++ word root ++ word events)

-- from 1 to 200 printable bytes
abbrev pub IsName : List ℕ → Type 0
IsName name = (1 ≤ length name) × (length name ≤ 200) × AllByRecursion (IsInRange 32 126) name

-- no two site names are equal, and none is that of the root
abbrev pub AreApart : List (List ℕ) → Type 0
AreApart [] = Unit {0}
AreApart (name ∷ names) = ((name ≡ root_name) → ⊥) × AllByRecursion (λ n. (name ≡ n) → ⊥) names × AreApart names

-- names are good, and sites are told apart by them
pub record HasGoodNames (t : Recording) : Type 0 where
  pub func_names : AllByRecursion IsName t.funcs
  pub site_names : AllByRecursion IsName t.sites
  pub apart : AreApart t.sites

-- what these parts of an opened trace keep
pub record IsSound (funcs sites : List (List ℕ)) (root events : ℕ) : Type 0 where
  pub some_func : 1 ≤ length funcs
  pub few_funcs : length funcs ≤ 65536
  pub few_sites : length sites ≤ 65536
  pub root_is_func : root < length funcs
  pub few_events : events ≤ 2 ^ 28
  pub func_names : AllByRecursion IsName funcs
  pub site_names : AllByRecursion IsName sites
  pub apart : AreApart sites

-- the bytes are those of the trace t: its header and then its body, which has room for no more than its events, and whose
-- records these are
pub record IsTraceOf (bytes : List ℕ) (t : Recording) : Type 0 where
  pub header : bytes ≡ header_spelling t ++ t.body
  pub limits : InLimits t
  pub names : HasGoodNames t
  pub room : filled t.version t.body ≤ room t.version (length t.records)
  pub records : t.records ≡ records_of t.version (length t.sites) (length t.funcs) (length t.records) t.body

-- ---- what is wrong first

-- the numbers of a header, at their places
abbrev pub funcs_in : List ℕ → ℕ
funcs_in bytes = word_at bytes 8

abbrev pub sites_in : List ℕ → ℕ
sites_in bytes = word_at bytes 12

abbrev pub root_in : List ℕ → ℕ
root_in bytes = word_at bytes 16

abbrev pub events_in : List ℕ → ℕ
events_in bytes = word_at bytes 20

pub record IsWithinLimits (bytes : List ℕ) : Type 0 where
  pub some_func : 1 ≤ funcs_in bytes
  pub funcs : funcs_in bytes ≤ 65536
  pub sites : sites_in bytes ≤ 65536
  pub events : events_in bytes ≤ 2 ^ 28

-- the first 24 bytes are good
pub record HasGoodHead (bytes : List ℕ) : Type 0 where
  pub long : 24 ≤ length bytes
  pub magic : take 8 bytes ≡ magic (version_in bytes)
  pub limits : IsWithinLimits bytes
  pub root : root_in bytes < funcs_in bytes

-- behind a good head stand these good names, and then the rest
pub record HasNames (bytes : List ℕ) (names : List (List ℕ)) (rest : List ℕ) : Type 0 where
  pub head : HasGoodHead bytes
  pub spelled : drop 24 bytes ≡ flat_map name_spelling names ++ rest
  pub few : length names ≤ funcs_in bytes + sites_in bytes
  pub good : AllByRecursion IsName names
  pub apart : AreApart (drop (funcs_in bytes) names)

-- one name more is to come than stand there
abbrev pub WantsName : List ℕ → List (List ℕ) → Type 0
WantsName bytes names = length names < funcs_in bytes + sites_in bytes

-- the length that the first two bytes say
abbrev pub name_len : List ℕ → ℕ
name_len bytes = from_be_bytes w16 (take 2 bytes)

-- the bytes end within their first name: within its length, or, where the length is good, after it
abbrev pub EndsInName : List ℕ → Type 0
EndsInName bytes = (length bytes < 2)
    ⊎ ((1 ≤ name_len bytes) × (name_len bytes ≤ 200) × (length bytes < 2 + name_len bytes))

-- their first name has a bad length, or is there and has a byte that is not printable
abbrev pub HasBadName : List ℕ → Type 0
HasBadName bytes = (2 ≤ length bytes)
    × ((name_len bytes ≡ 0) ⊎ (200 < name_len bytes)
    ⊎ ((2 + name_len bytes ≤ length bytes)
    × ¬ AllByRecursion (IsInRange 32 126) (take (name_len bytes) (drop 2 bytes))))

-- The fault that these bytes have first. All that stands before it is good.
abbrev pub IsHeaderFault : List ℕ → HeaderFault → Type 0
IsHeaderFault bytes Short = (length bytes < 24)
    ⊎ ((names : List (List ℕ)) × (rest : List ℕ) × HasNames bytes names rest × WantsName bytes names × EndsInName rest)
IsHeaderFault bytes Magic = (24 ≤ length bytes) × (take 8 bytes ≢ magic (version_in bytes))
IsHeaderFault bytes Limits = (24 ≤ length bytes) × (take 8 bytes ≡ magic (version_in bytes)) × ¬ IsWithinLimits bytes
IsHeaderFault bytes RootFunc =
    (24 ≤ length bytes) × (take 8 bytes ≡ magic (version_in bytes)) × IsWithinLimits bytes × (funcs_in bytes ≤ root_in bytes)
IsHeaderFault bytes (Name number) =
    (names : List (List ℕ)) × (rest : List ℕ) × HasNames bytes names rest × WantsName bytes names
    × (number ≡ length names) × HasBadName rest
IsHeaderFault bytes (SameName number) =
    (names : List (List ℕ)) × (name : List ℕ) × (rest : List ℕ)
    × HasNames bytes names (name_spelling name ++ rest) × WantsName bytes names
    × (number ≡ length names) × (funcs_in bytes ≤ number) × IsName name
    × ((name ≡ root_name) ⊎ Contains (drop (funcs_in bytes) names) name)
IsHeaderFault bytes Trailing =
    (names : List (List ℕ)) × (rest : List ℕ) × HasNames bytes names rest
    × (length names ≡ funcs_in bytes + sites_in bytes) × (room (version_in bytes) (events_in bytes) < filled (version_in bytes) rest)
IsHeaderFault bytes Memory = ⊥
