-- The checks of a header in their order, as one function: what the code of this crate is proved against. That it
-- answers what the relations of Header say is proved (the laws of headers).
use Rattle.std.specs.Prelude.{◌≡◌, ℕ, zero, suc, ◌+◌, Bool, ◌&&◌, ◌||◌, not, nat_eq, nat_lt, nat_le, if◌then◌else◌, List, [], ◌∷◌, ◌++◌, length, take, drop, Result, Ok, Err}
use Rattle.std.specs.List.{list_any, list_all}
use Rattle.std.specs.Int.{is_in_range}
use Rattle.std.specs.Str.{bytes_eq}
use Rattle.spp_event.specs.declared.header.HeaderFault.{HeaderFault}
use Rattle.spp_event.specs.declared.header.HeaderFault.TheVariants.{Short, Magic, Limits, Name, SameName, RootFunc, Trailing, Memory}
use Rattle.spp_event.specs.Records.{word_at}
use Rattle.spp_event.specs.Recordings.{Recording, records_of, room, filled}
use Rattle.spp_event.specs.declared.version.Version.{Version}
use Rattle.spp_event.specs.Header.{magic, version_in, root_name, name_len}

infixl 10 ◌>>=◌
abbrev pub ◌>>=◌ : {A B : Type 0} → Result A HeaderFault → (A → Result B HeaderFault) → Result B HeaderFault
(Ok x) >>= f = f x
(Err e) >>= f = Err e

abbrev pub is_printable : List ℕ → Bool
is_printable name = list_all (λ b. is_in_range 32 126 b) name

abbrev pub is_name : List ℕ → Bool
is_name name = nat_lt 0 (length name) && nat_le (length name) 200 && is_printable name

-- the name at the front, which has that number, and the bytes after it
unfoldable pub name_at : ℕ → List ℕ → Result (List ℕ × List ℕ) HeaderFault
name_at number bytes = if nat_lt (length bytes) 2 then Err Short
    else if nat_eq (name_len bytes) 0 || nat_lt 200 (name_len bytes) then Err (Name number)
    else if nat_lt (length (drop 2 bytes)) (name_len bytes) then Err Short
    else if is_printable (take (name_len bytes) (drop 2 bytes)) then Ok (take (name_len bytes) (drop 2 bytes), drop (name_len bytes) (drop 2 bytes))
    else Err (Name number)

-- the names of n more functions, after those that were read
unfoldable pub funcs_at : ℕ → List (List ℕ) → List ℕ → Result (List (List ℕ) × List ℕ) HeaderFault
funcs_at zero names bytes = Ok (names, bytes)
funcs_at (suc n) names bytes = do
  name ← name_at (length names) bytes
  funcs_at n (names ++ name.0 ∷ []) name.1

-- whether a site has that name already, or it is that of the root
abbrev pub is_taken : List (List ℕ) → List ℕ → Bool
is_taken names name = bytes_eq name root_name || list_any (λ n. bytes_eq name n) names

-- the names of n more sites, after those that were read; the first has the number `first`
unfoldable pub sites_at : ℕ → ℕ → List (List ℕ) → List ℕ → Result (List (List ℕ) × List ℕ) HeaderFault
sites_at zero first names bytes = Ok (names, bytes)
sites_at (suc n) first names bytes = do
  name ← name_at (first + length names) bytes
  if is_taken names name.0 then Err (SameName (first + length names)) else sites_at n first (names ++ name.0 ∷ []) name.1

abbrev pub are_limits : ℕ → ℕ → ℕ → Bool
are_limits funcs sites events = nat_lt 0 funcs && nat_le funcs 65536 && nat_le sites 65536 && nat_le events 268435456

-- the trace of these parts
abbrev pub trace_by : Version → ℕ → ℕ → List (List ℕ) → List (List ℕ) → List ℕ → Recording
trace_by version root count funcs sites body = record { funcs = funcs; sites = sites; root = root; records = records_of version (length sites) (length funcs) count body; version = version; body = body }

-- the trace whose header the bytes begin with, or the first check that fails
unfoldable pub trace_at : List ℕ → Result Recording HeaderFault
trace_at bytes = if nat_lt (length bytes) 24 then Err Short
    else if not (bytes_eq (take 8 bytes) (magic (version_in bytes))) then Err Magic
    else if not (are_limits (word_at bytes 8) (word_at bytes 12) (word_at bytes 20)) then Err Limits
    else if nat_le (word_at bytes 8) (word_at bytes 16) then Err RootFunc
    else do
      funcs ← funcs_at (word_at bytes 8) [] (drop 24 bytes)
      sites ← sites_at (word_at bytes 12) (word_at bytes 8) [] funcs.1
      if nat_lt (room (version_in bytes) (word_at bytes 20)) (filled (version_in bytes) sites.1) then Err Trailing
          else Ok (trace_by (version_in bytes) (word_at bytes 16) (word_at bytes 20) funcs.0 sites.0 sites.1)

-- What a call answered, seen by view, is what the checks say. Want of memory may come before any other answer.
abbrev pub Fails : {Y : Type 0} → HeaderFault → Result Y HeaderFault → Type 0
Fails Memory read = Unit {0}
Fails fault read = read ≡ Err fault

abbrev pub Gives : {X Y : Type 0} → (X → Y) → Result X HeaderFault → Result Y HeaderFault → Type 0
Gives view (Ok x) read = read ≡ Ok (view x)
Gives view (Err e) read = Fails e read
