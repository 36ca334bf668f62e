-- What a record says that is known to spell an event.
use Rattle.std.proofs.Common.{◌≡◌, ℕ, Bool, true, false, if◌then◌else◌, nat_lt, List, length, slice_index, Result, Ok, Err, IsOk, refl, arith}
use Rattle.spp_event.specs.declared.records.Event.{Event}
use Rattle.spp_event.specs.declared.records.Event.TheVariants.{Strand, Call, Spawn, Ret, Sync}
use Rattle.spp_event.specs.declared.records.EventFault.{EventFault}
use Rattle.spp_event.specs.declared.records.EventFault.TheVariants.{Truncated, Tag, Padding, Site, Func}
use Rattle.spp_event.specs.Records.{read_record, event_in, padding, are_zero, names_site, names_func, IsEvent, IsEventOf}

pub record Known (sites funcs : ℕ) (r : List ℕ) : Type 0 where
  pub is : read_record sites funcs r ≡ Ok (event_in r)
  pub site : names_site sites (event_in r) ≡ true
  pub func : names_func funcs (event_in r) ≡ true

-- by the checks, in their order
abbrev picked : (short tag zero site func : Bool) → Event → Result Event EventFault
picked short tag zero site func e = if short then Err Truncated
    else if tag then Err Tag
    else if zero then
    (if site then
    (if func then Ok e else Err Func)
    else Err Site)
    else Err Padding

all_pass : (short tag zero site func : Bool) (e : Event) → IsOk (picked short tag zero site func e)
    → (picked short tag zero site func e ≡ Ok e) × (site ≡ true) × (func ≡ true)
all_pass true tag zero site func e h = absurd (let z : false ≡ true = h in cc)
all_pass false true zero site func e h = absurd (let z : false ≡ true = h in cc)
all_pass false false false site func e h = absurd (let z : false ≡ true = h in cc)
all_pass false false true false func e h = absurd (let z : false ≡ true = h in cc)
all_pass false false true true false e h = absurd (let z : false ≡ true = h in cc)
all_pass false false true true true e h = (refl, refl, refl)

pub known : (sites funcs : ℕ) (r : List ℕ) → IsOk (read_record sites funcs r) → Known sites funcs r
unfolding read_record
known sites funcs r h =
    let p = all_pass (nat_lt (length r) 16) (nat_lt 4 (slice_index r 0)) (are_zero (padding r)) (names_site sites (event_in r)) (names_func funcs (event_in r)) (event_in r) h in
    record { is = p.0; site = p.1; func = p.2 }

pub known_within : (sites funcs : ℕ) (e : Event) → names_site sites e ≡ true → names_func funcs e ≡ true → IsEvent e → IsEventOf sites funcs e
known_within sites funcs (Strand count) s f h = h
known_within sites funcs (Call site func) s f h = (grind (arith, s), grind (arith, f))
known_within sites funcs (Spawn site func) s f h = (grind (arith, s), grind (arith, f))
known_within sites funcs Ret s f h = tt
known_within sites funcs Sync s f h = tt
