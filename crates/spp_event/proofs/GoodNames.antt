-- The check of a name decides what may be one.
use Rattle.std.proofs.Common.{◌≡◌, ◌↔◌, IsTrue, ℕ, ◌≤◌, true, ltb, leb, ◌&&◌, List, length, refl, arith}
use Rattle.std.specs.Str.{IsUtf8}
use Rattle.std.proofs.lemmas.Bool.{ltb-true, leb-true, lt-ltb, le-leb, and_parts, and_from}
use Rattle.spp_event.specs.Header.{IsName}
use Rattle.spp_event.specs.Checks.{is_name, is_printable}
use Rattle.spp_event.proofs.NamesInTurn.{printable_is_text}
use Rattle.spp_event.proofs.TakenFromFront.{printable}
use Rattle.spp_event.proofs.TracesPass.{printable_again}

checked_is_name : (name : List ℕ) → is_name name ≡ true → IsName name
checked_is_name name e =
    let a = and_parts (ltb 0 (length name) && leb (length name) 200) (is_printable name) e in
    let b = and_parts (ltb 0 (length name)) (leb (length name) 200) a.0 in
    let some = ltb-true 0 (length name) b.0 in
    (omega arith, leb-true (length name) 200 b.1, printable name a.1)

name_is_checked : (name : List ℕ) → IsName name → is_name name ≡ true
name_is_checked name h =
    let some = h.0 in
    and_from (ltb 0 (length name) && leb (length name) 200) (is_printable name) (and_from (ltb 0 (length name)) (leb (length name) 200) (lt-ltb 0 (length name) (omega arith)) (le-leb (length name) 200 h.1)) (printable_again name h.2)

-- a name of a good length is good where it is printable
pub is_name_by_bytes : (name : List ℕ) → 1 ≤ length name → length name ≤ 200 → is_name name ≡ is_printable name
is_name_by_bytes name some few = rw (lt-ltb 0 (length name) (omega arith), le-leb (length name) 200 few) refl

pub is_name_decides : (name : List ℕ) → IsTrue (is_name name) ↔ IsName name
is_name_decides name = (checked_is_name name, name_is_checked name)

pub name_is_text : (name : List ℕ) → is_name name ≡ true → IsUtf8 name
name_is_text name e = printable_is_text name (and_parts (ltb 0 (length name) && leb (length name) 200) (is_printable name) e).1
