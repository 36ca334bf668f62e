-- The records of a body, by their places.
use Rattle.std.proofs.Common.{◌≡◌, ℕ, ◌+◌, ◌*◌, ◌<◌, List, length, drop, Err, refl, arith}
use Rattle.std.proofs.lemmas.Bool.{lt-ltb}
use Rattle.std.proofs.lemmas.List.{length-take, length-drop}
use Rattle.std.proofs.lemmas.List.FromFn.{length-map-range_with_len, get_or-map-range_with_len}
use Rattle.spp_event.specs.declared.records.EventFault.TheVariants.{Truncated}
use Rattle.spp_event.specs.Records.{read_record}
use Rattle.spp_event.specs.declared.version.Version.{Version}
use Rattle.spp_event.specs.Recordings.{place, read_at, records_of, record_at}

pub length-records_of : (version : Version) (sites funcs count : ℕ) (body : List ℕ) → length (records_of version sites funcs count body) ≡ count
length-records_of version sites funcs count body = length-map-range_with_len (λ i. read_at version sites funcs body i) 0 count

pub record_at-records_of : (version : Version) (sites funcs count : ℕ) (body : List ℕ) (i : ℕ) → i < count → record_at (records_of version sites funcs count body) i ≡ read_at version sites funcs body i
record_at-records_of version sites funcs count body i h = get_or-map-range_with_len (λ k. read_at version sites funcs body k) 0 count i i (Err Truncated) h (omega arith)

pub short : (sites funcs : ℕ) (r : List ℕ) → length r < 16 → read_record sites funcs r ≡ Err Truncated
unfolding read_record
short sites funcs r h = rw (lt-ltb (length r) 16 h) refl

-- a place that passes the end of the body
pub truncated : (sites funcs : ℕ) (body : List ℕ) (i : ℕ) → length body < i * 16 + 16 → read_record sites funcs (place body i) ≡ Err Truncated
truncated sites funcs body i less =
    let n : length (place body i) < 16 = omega (arith, length-take 16 (drop (i * 16) body), length-drop (i * 16) body) in
    short sites funcs (place body i) n
