-- The records of a trace that aren't bad are events of its sites and functions.
use Rattle.std.proofs.Common.{◌≡◌, ℕ, ◌*◌, ◌<◌, List, drop, Ok, Err, IfOk, refl, sym, subst, arith}
use Rattle.std.proofs.lemmas.List.{length-take}
use Rattle.spp_event.specs.Records.{IsEventOf}
use Rattle.spp_event.specs.declared.version.Version.{Version}
use Rattle.spp_event.specs.declared.version.Version.TheVariants.{One, Two}
use Rattle.spp_event.specs.Recordings.{Record, AreEventsOf, records_of, read_at, place, item}
use Rattle.spp_event.proofs.RecordPlaces.{length-records_of, record_at-records_of}
use Rattle.spp_event.proofs.ItemsRead.{read_is_item}
use Rattle.spp_event.proofs.SpelledAndRead.{read_is_spelled}
use Rattle.spp_event.proofs.TakenFromFront.{IsBytes, IsBytes-take, IsBytes-drop}

pub are_events_of : (version : Version) (sites funcs count : ℕ) (body : List ℕ) → IsBytes body → AreEventsOf sites funcs (records_of version sites funcs count body)
are_events_of version sites funcs count body fits i lt =
    let l : i < count = omega (arith, length-records_of version sites funcs count body) in
    subst (λ r. IfOk r (IsEventOf sites funcs)) (sym (record_at-records_of version sites funcs count body i l)) (by version (read_at version sites funcs body i) refl)
  where
    by : (v : Version) (r : Record) → read_at v sites funcs body i ≡ r → IfOk r (IsEventOf sites funcs)
    by v (Err f) e = tt
    by One (Ok x) e =
        (read_is_spelled sites funcs (place body i) x (omega (arith, length-take 16 (drop (i * 16) body)))
        (IsBytes-take 16 (drop (i * 16) body) (IsBytes-drop (i * 16) body fits)) e).1
    by Two (Ok x) e = (read_is_item sites funcs (item body i) x e).1
