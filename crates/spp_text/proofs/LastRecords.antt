-- The events that the last records of bytes say are those that were spelled there.
use Rattle.std.proofs.Common.{◌≡◌, ℕ, zero, suc, ◌+◌, ◌-◌, ◌*◌, ◌≤◌, List, [], ◌∷◌, ◌++◌, length, take, drop, refl, ap, ◌∙◌, arith}
use Rattle.std.specs.List.{flat_map, AllByRecursion}
use Rattle.std.specs.Int.{w32, from_be_bytes}
use Rattle.std.proofs.Math.Seq.{drop-append_seam}
use Rattle.std.proofs.lemmas.List.{length-append, flat_map_more}
use Rattle.std.proofs.lemmas.Nat.{from_be_bytes-to_be_bytes_4, from_be_bytes-to_be_bytes_8}
use Rattle.spp_event.specs.declared.records.Event.{Event}
use Rattle.spp_event.specs.declared.records.Event.TheVariants.{Strand, Call, Spawn, Ret, Sync}
use Rattle.spp_event.specs.Records.{word, spelling, event_in, IsEvent, IsEventOf}
use Rattle.spp_event.proofs.WrittenBytes.{length-spellings}
use Rattle.spp_event.proofs.TakenFromFront.{all_more}
use Rattle.spp_text.specs.Drafts.{events_of, last_events}

event_again : (e : Event) (rest : List ℕ) → IsEvent e → event_in (take 16 (spelling e ++ rest)) ≡ e
event_again (Strand count) rest h = ap Strand (from_be_bytes-to_be_bytes_8 count h)
event_again (Call site func) rest h =
    ap (λ (n : ℕ). Call n (from_be_bytes w32 (word func))) (from_be_bytes-to_be_bytes_4 site h.0) ∙ ap (Call site) (from_be_bytes-to_be_bytes_4 func h.1)
event_again (Spawn site func) rest h =
    ap (λ (n : ℕ). Spawn n (from_be_bytes w32 (word func))) (from_be_bytes-to_be_bytes_4 site h.0) ∙ ap (Spawn site) (from_be_bytes-to_be_bytes_4 func h.1)
event_again Ret rest h = refl
event_again Sync rest h = refl

after_spelling : (e : Event) (rest : List ℕ) → drop 16 (spelling e ++ rest) ≡ rest
after_spelling (Strand count) rest = refl
after_spelling (Call site func) rest = refl
after_spelling (Spawn site func) rest = refl
after_spelling Ret rest = refl
after_spelling Sync rest = refl

events_again : (es : List Event) → AllByRecursion IsEvent es → events_of (length es) (flat_map spelling es) ≡ es
events_again [] h = refl
events_again (e ∷ es) h =
    ap (λ (x : Event). x ∷ events_of (length es) (drop 16 (spelling e ++ flat_map spelling es))) (event_again e (flat_map spelling es) h.0)
    ∙ ap (λ (t : List ℕ). e ∷ events_of (length es) t) (after_spelling e (flat_map spelling es))
    ∙ ap (λ (l : List Event). e ∷ l) (events_again es h.1)

last_again : (front : List ℕ) (es : List Event) → AllByRecursion IsEvent es → last_events (length es) (front ++ flat_map spelling es) ≡ es
unfolding last_events
last_again front es h =
    let body = flat_map spelling es in
    let long : length (front ++ body) - 16 * length es ≡ length front = omega (arith, length-append front body, length-spellings es) in
    ap (λ (k : ℕ). events_of (length es) (drop k (front ++ body))) long
    ∙ ap (events_of (length es)) (drop-append_seam front body)
    ∙ events_again es h

length-events_of : (n : ℕ) (records : List ℕ) → length (events_of n records) ≡ n
length-events_of zero records = refl
length-events_of (suc n) records = ap suc (length-events_of n (drop 16 records))

pub length-last_events : (n : ℕ) (bytes : List ℕ) → length (last_events n bytes) ≡ n
unfolding last_events
length-last_events n bytes = length-events_of n (drop (length bytes - 16 * n) bytes)

pub none_last : (n : ℕ) (bytes : List ℕ) → n ≡ 0 → last_events n bytes ≡ []
unfolding last_events
none_last n bytes none = rw none refl

fits : (sites funcs : ℕ) (e : Event) → sites ≤ 65536 → funcs ≤ 65536 → IsEventOf sites funcs e → IsEvent e
fits sites funcs (Strand count) s f h = h
fits sites funcs (Call site func) s f h = let a = h.0 in let b = h.1 in (omega arith, omega arith)
fits sites funcs (Spawn site func) s f h = let a = h.0 in let b = h.1 in (omega arith, omega arith)
fits sites funcs Ret s f h = tt
fits sites funcs Sync s f h = tt

all_fit : (sites funcs : ℕ) (es : List Event) → sites ≤ 65536 → funcs ≤ 65536 → AllByRecursion (IsEventOf sites funcs) es → AllByRecursion IsEvent es
all_fit sites funcs [] s f h = tt
all_fit sites funcs (e ∷ es) s f h = (fits sites funcs e s f h.0, all_fit sites funcs es s f h.1)

-- one record more
pub last_more : (sites funcs n : ℕ) (front bytes : List ℕ) (es : List Event) (e : Event) → sites ≤ 65536 → funcs ≤ 65536 → AllByRecursion (IsEventOf sites funcs) es → IsEvent e → length es ≡ n → bytes ≡ front ++ flat_map spelling es → last_events (n + 1) (bytes ++ spelling e) ≡ es ++ e ∷ []
last_more sites funcs n front bytes es e s f all good count is =
    let more : n + 1 ≡ length (es ++ e ∷ []) = omega (arith, length-append es (e ∷ [])) in
    let spelled : bytes ++ spelling e ≡ front ++ flat_map spelling (es ++ e ∷ []) = ap (λ (t : List ℕ). t ++ spelling e) is ∙ flat_map_more spelling front es e in
    ap (λ (k : ℕ). last_events k (bytes ++ spelling e)) more
    ∙ ap (last_events (length (es ++ e ∷ []))) spelled
    ∙ last_again front (es ++ e ∷ []) (all_more IsEvent es e (all_fit sites funcs es s f all) good)
