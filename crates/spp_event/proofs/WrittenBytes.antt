-- A header and the spellings of events are a trace's bytes.
use Rattle.std.proofs.Common.{◌≡◌, ℕ, zero, suc, ◌+◌, ◌*◌, ◌≤◌, ◌<◌, ◌^◌, List, [], ◌∷◌, ◌++◌, length, get_or, take, drop, map, Ok, Err, refl, sym, ap, subst, ◌∙◌, arith, append_assoc, length-append}
use Rattle.std.specs.List.{flat_map, AllByRecursion}
use Rattle.std.proofs.lemmas.List.{ext_get_or, length-map, get_or-map, take-append-le, take_all, take_more, flat_map_more}
use Rattle.std.proofs.Math.Seq.{drop-append-add}
use Rattle.spp_event.specs.declared.records.Event.{Event}
use Rattle.spp_event.specs.declared.records.Event.TheVariants.{Strand, Call, Spawn, Ret, Sync}
use Rattle.spp_event.specs.declared.records.EventFault.TheVariants.{Truncated}
use Rattle.spp_event.specs.declared.version.Version.TheVariants.{One}
use Rattle.spp_event.specs.declared.writing.Contents.{Contents}
use Rattle.spp_event.specs.Records.{word, spelling, IsEventOf, read_record}
use Rattle.spp_event.specs.Recordings.{Recording, InLimits, place, records_of}
use Rattle.spp_event.specs.Header.{magic, name_spelling, HasGoodNames, IsTraceOf, head_spelling, header_spelling}
use Rattle.spp_event.specs.Contents.{recording_of, HasOwnEvents}
use Rattle.spp_event.proofs.SpelledAndRead.{spelled_is_read}
use Rattle.spp_event.proofs.RecordPlaces.{length-records_of, record_at-records_of}

pub length-spelling : (e : Event) → length (spelling e) ≡ 16
length-spelling (Strand count) = refl
length-spelling (Call site func) = refl
length-spelling (Spawn site func) = refl
length-spelling Ret = refl
length-spelling Sync = refl

pub length-spellings : (es : List Event) → length (flat_map spelling es) ≡ 16 * length es
length-spellings [] = refl
length-spellings (e ∷ es) = rw length-append (omega (arith, length-spelling e, length-spellings es))

place_spelled : (es : List Event) (i : ℕ) (d : Event) → i < length es → place (flat_map spelling es) i ≡ spelling (get_or es i d)
place_spelled [] i d lt = absurd (omega arith)
place_spelled (e ∷ es) zero d lt =
    let n = length-spelling e in
    take-append-le 16 (spelling e) (flat_map spelling es) (omega arith) ∙ take_all 16 (spelling e) (omega arith)
place_spelled (e ∷ es) (suc i) d lt =
    let n = length-spelling e in
    let k : suc i * 16 ≡ length (spelling e) + i * 16 = omega arith in
    ap (λ (j : ℕ). take 16 (drop j (spelling e ++ flat_map spelling es))) k
    ∙ ap (take 16) (drop-append-add (spelling e) (flat_map spelling es) (i * 16))
    ∙ place_spelled es i d (omega arith)

pub one_of_all : {X : Type 0} (P : X → Type 0) (xs : List X) (i : ℕ) (d : X) → AllByRecursion P xs → i < length xs → P (get_or xs i d)
one_of_all P [] i d h lt = absurd (omega arith)
one_of_all P (x ∷ xs) zero d h lt = h.0
one_of_all P (x ∷ xs) (suc i) d h lt = one_of_all P xs i d h.1 (omega arith)

pub records_spelled : (sites funcs : ℕ) (es : List Event) → sites ≤ 2 ^ 32 → funcs ≤ 2 ^ 32 → AllByRecursion (IsEventOf sites funcs) es → map (λ e. Ok e) es ≡ records_of One sites funcs (length es) (flat_map spelling es)
records_spelled sites funcs es s f all = ext_get_or (Err Truncated) (map (λ e. Ok e) es) (records_of One sites funcs (length es) (flat_map spelling es))
    (length-map es (λ e. Ok e) ∙ sym (length-records_of One sites funcs (length es) (flat_map spelling es)))
    (λ i lt.
    let within : i < length es = subst (λ (n : ℕ). i < n) (length-map es (λ e. Ok e)) lt in
    get_or-map (λ e. Ok e) es i Ret (Err Truncated) within
    ∙ sym (spelled_is_read sites funcs (get_or es i Ret) s f (one_of_all (IsEventOf sites funcs) es i Ret all within))
    ∙ ap (λ (r : List ℕ). read_record sites funcs r) (sym (place_spelled es i Ret within))
    ∙ sym (record_at-records_of One sites funcs (length es) (flat_map spelling es) i within))

-- what the next element spells is added
pub one_more : {X : Type 0} (f : X → List ℕ) (xs : List X) (n : ℕ) (d x : X) (old text new : List ℕ) → n < length xs → get_or xs n d ≡ x → text ≡ old ++ flat_map f (take n xs) → new ≡ text ++ f x → new ≡ old ++ flat_map f (take (n + 1) xs)
one_more f xs n d x old text new lt is so_far added =
    added
    ∙ ap (λ (t : List ℕ). t ++ f x) so_far
    ∙ flat_map_more f old (take n xs) x
    ∙ ap (λ (l : List _). old ++ flat_map f l) (ap (λ y. take n xs ++ y ∷ []) (sym is) ∙ sym (take_more xs n d lt))

-- ---- the header

pub regrouped : (o m p q r s : List ℕ) → o ++ m ++ p ++ q ++ r ++ s ≡ o ++ (m ++ (p ++ q ++ r ++ s))
regrouped [] [] p q r s = refl
regrouped [] (x ∷ m) p q r s = ap (λ (l : List ℕ). x ∷ l) (regrouped [] m p q r s)
regrouped (x ∷ o) m p q r s = ap (λ (l : List ℕ). x ∷ l) (regrouped o m p q r s)

-- the head, and then the names of functions and those of sites
pub header_is : (t : Recording) (head named all : List ℕ) → head ≡ head_spelling t.version (length t.funcs) (length t.sites) t.root (length t.records)
    → named ≡ head ++ flat_map name_spelling t.funcs → all ≡ named ++ flat_map name_spelling t.sites → all ≡ header_spelling t
header_is t head named all h f s =
    s ∙ ap (λ (l : List ℕ). l ++ flat_map name_spelling t.sites) (f ∙ ap (λ (l : List ℕ). l ++ flat_map name_spelling t.funcs) h)
    ∙ append_assoc (head_spelling t.version (length t.funcs) (length t.sites) t.root (length t.records)) (flat_map name_spelling t.funcs) (flat_map name_spelling t.sites)
    ∙ append_assoc (magic t.version) (word (length t.funcs) ++ word (length t.sites) ++ word t.root ++ word (length t.records)) (flat_map name_spelling t.funcs ++ flat_map name_spelling t.sites)

-- contents that may be written, and their bytes
pub is_trace : (c : Contents) (bytes : List ℕ) → InLimits (recording_of c) → HasGoodNames (recording_of c) → HasOwnEvents c → bytes ≡ header_spelling (recording_of c) ++ flat_map spelling c.events.now → IsTraceOf bytes (recording_of c)
is_trace c bytes limits names within is =
    let funcs = map (λ n. n.now) c.funcs.now in
    let sites = map (λ n. n.now) c.sites.now in
    let body = flat_map spelling c.events.now in
    let few_funcs = limits.funcs in let few_sites = limits.sites in
    let f : length funcs ≡ length c.funcs.now = length-map c.funcs.now (λ n. n.now) in
    let s : length sites ≡ length c.sites.now = length-map c.sites.now (λ n. n.now) in
    let count : length (recording_of c).records ≡ length c.events.now = length-map c.events.now (λ x. Ok x) in
    let read = records_spelled (length c.sites.now) (length c.funcs.now) c.events.now (omega arith) (omega arith) within in
    record {
      header = is;
      limits = limits;
      names = names;
      room = let n = length-spellings c.events.now in omega arith;
      records = rw (f, s, count) read;
    }
