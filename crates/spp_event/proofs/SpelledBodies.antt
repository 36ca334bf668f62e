-- The body of a trace whose records are all events is the spellings of these, and nothing else.
use Rattle.std.proofs.Common.{◌≡◌, ℕ, zero, suc, ◌+◌, ◌*◌, ◌≤◌, ◌<◌, List, [], ◌∷◌, ◌++◌, length, get_or, take, drop, Ok, Err, refl, sym, ap, ap₂, subst, ◌∙◌, arith, inl, inr}
use Rattle.std.specs.List.{flat_map}
use Rattle.std.proofs.Math.Seq.{drop-append_seam}
use Rattle.std.proofs.lemmas.Bool.{cases_lt}
use Rattle.std.proofs.lemmas.List.{length-map, get_or-map, get_or-take, get_or-drop, get_or_past, length-take, length-drop, take-append-drop, nil_from_length}
use Rattle.spp_event.specs.declared.records.Event.{Event}
use Rattle.spp_event.specs.declared.records.Event.TheVariants.{Ret}
use Rattle.spp_event.specs.declared.records.EventFault.TheVariants.{Truncated}
use Rattle.spp_event.specs.Records.{spelling, read_record}
use Rattle.spp_event.specs.declared.version.Version.{Version}
use Rattle.spp_event.specs.declared.version.Version.TheVariants.{One, Two}
use Rattle.spp_event.specs.Recordings.{Record, Recording, place, read_at, spelling_in, room, filled}
use Rattle.spp_event.specs.Header.{header_spelling}
use Rattle.spp_event.specs.Laws.{TraceIsSpelled, BytesAreOne}
use Rattle.spp_event.proofs.ItemBodies.{body_of_items}
use Rattle.spp_event.proofs.SpelledAndRead.{read_is_spelled}
use Rattle.spp_event.proofs.RecordPlaces.{record_at-records_of}

abbrev AreBytes : List ℕ → Type 0
AreBytes r = (i : ℕ) → get_or r i 0 < 256

taken_bytes : (n : ℕ) (r : List ℕ) → AreBytes r → AreBytes (take n r)
taken_bytes n r h i = elim (cases_lt i n) [
  | inl l ↦ subst (λ (b : ℕ). b < 256) (sym (get_or-take n r i 0 l)) (h i)
  | inr l ↦ subst (λ (b : ℕ). b < 256) (sym (get_or_past (take n r) i 0 (let z = length-take n r in omega arith))) (omega arith)
]

dropped_bytes : (n : ℕ) (r : List ℕ) → AreBytes r → AreBytes (drop n r)
dropped_bytes n r h i = subst (λ (b : ℕ). b < 256) (sym (get_or-drop n r i 0)) (h (n + i))

none_dropped : (n : ℕ) → drop {A = ℕ} n [] ≡ []
none_dropped zero = refl
none_dropped (suc n) = refl

dropped : (n m k : ℕ) (xs : List ℕ) → k ≡ n + m → drop m (drop n xs) ≡ drop k xs
dropped zero m k xs e = ap (λ (j : ℕ). drop j xs) (let z : m ≡ k = omega arith in z)
dropped (suc n) m k [] e = none_dropped m ∙ sym (none_dropped k)
dropped (suc n) m zero (x ∷ xs) e = absurd (omega arith)
dropped (suc n) m (suc k) (x ∷ xs) e = dropped n m k xs (omega arith)

-- what is left behind a place has the places behind it
next_place : (body : List ℕ) (i : ℕ) → place (drop 16 body) i ≡ place body (suc i)
next_place body i = ap (take 16) (dropped 16 (i * 16) (suc i * 16) body (omega arith))

body_spelled : (sites funcs : ℕ) (es : List Event) (body : List ℕ) → AreBytes body → length body ≤ 16 * length es
    → ((i : ℕ) → i < length es → read_record sites funcs (place body i) ≡ Ok (get_or es i Ret)) → body ≡ flat_map spelling es
body_spelled sites funcs [] body bytes few read = nil_from_length body (omega arith)
body_spelled sites funcs (e ∷ es) body bytes few read =
    let first = (read_is_spelled sites funcs (take 16 body) e (let z = length-take 16 body in omega arith) (taken_bytes 16 body bytes) (read 0 (omega arith))).0 in
    let rest = body_spelled sites funcs es (drop 16 body) (dropped_bytes 16 body bytes) (let z = length-drop 16 body in omega arith)
    (λ i l. ap (λ (r : List ℕ). read_record sites funcs r) (next_place body i) ∙ read (suc i) (omega arith)) in
    sym (take-append-drop 16 body) ∙ ap₂ (λ (a b : List ℕ). a ++ b) first rest

-- the body of a trace in either version
body_in : (v : Version) (sites funcs : ℕ) (es : List Event) (body : List ℕ) → AreBytes body → filled v body ≤ room v (length es)
    → ((i : ℕ) → i < length es → read_at v sites funcs body i ≡ Ok (get_or es i Ret)) → body ≡ flat_map (spelling_in v) es
body_in One sites funcs es body bytes few read = body_spelled sites funcs es body bytes few read
body_in Two sites funcs es body bytes few read = body_of_items sites funcs body es few read

pub trace_is_spelled : TraceIsSpelled
trace_is_spelled bytes t es are is good =
    let n : length t.records ≡ length es = ap (λ l. length l) good ∙ length-map es (λ e. Ok e) in
    let within : AreBytes (header_spelling t ++ t.body) = subst AreBytes is.header are in
    is.header ∙ ap (λ (b : List ℕ). header_spelling t ++ b)
    (body_in t.version (length t.sites) (length t.funcs) es t.body (subst AreBytes (drop-append_seam (header_spelling t) t.body) (dropped_bytes (length (header_spelling t)) (header_spelling t ++ t.body) within)) (subst (λ (k : ℕ). filled t.version t.body ≤ room t.version k) n is.room)
    (λ i l.
    sym (record_at-records_of t.version (length t.sites) (length t.funcs) (length t.records) t.body i (omega arith))
    ∙ ap (λ l. get_or l i (Err Truncated)) (sym is.records ∙ good)
    ∙ get_or-map (λ e. Ok e) es i Ret (Err Truncated) l))

-- the same header, by its parts
same_header : (t u : Recording) → t.funcs ≡ u.funcs → t.sites ≡ u.sites → t.root ≡ u.root → t.version ≡ u.version → u.records ≡ t.records → header_spelling t ≡ header_spelling u
same_header t u f s r v rs =
    ap (λ (x : Version). header_spelling (record t { version = x })) v
    ∙ ap (λ (x : List (List ℕ)). header_spelling (record t { version = u.version; funcs = x })) f
    ∙ ap (λ (x : List (List ℕ)). header_spelling (record t { version = u.version; funcs = u.funcs; sites = x })) s
    ∙ ap (λ (x : ℕ). header_spelling (record t { version = u.version; funcs = u.funcs; sites = u.sites; root = x })) r
    ∙ ap (λ (x : List Record). header_spelling (record u { records = x })) (sym rs)

pub bytes_are_one : BytesAreOne
bytes_are_one a b t u es are_a are_b is_a is_b f s r v good rs =
    trace_is_spelled a t es are_a is_a good
    ∙ ap₂ (λ (x y : List ℕ). x ++ y) (same_header t u f s r v rs) (ap (λ (x : Version). flat_map (spelling_in x) es) v)
    ∙ sym (trace_is_spelled b u es are_b is_b (rs ∙ good))
