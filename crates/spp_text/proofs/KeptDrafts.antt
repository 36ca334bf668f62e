-- A draft stays kept as names and events come in, and what it says is then of a trace.
use Rattle.std.proofs.Common.{◌≡◌, ℕ, ◌<◌, Bool, true, false, not, cond, eqb, ltb, leb, Some, None, Ok, List, [], ◌∷◌, ◌++◌, length, take, drop, refl, sym, ap, ◌∙◌, arith, length-append, append-nil, ◌+◌, ◌≤◌}
use Rattle.std.specs.Prelude.{unwrap_or}
use Rattle.std.specs.List.{flat_map, AllByRecursion}
use Rattle.std.specs.Str.{bytes_eq}
use Rattle.std.specs.BTreeSet.{BTreeSet}
use Rattle.std.proofs.lemmas.Bool.{ltb-true, ltb-false, leb-false}
use Rattle.std.proofs.lemmas.List.{length-map, flat_map_more}
use Rattle.std.proofs.lemmas.Slice.Eq.{bytes_eq-Decides}
use Rattle.spp_event.specs.declared.records.Event.{Event}
use Rattle.spp_event.specs.NameSets.{has}
use Rattle.spp_event.specs.Header.{IsName, IsTraceOf, root_name, header_spelling}
use Rattle.spp_event.specs.Records.{IsEvent, IsEventOf, names_site, names_func, spelling, word}
use Rattle.spp_event.specs.Recordings.{InLimits}
use Rattle.spp_event.specs.Checks.{is_name}
use Rattle.spp_event.proofs.GoodNames.{is_name_decides}
use Rattle.spp_event.proofs.KnownRecords.{known_within}
use Rattle.spp_event.proofs.TakenFromFront.{all_more, apart_more}
use Rattle.spp_event.proofs.NamesInTurn.{has_more}
use Rattle.spp_event.proofs.WrittenBytes.{length-spellings, records_spelled}
use Rattle.spp_text.specs.declared.fault.TextWhy.TheVariants.{Root, NoFunc}
use Rattle.spp_text.specs.Reading.{Said, opening_fault}
use Rattle.spp_text.specs.Parsed.{recording_of}
use Rattle.spp_text.specs.Drafts.{IsKept, begun, last_events}
use Rattle.spp_text.proofs.LastRecords.{last_more, length-last_events, none_last}
use denote.Ref.{Bor}

-- no event is there yet
none_there : (P : Event → Type 0) (es : List Event) → ltb 0 (length es) ≡ false → AllByRecursion P es
none_there P [] e = tt
none_there P (x ∷ xs) e = let le = ltb-false 0 (length (x ∷ xs)) e in absurd (omega arith)

pub kept_func : (set : BTreeSet (Bor (List ℕ))) (funcs sites : List (List ℕ)) (root : ℕ) (events : List Event) (bytes name : List ℕ) → IsKept set funcs sites root events bytes → ltb 0 (length events) ≡ false → length funcs < 65536 → is_name name ≡ true → IsKept set (funcs ++ name ∷ []) sites root events bytes
kept_func set funcs sites root events bytes name k none room e = record {
  few_funcs = rw length-append (omega arith);
  few_sites = k.few_sites;
  few_events = k.few_events;
  in_set = k.in_set;
  func_names = all_more IsName funcs name k.func_names ((is_name_decides name).0 e);
  site_names = k.site_names;
  apart = k.apart;
  opened = λ some. let none_yet = ltb-false 0 (length events) none in absurd (omega arith);
  within = none_there (IsEventOf (length sites) (length (funcs ++ name ∷ []))) events none;
  written = λ some. let none_yet = ltb-false 0 (length events) none in absurd (omega arith);
}

-- a name that the set had already changes no answer of the set
pub kept_same : (set more : BTreeSet (Bor (List ℕ))) (funcs sites : List (List ℕ)) (root : ℕ) (events : List Event) (bytes name : List ℕ) (fresh : Bool) → IsKept set funcs sites root events bytes → fresh ≡ not (has set name) → fresh ≡ false → ((q : List ℕ) → has more q ≡ cond (bytes_eq name q) true (has set q)) → IsKept more funcs sites root events bytes
kept_same set more funcs sites root events bytes name fresh k new old is = record {
  few_funcs = k.few_funcs;
  few_sites = k.few_sites;
  few_events = k.few_events;
  in_set = λ q. is q ∙ same q (bytes_eq name q) refl ∙ k.in_set q;
  func_names = k.func_names;
  site_names = k.site_names;
  apart = k.apart;
  opened = k.opened;
  within = k.within;
  written = k.written;
}
  where
    known : (b : Bool) → fresh ≡ not b → b ≡ true
    known true e = refl
    known false e = let both : true ≡ false = sym e ∙ old in absurd cc

    same : (q : List ℕ) (b : Bool) → bytes_eq name q ≡ b → cond b true (has set q) ≡ has set q
    same q false e = refl
    same q true e = let one : name ≡ q = (bytes_eq-Decides name q).0 e in sym (known (has set name) new) ∙ ap (λ (n : List ℕ). has set n) one

pub kept_site : (set more : BTreeSet (Bor (List ℕ))) (funcs sites : List (List ℕ)) (root : ℕ) (events : List Event) (bytes name : List ℕ) (fresh : Bool) → IsKept set funcs sites root events bytes → ltb 0 (length events) ≡ false → length sites < 65536 → is_name name ≡ true → bytes_eq name root_name ≡ false → fresh ≡ not (has set name) → fresh ≡ true → ((q : List ℕ) → has more q ≡ cond (bytes_eq name q) true (has set q)) → IsKept more funcs (sites ++ name ∷ []) root events bytes
kept_site set more funcs sites root events bytes name fresh k none room e not_root new is_new is = record {
  few_funcs = k.few_funcs;
  few_sites = rw length-append (omega arith);
  few_events = k.few_events;
  in_set = λ q. has_more [] q name sites (has more q) (has set q) (is q) (k.in_set q);
  func_names = k.func_names;
  site_names = all_more IsName sites name k.site_names ((is_name_decides name).0 e);
  apart = apart_more sites name k.apart not_root (sym (k.in_set name) ∙ unknown (has set name) new);
  opened = λ some. let none_yet = ltb-false 0 (length events) none in absurd (omega arith);
  within = none_there (IsEventOf (length (sites ++ name ∷ [])) (length funcs)) events none;
  written = λ some. let none_yet = ltb-false 0 (length events) none in absurd (omega arith);
}
  where
    unknown : (b : Bool) → fresh ≡ not b → b ≡ false
    unknown false e = refl
    unknown true e = let both : true ≡ false = sym is_new ∙ e in absurd cc

-- where nothing is missing, the root function is one of the functions
pub is_opened : (s : Said) → (0 < length s.events → unwrap_or s.root 0 < length s.funcs) → opening_fault s ≡ None → unwrap_or s.root 0 < length s.funcs
unfolding opening_fault
is_opened s before e = by_event (ltb 0 (length s.events)) refl
  where
    by_root : (b : Bool) → leb (length s.funcs) (unwrap_or s.root 0) ≡ b → cond b (Some Root) None ≡ None → unwrap_or s.root 0 < length s.funcs
    by_root true h n = absurd cc
    by_root false h n = leb-false (length s.funcs) (unwrap_or s.root 0) h

    by_func : (b : Bool) → cond b (Some NoFunc) (cond (leb (length s.funcs) (unwrap_or s.root 0)) (Some Root) None) ≡ None → unwrap_or s.root 0 < length s.funcs
    by_func true n = absurd cc
    by_func false n = by_root (leb (length s.funcs) (unwrap_or s.root 0)) refl n

    by_event : (b : Bool) → ltb 0 (length s.events) ≡ b → unwrap_or s.root 0 < length s.funcs
    by_event true h = before (ltb-true 0 (length s.events) h)
    by_event false h = by_func (eqb (length s.funcs) 0) (rw h at e)

-- front is what stands before the record of the event
pub kept_event : (set : BTreeSet (Bor (List ℕ))) (funcs sites : List (List ℕ)) (root : ℕ) (events : List Event) (bytes front : List ℕ) (e : Event) → IsKept set funcs sites root events bytes → root < length funcs → length events < 268435456 → IsEvent e → names_site (length sites) e ≡ true → names_func (length funcs) e ≡ true
    → front ≡ header_spelling (begun funcs sites root) ++ flat_map spelling events → IsKept set funcs sites root (events ++ e ∷ []) (front ++ spelling e)
kept_event set funcs sites root events bytes front e k opened room fits s f is = record {
  few_funcs = k.few_funcs;
  few_sites = k.few_sites;
  few_events = rw length-append (omega arith);
  in_set = k.in_set;
  func_names = k.func_names;
  site_names = k.site_names;
  apart = k.apart;
  opened = λ some. opened;
  within = all_more (IsEventOf (length sites) (length funcs)) events e k.within (known_within (length sites) (length funcs) e s f fits);
  written = λ some. ap (λ (t : List ℕ). t ++ spelling e) is ∙ flat_map_more spelling (header_spelling (begun funcs sites root)) events e;
}

-- a kept draft in which nothing is missing is of a trace within its limits
pub in_limits : (set : BTreeSet (Bor (List ℕ))) (s : Said) (bytes : List ℕ) → IsKept set s.funcs s.sites (unwrap_or s.root 0) s.events bytes → opening_fault s ≡ None → InLimits (recording_of s)
in_limits set s bytes k e =
    let few = k.few_events in
    let root = is_opened s k.opened e in
    let count : length (recording_of s).records ≡ length s.events = length-map s.events (λ x. Ok x) in
    record { some_func = omega arith; funcs = k.few_funcs; sites = k.few_sites; root = root; events = omega arith }

-- and so are the bytes that count its events
pub is_written : (set : BTreeSet (Bor (List ℕ))) (s : Said) (bytes all : List ℕ) → IsKept set s.funcs s.sites (unwrap_or s.root 0) s.events bytes → opening_fault s ≡ None → all ≡ header_spelling (recording_of s) ++ flat_map spelling s.events → IsTraceOf all (recording_of s)
is_written set s bytes all k e is =
    let few_funcs = k.few_funcs in let few_sites = k.few_sites in
    let count : length (recording_of s).records ≡ length s.events = length-map s.events (λ x. Ok x) in
    let read = records_spelled (length s.sites) (length s.funcs) s.events (omega arith) (omega arith) k.within in
    record {
      header = is;
      limits = in_limits set s bytes k e;
      names = record { func_names = k.func_names; site_names = k.site_names; apart = k.apart };
      room = let n = length-spellings s.events in omega arith;
      records = rw count read;
    }

-- before the first record
pub none_before : (n : ℕ) (header front bytes : List ℕ) → n ≡ 0 → front ≡ header → front ≡ header ++ flat_map spelling (last_events n bytes)
none_before n header front bytes none is = rw (none_last n bytes none) (is ∙ sym (append-nil header))

-- one record more, behind front
pub kept_push : (set : BTreeSet (Bor (List ℕ))) (funcs sites : List (List ℕ)) (root n m : ℕ) (bytes front new : List ℕ) (e : Event) → IsKept set funcs sites root (last_events n bytes) bytes → root < length funcs → n < 268435456 → IsEvent e → names_site (length sites) e ≡ true → names_func (length funcs) e ≡ true
    → front ≡ header_spelling (begun funcs sites root) ++ flat_map spelling (last_events n bytes) → new ≡ front ++ spelling e → m ≡ n + 1
    → (last_events m new ≡ last_events n bytes ++ e ∷ []) × IsKept set funcs sites root (last_events m new) new
kept_push set funcs sites root n m bytes front new e k opened room fits s f is pushed count =
    let more : last_events m new ≡ last_events n bytes ++ e ∷ [] =
    ap (λ (i : ℕ). last_events i new) count
    ∙ ap (last_events (n + 1)) pushed
    ∙ last_more (length sites) (length funcs) n (header_spelling (begun funcs sites root)) front (last_events n bytes) e k.few_sites k.few_funcs k.within fits (length-last_events n bytes) is in
    (more, rw (more, pushed) (kept_event set funcs sites root (last_events n bytes) bytes front e k opened (omega (arith, length-last_events n bytes)) fits s f is))

-- the bytes in which the number of events was written
pub counted_bytes : (s : Said) (n : ℕ) (bytes all : List ℕ) → bytes ≡ header_spelling (begun s.funcs s.sites (unwrap_or s.root 0)) ++ flat_map spelling s.events → n ≡ length s.events → all ≡ take 20 bytes ++ (word n ++ drop 24 bytes) → all ≡ header_spelling (recording_of s) ++ flat_map spelling s.events
counted_bytes s n bytes all is count set =
    let records : n ≡ length (recording_of s).records = count ∙ sym (length-map s.events (λ x. Ok x)) in
    set ∙ ap (λ (b : List ℕ). take 20 b ++ (word n ++ drop 24 b)) is ∙ rw records refl

pub long_bytes : (funcs sites : List (List ℕ)) (root : ℕ) (body bytes : List ℕ) → bytes ≡ header_spelling (begun funcs sites root) ++ body → 24 ≤ length bytes
long_bytes funcs sites root body bytes is = let long = ap length is in omega arith

-- a trace without events
pub head_only : (s : Said) (all : List ℕ) → s.events ≡ [] → all ≡ header_spelling (begun s.funcs s.sites (unwrap_or s.root 0)) → all ≡ header_spelling (recording_of s) ++ flat_map spelling s.events
head_only s all none is = rw none (is ∙ sym (append-nil (header_spelling (begun s.funcs s.sites (unwrap_or s.root 0)))))
