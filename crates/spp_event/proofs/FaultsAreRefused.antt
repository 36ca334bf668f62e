-- What has a fault by the relations is refused by the checks with that fault. So a fault is the only one.
use Rattle.std.proofs.Common.{◌≡◌, ℕ, zero, suc, ◌+◌, ◌-◌, ◌≤◌, ◌<◌, ◌⊎◌, Bool, true, false, eqb, ltb, ◌||◌, List, [], ◌∷◌, ◌++◌, length, get_or, take, drop, Ok, Err, refl, sym, ap, subst, ◌∙◌, append_assoc, arith, inl, inr}
use Rattle.std.specs.Prelude.{Contains}
use Rattle.std.specs.List.{flat_map, list_any, AllByRecursion}
use Rattle.std.specs.Int.{IsInRange}
use Rattle.std.specs.Str.{bytes_eq}
use Rattle.std.proofs.lemmas.Bool.{cases_Bool, cases_lt, cases_eq, lt-ltb, le-ltb, le-leb, eq-eqb, ne_eqb}
use Rattle.std.proofs.lemmas.List.{append-nil, length-drop, length-take, take-append-drop}
use Rattle.std.proofs.lemmas.List.Concat.{flat_map-cons, flat_map-append}
use Rattle.std.proofs.lemmas.Slice.Eq.{bytes_eq-Decides}
use Rattle.spp_event.specs.declared.header.HeaderFault.{HeaderFault}
use Rattle.spp_event.specs.declared.header.HeaderFault.TheVariants.{Short, Magic, Limits, Name, SameName, RootFunc, Trailing, Memory}
use Rattle.spp_event.specs.Recordings.{room, filled}
use Rattle.spp_event.specs.Header.{magic, version_in, name_spelling, root_name, IsName, AreApart, name_len, funcs_in, sites_in, events_in, root_in, IsWithinLimits, HasGoodHead, HasNames, WantsName, EndsInName, HasBadName, IsHeaderFault}
use Rattle.spp_event.specs.Checks.{is_printable, is_taken, are_limits, name_at, funcs_at, sites_at, trace_at}
use Rattle.spp_event.proofs.TakenFromFront.{printable}
use Rattle.spp_event.proofs.TracesPass.{name_again, limits_again, differs, Cross, cross_none, cross_more, is_free}
use Rattle.spp_event.proofs.BehindGoodHead.{Head, opens, trails}
use Rattle.spp_event.proofs.RefusalsAreFaults.{NameFault, within}

-- ---- one name

not_printable : (xs : List ℕ) → (AllByRecursion (IsInRange 32 126) xs → ⊥) → is_printable xs ≡ false
not_printable xs h = elim (cases_Bool (is_printable xs)) [ inl t ↦ absurd (h (printable xs t)) | inr f ↦ f ]

-- a length that is good, and one that is not
good_len : (n : ℕ) → 1 ≤ n → n ≤ 200 → (eqb n 0 || ltb 200 n) ≡ false
good_len n a b = rw (ne_eqb n 0 (λ e. omega arith), le-ltb 200 n b) refl

bad_len : (n : ℕ) → (n ≡ 0) ⊎ (200 < n) → (eqb n 0 || ltb 200 n) ≡ true
bad_len n (inl z) = rw (eq-eqb n 0 z) refl
bad_len n (inr m) = rw (ne_eqb n 0 (λ e. omega arith), lt-ltb 200 n m) refl

ends_in_name : (number : ℕ) (bytes : List ℕ) → EndsInName bytes → name_at number bytes ≡ Err Short
unfolding name_at
ends_in_name number bytes (inl lt) = rw (lt-ltb (length bytes) 2 lt) refl
ends_in_name number bytes (inr h) =
    let a = h.0 in let b = h.1 in let c = h.2 in
    elim (cases_lt (length bytes) 2) [
      | inl lt ↦ rw (lt-ltb (length bytes) 2 lt) refl
      | inr le ↦ rw (le-ltb (length bytes) 2 le, good_len (name_len bytes) a b, lt-ltb (length (drop 2 bytes)) (name_len bytes) (omega (arith, length-drop 2 bytes))) refl
    ]

bad_name_len : (number : ℕ) (bytes : List ℕ) → 2 ≤ length bytes → (name_len bytes ≡ 0) ⊎ (200 < name_len bytes) → name_at number bytes ≡ Err (Name number)
unfolding name_at
bad_name_len number bytes le h = rw (le-ltb (length bytes) 2 le, bad_len (name_len bytes) h) refl

bad_name_byte : (number : ℕ) (bytes : List ℕ) → 2 ≤ length bytes → 1 ≤ name_len bytes → name_len bytes ≤ 200 → 2 + name_len bytes ≤ length bytes → (AllByRecursion (IsInRange 32 126) (take (name_len bytes) (drop 2 bytes)) → ⊥) → name_at number bytes ≡ Err (Name number)
unfolding name_at
bad_name_byte number bytes le a b c h = rw (le-ltb (length bytes) 2 le, good_len (name_len bytes) a b, le-ltb (length (drop 2 bytes)) (name_len bytes) (omega (arith, length-drop 2 bytes)), not_printable (take (name_len bytes) (drop 2 bytes)) h) refl

has_bad_name : (number : ℕ) (bytes : List ℕ) → HasBadName bytes → name_at number bytes ≡ Err (Name number)
has_bad_name number bytes h =
    let le = h.0 in
    elim (cases_lt 200 (name_len bytes)) [
      | inl m ↦ bad_name_len number bytes le (inr m)
      | inr few ↦ elim (cases_eq (name_len bytes) 0) [
        | inl z ↦ bad_name_len number bytes le (inl z)
        | inr some ↦ elim h.1 [
          | inl z ↦ absurd (some z)
          | inr other ↦ elim other [
            | inl m ↦ absurd (omega arith)
            | inr byte ↦ bad_name_byte number bytes le (omega arith) few byte.0 byte.1
          ]
        ]
      ]
    ]

pub name_fails : (number : ℕ) (bytes : List ℕ) (e : HeaderFault) → NameFault number bytes e → name_at number bytes ≡ Err e
name_fails number bytes Short h = ends_in_name number bytes h
name_fails number bytes (Name m) h = has_bad_name number bytes h.1 ∙ ap (λ (k : ℕ). Err (Name k)) (sym h.0)
name_fails number bytes Magic h = absurd h
name_fails number bytes Limits h = absurd h
name_fails number bytes (SameName m) h = absurd h
name_fails number bytes RootFunc h = absurd h
name_fails number bytes Trailing h = absurd h
name_fails number bytes Memory h = absurd h

-- ---- names, one after the other

abbrev Spelled : List (List ℕ) → List ℕ → List ℕ
Spelled names rest = flat_map name_spelling names ++ rest

regrouped : (name : List ℕ) (new : List (List ℕ)) (rest : List ℕ) → Spelled (name ∷ new) rest ≡ name_spelling name ++ Spelled new rest
regrouped name new rest = ap (λ (x : List ℕ). x ++ rest) (flat_map-cons name_spelling name new) ∙ append_assoc (name_spelling name) (flat_map name_spelling new) rest

-- good names pass the checks, and what follows them is looked at next
pub funcs_pass : (new names : List (List ℕ)) (n more : ℕ) (rest : List ℕ) → n ≡ length new + more → AllByRecursion IsName new → funcs_at n names (Spelled new rest) ≡ funcs_at more (names ++ new) rest
unfolding funcs_at
funcs_pass [] names n more rest e h = let same : n ≡ more = omega arith in ap (λ (k : ℕ). funcs_at k names rest) same ∙ ap (λ (x : List (List ℕ)). funcs_at more x rest) (sym (append-nil names))
funcs_pass (name ∷ new) names n more rest e h =
    let m : n ≡ suc (length new + more) = omega arith in
    ap (λ (k : ℕ). funcs_at k names (Spelled (name ∷ new) rest)) m
    ∙ ap (funcs_at (suc (length new + more)) names) (regrouped name new rest)
    ∙ rw (name_again (length names) name (Spelled new rest) h.0)
    (funcs_pass new (names ++ name ∷ []) (length new + more) more rest refl h.1 ∙ ap (λ (x : List (List ℕ)). funcs_at more x rest) (append_assoc names (name ∷ []) new))

pub sites_pass : (new names : List (List ℕ)) (n more first : ℕ) (rest : List ℕ) → n ≡ length new + more → AllByRecursion IsName new → AreApart new → Cross names new → sites_at n first names (Spelled new rest) ≡ sites_at more first (names ++ new) rest
unfolding sites_at
sites_pass [] names n more first rest e h apart c = let same : n ≡ more = omega arith in ap (λ (k : ℕ). sites_at k first names rest) same ∙ ap (λ (x : List (List ℕ)). sites_at more first x rest) (sym (append-nil names))
sites_pass (name ∷ new) names n more first rest e h apart c =
    let m : n ≡ suc (length new + more) = omega arith in
    ap (λ (k : ℕ). sites_at k first names (Spelled (name ∷ new) rest)) m
    ∙ ap (sites_at (suc (length new + more)) first names) (regrouped name new rest)
    ∙ rw (name_again (first + length names) name (Spelled new rest) h.0, is_free names name apart.0 c.0)
    (sites_pass new (names ++ name ∷ []) (length new + more) more first rest refl h.1 apart.2 (cross_more names name new c.1 apart.1) ∙ ap (λ (x : List (List ℕ)). sites_at more first x rest) (append_assoc names (name ∷ []) new))

funcs_stop_at : (names : List (List ℕ)) (more : ℕ) (rest : List ℕ) (e : HeaderFault) → 0 < more → NameFault (length names) rest e → funcs_at more names rest ≡ Err e
unfolding funcs_at
funcs_stop_at names zero rest e pos h = absurd (omega arith)
funcs_stop_at names (suc more) rest e pos h = rw (name_fails (length names) rest e h) refl

sites_stop_at : (names : List (List ℕ)) (more first : ℕ) (rest : List ℕ) (e : HeaderFault) → 0 < more → NameFault (first + length names) rest e → sites_at more first names rest ≡ Err e
unfolding sites_at
sites_stop_at names zero first rest e pos h = absurd (omega arith)
sites_stop_at names (suc more) first rest e pos h = rw (name_fails (first + length names) rest e h) refl

sites_same_at : (names : List (List ℕ)) (name : List ℕ) (more first : ℕ) (rest : List ℕ) → 0 < more → IsName name → is_taken names name ≡ true → sites_at more first names (name_spelling name ++ rest) ≡ Err (SameName (first + length names))
unfolding sites_at
sites_same_at names name zero first rest pos g t = absurd (omega arith)
sites_same_at names name (suc more) first rest pos g t = rw (name_again (first + length names) name rest g, t) refl

-- ---- the whole header

good_head : (bytes : List ℕ) → HasGoodHead bytes → Head bytes (funcs_in bytes) (sites_in bytes) (root_in bytes) (events_in bytes)
good_head bytes h =
    let l = h.limits in
    let n = l.events in
    record {
      long = h.long;
      magic = (bytes_eq-Decides (take 8 bytes) (magic (version_in bytes))).1 h.magic;
      f_is = refl;
      s_is = refl;
      r_is = refl;
      n_is = refl;
      limits = limits_again (funcs_in bytes) (sites_in bytes) (events_in bytes) l.some_func l.funcs l.sites (omega arith);
      root = h.root;
    }

-- names that are as many as the functions, and names of sites behind them
record IsSplit (bytes : List ℕ) (names : List (List ℕ)) (rest : List ℕ) (funcs sites : List (List ℕ)) : Type 0 where
  pub count : length funcs ≡ funcs_in bytes
  pub both : length names ≡ funcs_in bytes + length sites
  pub good_funcs : AllByRecursion IsName funcs
  pub good_sites : AllByRecursion IsName sites
  pub apart : AreApart sites
  pub spelled : drop 24 bytes ≡ Spelled funcs (Spelled sites rest)

all_parts : (xs ys : List (List ℕ)) → AllByRecursion IsName (xs ++ ys) → AllByRecursion IsName xs × AllByRecursion IsName ys
all_parts [] ys h = (tt, h)
all_parts (x ∷ xs) ys h = let p = all_parts xs ys h.1 in ((h.0, p.0), p.1)

split : (bytes : List ℕ) (names : List (List ℕ)) (rest : List ℕ) → HasNames bytes names rest → funcs_in bytes ≤ length names → IsSplit bytes names rest (take (funcs_in bytes) names) (drop (funcs_in bytes) names)
split bytes names rest h le =
    let f = funcs_in bytes in
    let parts : names ≡ take (funcs_in bytes) names ++ drop (funcs_in bytes) names = sym (take-append-drop (funcs_in bytes) names) in
    let good = all_parts (take (funcs_in bytes) names) (drop (funcs_in bytes) names) (subst (λ (x : List (List ℕ)). AllByRecursion IsName x) parts h.good) in
    record {
      count = omega (arith, length-take (funcs_in bytes) names);
      both = omega (arith, length-drop (funcs_in bytes) names);
      good_funcs = good.0;
      good_sites = good.1;
      apart = h.apart;
      spelled = h.spelled
          ∙ ap (λ (x : List (List ℕ)). Spelled x rest) parts
          ∙ ap (λ (x : List ℕ). x ++ rest) (flat_map-append name_spelling (take (funcs_in bytes) names) (drop (funcs_in bytes) names))
          ∙ append_assoc (flat_map name_spelling (take (funcs_in bytes) names)) (flat_map name_spelling (drop (funcs_in bytes) names)) rest;
    }

funcs_read : (bytes : List ℕ) (names : List (List ℕ)) (rest : List ℕ) (funcs sites : List (List ℕ)) → IsSplit bytes names rest funcs sites → funcs_at (funcs_in bytes) [] (drop 24 bytes) ≡ Ok (funcs, Spelled sites rest)
unfolding funcs_at
funcs_read bytes names rest funcs sites s =
    let count = s.count in
    ap (funcs_at (funcs_in bytes) []) s.spelled ∙ funcs_pass funcs [] (funcs_in bytes) 0 (Spelled sites rest) (omega arith) s.good_funcs

sites_from : (bytes : List ℕ) (names : List (List ℕ)) (rest : List ℕ) (funcs sites : List (List ℕ)) (more : ℕ) → IsSplit bytes names rest funcs sites → sites_in bytes ≡ length sites + more → sites_at (sites_in bytes) (funcs_in bytes) [] (Spelled sites rest) ≡ sites_at more (funcs_in bytes) sites rest
sites_from bytes names rest funcs sites more s e = sites_pass sites [] (sites_in bytes) more (funcs_in bytes) rest e s.good_sites s.apart (cross_none sites)

-- the checks of names fail as those of the function names, or as those of the site names
fails_in_funcs : (bytes : List ℕ) (e : HeaderFault) → HasGoodHead bytes → funcs_at (funcs_in bytes) [] (drop 24 bytes) ≡ Err e → trace_at bytes ≡ Err e
fails_in_funcs bytes e h f = opens bytes _ _ _ _ (good_head bytes h) ∙ rw f refl

fails_in_sites : (bytes : List ℕ) (e : HeaderFault) (funcs : List (List ℕ)) (middle : List ℕ) → HasGoodHead bytes → funcs_at (funcs_in bytes) [] (drop 24 bytes) ≡ Ok (funcs, middle) → sites_at (sites_in bytes) (funcs_in bytes) [] middle ≡ Err e → trace_at bytes ≡ Err e
fails_in_sites bytes e funcs middle h f s = opens bytes _ _ _ _ (good_head bytes h) ∙ rw (f, s) refl

name_fault_again : (bytes : List ℕ) (names : List (List ℕ)) (rest : List ℕ) (e : HeaderFault) → HasNames bytes names rest → WantsName bytes names → NameFault (length names) rest e → trace_at bytes ≡ Err e
name_fault_again bytes names rest e h few fault =
    elim (cases_lt (length names) (funcs_in bytes)) [
      | inl lt ↦
          let more = funcs_in bytes - length names in
          fails_in_funcs bytes e h.head
          (ap (funcs_at (funcs_in bytes) []) h.spelled
          ∙ funcs_pass names [] (funcs_in bytes) (funcs_in bytes - length names) rest (omega arith) h.good
          ∙ funcs_stop_at names (funcs_in bytes - length names) rest e (omega arith) fault)
      | inr le ↦
          let q = drop (funcs_in bytes) names in
          let s = split bytes names rest h le in
          let both = s.both in
          fails_in_sites bytes e (take (funcs_in bytes) names) (Spelled (drop (funcs_in bytes) names) rest) h.head
          (funcs_read bytes names rest (take (funcs_in bytes) names) (drop (funcs_in bytes) names) s)
          (sites_from bytes names rest (take (funcs_in bytes) names) (drop (funcs_in bytes) names) (sites_in bytes - length (drop (funcs_in bytes) names)) s (omega arith)
          ∙ sites_stop_at (drop (funcs_in bytes) names) (sites_in bytes - length (drop (funcs_in bytes) names)) (funcs_in bytes) rest e (omega arith) (subst (λ (k : ℕ). NameFault k rest e) both fault))
    ]

or_true : (a b : Bool) → b ≡ true → (a || b) ≡ true
or_true true b e = refl
or_true false b e = e

or_left : (a b : Bool) → a ≡ true → (a || b) ≡ true
or_left true b e = refl
or_left false b e = absurd cc

any_at : (name : List ℕ) (names : List (List ℕ)) (k : ℕ) → k < length names → get_or names k name ≡ name → list_any (λ n. bytes_eq name n) names ≡ true
any_at name [] k lt e = absurd (omega arith)
any_at name (n ∷ names) zero lt e = or_left (bytes_eq name n) (list_any (λ n. bytes_eq name n) names) ((bytes_eq-Decides name n).1 (sym e))
any_at name (n ∷ names) (suc k) lt e = or_true (bytes_eq name n) (list_any (λ n. bytes_eq name n) names) (any_at name names k (omega arith) e)

taken_again : (names : List (List ℕ)) (name : List ℕ) → (name ≡ root_name) ⊎ Contains names name → is_taken names name ≡ true
taken_again names name (inl r) = or_left (bytes_eq name root_name) (list_any (λ n. bytes_eq name n) names) ((bytes_eq-Decides name root_name).1 r)
taken_again names name (inr c) = or_true (bytes_eq name root_name) (list_any (λ n. bytes_eq name n) names) (any_at name names c.0 c.1 c.2)

same_name_again : (bytes : List ℕ) (names : List (List ℕ)) (name rest : List ℕ) → HasNames bytes names (name_spelling name ++ rest) → WantsName bytes names → funcs_in bytes ≤ length names → IsName name → (name ≡ root_name) ⊎ Contains (drop (funcs_in bytes) names) name → trace_at bytes ≡ Err (SameName (length names))
same_name_again bytes names name rest h few le good before =
    let q = drop (funcs_in bytes) names in
    let s = split bytes names (name_spelling name ++ rest) h le in
    let both = s.both in
    fails_in_sites bytes (SameName (length names)) (take (funcs_in bytes) names) (Spelled (drop (funcs_in bytes) names) (name_spelling name ++ rest)) h.head
    (funcs_read bytes names (name_spelling name ++ rest) (take (funcs_in bytes) names) (drop (funcs_in bytes) names) s)
    (sites_from bytes names (name_spelling name ++ rest) (take (funcs_in bytes) names) (drop (funcs_in bytes) names) (sites_in bytes - length (drop (funcs_in bytes) names)) s (omega arith)
    ∙ sites_same_at (drop (funcs_in bytes) names) name (sites_in bytes - length (drop (funcs_in bytes) names)) (funcs_in bytes) rest (omega arith) good (taken_again (drop (funcs_in bytes) names) name before)
    ∙ ap (λ (k : ℕ). Err (SameName k)) (sym both))

trailing_again : (bytes : List ℕ) (names : List (List ℕ)) (rest : List ℕ) → HasNames bytes names rest → length names ≡ funcs_in bytes + sites_in bytes → room (version_in bytes) (events_in bytes) < filled (version_in bytes) rest → trace_at bytes ≡ Err Trailing
unfolding sites_at
trailing_again bytes names rest h all more =
    let p = take (funcs_in bytes) names in
    let q = drop (funcs_in bytes) names in
    let s = split bytes names rest h (omega arith) in
    let both = s.both in
    trails bytes (funcs_in bytes) (sites_in bytes) (root_in bytes) (events_in bytes) (take (funcs_in bytes) names, Spelled (drop (funcs_in bytes) names) rest) (drop (funcs_in bytes) names, rest) (good_head bytes h.head)
    (funcs_read bytes names rest (take (funcs_in bytes) names) (drop (funcs_in bytes) names) s)
    (sites_from bytes names rest (take (funcs_in bytes) names) (drop (funcs_in bytes) names) 0 s (omega arith))
    more

limits_broken : (bytes : List ℕ) → (IsWithinLimits bytes → ⊥) → are_limits (funcs_in bytes) (sites_in bytes) (events_in bytes) ≡ false
limits_broken bytes h = elim (cases_Bool (are_limits (funcs_in bytes) (sites_in bytes) (events_in bytes))) [ inl t ↦ absurd (h (within bytes t)) | inr f ↦ f ]

limits_kept : (bytes : List ℕ) → IsWithinLimits bytes → are_limits (funcs_in bytes) (sites_in bytes) (events_in bytes) ≡ true
limits_kept bytes l = let n = l.events in limits_again (funcs_in bytes) (sites_in bytes) (events_in bytes) l.some_func l.funcs l.sites (omega arith)

-- bytes with a fault are refused with it
pub fault_again : (bytes : List ℕ) (e : HeaderFault) → IsHeaderFault bytes e → trace_at bytes ≡ Err e
unfolding trace_at
fault_again bytes Short (inl lt) = rw (lt-ltb (length bytes) 24 lt) refl
fault_again bytes Short (inr h) = name_fault_again bytes h.0 h.1 Short h.2 h.3 h.4
fault_again bytes Magic h = rw (le-ltb (length bytes) 24 h.0, differs (take 8 bytes) (magic (version_in bytes)) h.1) refl
fault_again bytes Limits h = let same = (bytes_eq-Decides (take 8 bytes) (magic (version_in bytes))).1 h.1 in rw (le-ltb (length bytes) 24 h.0, same, limits_broken bytes h.2) refl
fault_again bytes RootFunc h = let same = (bytes_eq-Decides (take 8 bytes) (magic (version_in bytes))).1 h.1 in rw (le-ltb (length bytes) 24 h.0, same, limits_kept bytes h.2, le-leb (funcs_in bytes) (root_in bytes) h.3) refl
fault_again bytes (Name number) h = name_fault_again bytes h.0 h.1 (Name number) h.2 h.3 (h.4, h.5)
fault_again bytes (SameName number) h =
    let same = h.5 in
    same_name_again bytes h.0 h.1 h.2 h.3 h.4 (subst (λ (k : ℕ). funcs_in bytes ≤ k) h.5 h.6) h.7 h.8 ∙ ap (λ (k : ℕ). Err (SameName k)) (sym h.5)
fault_again bytes Trailing h = trailing_again bytes h.0 h.1 h.2 h.3 h.4
fault_again bytes Memory h = absurd h
