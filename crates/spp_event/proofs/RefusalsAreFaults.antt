-- What the checks refuse has the fault that they name, and all that stands before it is good.
use Rattle.std.proofs.Common.{◌≡◌, ℕ, zero, suc, ◌+◌, ◌≤◌, ◌<◌, ◌⊎◌, Bool, true, false, cond, eqb, ltb, leb, ◌||◌, not, List, [], ◌∷◌, ◌++◌, length, take, drop, Result, Ok, Err, refl, sym, ap, subst, ◌∙◌, append_assoc, arith, inl, inr}
use Rattle.std.specs.Prelude.{Contains}
use Rattle.std.specs.List.{flat_map, list_any, AllByRecursion}
use Rattle.std.specs.Str.{bytes_eq}
use Rattle.std.proofs.lemmas.Bool.{ltb-true, ltb-false, leb-true, leb-false, eqb-true, eqb-false, not-false, or_parts}
use Rattle.std.proofs.lemmas.List.{append-nil, length-drop, length-append, drop_at}
use Rattle.std.proofs.lemmas.List.Concat.{flat_map-cons, flat_map-append}
use Rattle.std.proofs.lemmas.Map.Views.{Contains-from_any}
use Rattle.std.proofs.lemmas.Slice.Eq.{bytes_eq-Decides}
use Rattle.std.proofs.Math.ListN.{drop_of_length-le}
use Rattle.spp_event.specs.declared.header.HeaderFault.{HeaderFault}
use Rattle.spp_event.specs.declared.header.HeaderFault.TheVariants.{Short, Magic, Limits, Name, SameName, RootFunc, Trailing, Memory}
use Rattle.spp_event.specs.Records.{word_at}
use Rattle.spp_event.specs.Recordings.{Recording, room, filled}
use Rattle.spp_event.specs.Header.{magic, version_in, name_spelling, root_name, IsName, AreApart, name_len, funcs_in, sites_in, events_in, root_in, IsWithinLimits, HasGoodHead, HasNames, WantsName, EndsInName, HasBadName, IsHeaderFault}
use Rattle.spp_event.specs.Checks.{trace_by, ◌>>=◌, is_printable, is_taken, are_limits, name_at, funcs_at, sites_at, trace_at}
use Rattle.spp_event.proofs.TakenFromFront.{IsBytes, IsBytes-drop, Takes, Takes-then, name_takes, apart_more, differ, funcs_take, sites_take}
use Rattle.spp_event.proofs.TracesPass.{printable_again, limits_again}
use Rattle.spp_event.proofs.PassersAreTraces.{limited}

-- ---- steps that fail

abbrev failed : {A : Type 0} → HeaderFault → Result A HeaderFault
failed e = Err e

err_is : {A : Type 0} (d e : HeaderFault) → failed {A = A} d ≡ failed e → d ≡ e
err_is d e h = cc

bind_err : {A B : Type 0} (r : Result A HeaderFault) (f : A → Result B HeaderFault) (e : HeaderFault) → (r >>= f) ≡ Err e → (r ≡ Err e) ⊎ ((x : A) × (r ≡ Ok x) × (f x ≡ Err e))
bind_err (Ok x) f e h = inr (x, refl, h)
bind_err (Err d) f e h = inl (ap failed (err_is d e h))

guard_err : {A : Type 0} (b : Bool) (d : HeaderFault) (x : Result A HeaderFault) (e : HeaderFault) → cond b (Err d) x ≡ Err e → ((b ≡ true) × (d ≡ e)) ⊎ ((b ≡ false) × (x ≡ Err e))
guard_err true d x e h = inl (refl, err_is d e h)
guard_err false d x e h = inr (refl, h)

else_err : {A : Type 0} (b : Bool) (d : HeaderFault) (x : Result A HeaderFault) (e : HeaderFault) → cond b x (Err d) ≡ Err e → ((b ≡ false) × (d ≡ e)) ⊎ ((b ≡ true) × (x ≡ Err e))
else_err true d x e h = inr (refl, h)
else_err false d x e h = inl (refl, err_is d e h)

one_of : (a b : Bool) → (a || b) ≡ true → (a ≡ true) ⊎ (b ≡ true)
one_of true b e = inl refl
one_of false b e = inr e

no_ok : {A : Type 0} {P : Type 0} (x : A) (e : HeaderFault) → Ok x ≡ failed e → P
no_ok x e h = absurd cc

-- ---- one name

-- the fault of a name of that number, at the front of these bytes
abbrev pub NameFault : ℕ → List ℕ → HeaderFault → Type 0
NameFault number bytes Short = EndsInName bytes
NameFault number bytes (Name m) = (m ≡ number) × HasBadName bytes
NameFault number bytes Magic = ⊥
NameFault number bytes Limits = ⊥
NameFault number bytes (SameName m) = ⊥
NameFault number bytes RootFunc = ⊥
NameFault number bytes Trailing = ⊥
NameFault number bytes Memory = ⊥

pub name_refused : (number : ℕ) (bytes : List ℕ) (e : HeaderFault) → name_at number bytes ≡ Err e → NameFault number bytes e
unfolding name_at
name_refused number bytes e h =
    elim (guard_err (ltb (length bytes) 2) Short _ e h) [
      | inl a ↦ subst (λ (f : HeaderFault). NameFault number bytes f) a.1 (inl (ltb-true (length bytes) 2 a.0))
      | inr a ↦
          let long : 2 ≤ length bytes = ltb-false (length bytes) 2 a.0 in
          elim (guard_err (eqb (name_len bytes) 0 || ltb 200 (name_len bytes)) (Name number) _ e a.1) [
            | inl b ↦ subst (λ (f : HeaderFault). NameFault number bytes f) b.1 (refl, (long, elim (one_of (eqb (name_len bytes) 0) (ltb 200 (name_len bytes)) b.0) [ inl z ↦ inl (eqb-true (name_len bytes) 0 z) | inr m ↦ inr (inl (ltb-true 200 (name_len bytes) m)) ]))
            | inr b ↦
                let parts = or_parts (eqb (name_len bytes) 0) (ltb 200 (name_len bytes)) b.0 in
                let pos : name_len bytes ≡ 0 → ⊥ = eqb-false (name_len bytes) 0 parts.0 in
                let most : name_len bytes ≤ 200 = ltb-false 200 (name_len bytes) parts.1 in
                elim (guard_err (ltb (length (drop 2 bytes)) (name_len bytes)) Short _ e b.1) [
                  | inl c ↦ let lt = ltb-true (length (drop 2 bytes)) (name_len bytes) c.0 in subst (λ (f : HeaderFault). NameFault number bytes f) c.1 (inr (omega arith, most, omega (arith, length-drop 2 bytes)))
                  | inr c ↦
                      let le = ltb-false (length (drop 2 bytes)) (name_len bytes) c.0 in
                      elim (else_err (is_printable (take (name_len bytes) (drop 2 bytes))) (Name number) _ e c.1) [
                        | inl d ↦ subst (λ (f : HeaderFault). NameFault number bytes f) d.1 (refl, (long, inr (inr (omega (arith, length-drop 2 bytes), λ all. not_both (is_printable (take (name_len bytes) (drop 2 bytes))) (printable_again (take (name_len bytes) (drop 2 bytes)) all) d.0))))
                        | inr d ↦ no_ok _ e d.1
                      ]
                ]
          ]
    ]
  where
    not_both : (b : Bool) → b ≡ true → b ≡ false → ⊥
    not_both b t f = let both : true ≡ false = sym t ∙ f in absurd cc

-- ---- names, one after the other

-- the names that were read, fewer than n, and the fault of what follows them
pub record Stops (first n : ℕ) (bytes : List ℕ) (e : HeaderFault) : Type 0 where
  pub new : List (List ℕ)
  pub rest : List ℕ
  pub few : length new < n
  pub good : AllByRecursion IsName new
  pub taken : Takes bytes (flat_map name_spelling new) rest
  pub fault : NameFault (first + length new) rest e

abbrev stops_here : (first n : ℕ) (bytes : List ℕ) (e : HeaderFault) → IsBytes bytes → NameFault first bytes e → Stops first (suc n) bytes e
stops_here first n bytes e fits h = record { new = []; rest = bytes; few = omega arith; good = tt; taken = record { parts = refl; rest_fits = fits }; fault = subst (λ (k : ℕ). NameFault k bytes e) (omega arith) h }

abbrev stops_later : (first n : ℕ) (bytes name rest : List ℕ) (e : HeaderFault) → Takes bytes (name_spelling name) rest → IsName name → Stops (suc first) n rest e → Stops first (suc n) bytes e
stops_later first n bytes name rest e t g s = let few = s.few in record {
  new = name ∷ s.new;
  rest = s.rest;
  few = omega arith;
  good = (g, s.good);
  taken = rw flat_map-cons (Takes-then bytes (name_spelling name) rest (flat_map name_spelling s.new) s.rest t s.taken);
  fault = subst (λ (k : ℕ). NameFault k s.rest e) (omega arith) s.fault;
}

pub funcs_refused : (n : ℕ) (names : List (List ℕ)) (bytes : List ℕ) (e : HeaderFault) → IsBytes bytes → funcs_at n names bytes ≡ Err e → Stops (length names) n bytes e
unfolding funcs_at
funcs_refused zero names bytes e fits h = no_ok _ e h
funcs_refused (suc n) names bytes e fits h =
    elim (bind_err (name_at (length names) bytes) (λ name. funcs_at n (names ++ name.0 ∷ []) name.1) e h) [
      | inl a ↦ stops_here (length names) n bytes e fits (name_refused (length names) bytes e a)
      | inr a ↦
          let t = name_takes (length names) bytes a.0 fits a.1 in
          let s = funcs_refused n (names ++ a.0.0 ∷ []) a.0.1 e t.0.rest_fits a.2 in
          stops_later (length names) n bytes a.0.0 a.0.1 e t.0 t.1 (subst (λ (k : ℕ). Stops k n a.0.1 e) (omega (arith, length-append names (a.0.0 ∷ []))) s)
    ]

-- a site whose name is taken, behind the names that were read
pub record Repeats (names : List (List ℕ)) (first n : ℕ) (bytes : List ℕ) (e : HeaderFault) : Type 0 where
  pub new : List (List ℕ)
  pub name : List ℕ
  pub rest : List ℕ
  pub few : length new < n
  pub good : AllByRecursion IsName new
  pub apart : AreApart (names ++ new)
  pub taken : Takes bytes (flat_map name_spelling new) (name_spelling name ++ rest)
  pub is_name : IsName name
  pub before : (name ≡ root_name) ⊎ Contains (names ++ new) name
  pub fault : e ≡ SameName (first + length new)

-- names that stop where one is bad, told apart as far as they were read
abbrev pub StopsApart : List (List ℕ) → ℕ → ℕ → List ℕ → HeaderFault → Type 0
StopsApart names first n bytes e = (s : Stops first n bytes e) × AreApart (names ++ s.new)

is_taken_before : (names : List (List ℕ)) (name : List ℕ) → is_taken names name ≡ true → (name ≡ root_name) ⊎ Contains names name
is_taken_before names name e = elim (one_of (bytes_eq name root_name) (list_any (λ n. bytes_eq name n) names) e) [
  | inl r ↦ inl ((bytes_eq-Decides name root_name).0 r)
  | inr a ↦ inr (Contains-from_any (λ x y h. (bytes_eq-Decides x y).0 h) name names a)
]

repeats_here : (names : List (List ℕ)) (first n : ℕ) (bytes name rest : List ℕ) (e : HeaderFault) → IsBytes bytes → AreApart names → Takes bytes (name_spelling name) rest → IsName name → is_taken names name ≡ true → SameName first ≡ e → Repeats names first (suc n) bytes e
repeats_here names first n bytes name rest e fits apart t g taken h = record {
  new = [];
  name = name;
  rest = rest;
  few = omega arith;
  good = tt;
  apart = subst (λ (x : List (List ℕ)). AreApart x) (sym (append-nil names)) apart;
  taken = record { parts = t.parts; rest_fits = subst (λ (x : List ℕ). IsBytes x) t.parts fits };
  is_name = g;
  before = subst (λ (x : List (List ℕ)). (name ≡ root_name) ⊎ Contains x name) (sym (append-nil names)) (is_taken_before names name taken);
  fault = sym h ∙ ap SameName (omega arith);
}

repeats_later : (names : List (List ℕ)) (first n : ℕ) (bytes name rest : List ℕ) (e : HeaderFault) → Takes bytes (name_spelling name) rest → IsName name → Repeats (names ++ name ∷ []) (suc first) n rest e → Repeats names first (suc n) bytes e
repeats_later names first n bytes name rest e t g s =
    let few = s.few in
    let same : (names ++ name ∷ []) ++ s.new ≡ names ++ name ∷ s.new = append_assoc names (name ∷ []) s.new in
    record {
      new = name ∷ s.new;
      name = s.name;
      rest = s.rest;
      few = omega arith;
      good = (g, s.good);
      apart = subst (λ (x : List (List ℕ)). AreApart x) same s.apart;
      taken = rw flat_map-cons (Takes-then bytes (name_spelling name) rest (flat_map name_spelling s.new) (name_spelling s.name ++ s.rest) t s.taken);
      is_name = s.is_name;
      before = subst (λ (x : List (List ℕ)). (s.name ≡ root_name) ⊎ Contains x s.name) same s.before;
      fault = s.fault ∙ ap SameName (omega arith);
    }

pub sites_refused : (n first : ℕ) (names : List (List ℕ)) (bytes : List ℕ) (e : HeaderFault) → IsBytes bytes → AreApart names → sites_at n first names bytes ≡ Err e → StopsApart names (first + length names) n bytes e ⊎ Repeats names (first + length names) n bytes e
unfolding sites_at
sites_refused zero first names bytes e fits apart h = no_ok _ e h
sites_refused (suc n) first names bytes e fits apart h =
    elim (bind_err (name_at (first + length names) bytes) (λ name. cond (is_taken names name.0) (Err (SameName (first + length names))) (sites_at n first (names ++ name.0 ∷ []) name.1)) e h) [
      | inl a ↦ inl (stops_here (first + length names) n bytes e fits (name_refused (first + length names) bytes e a), subst (λ (x : List (List ℕ)). AreApart x) (sym (append-nil names)) apart)
      | inr a ↦
          let t = name_takes (first + length names) bytes a.0 fits a.1 in
          elim (guard_err (is_taken names a.0.0) (SameName (first + length names)) (sites_at n first (names ++ a.0.0 ∷ []) a.0.1) e a.2) [
            | inl b ↦ inr (repeats_here names (first + length names) n bytes a.0.0 a.0.1 e fits apart t.0 t.1 b.0 b.1)
            | inr b ↦
                let free = or_parts (bytes_eq a.0.0 root_name) (list_any (λ n. bytes_eq a.0.0 n) names) b.0 in
                let one : first + length (names ++ a.0.0 ∷ []) ≡ suc (first + length names) = omega (arith, length-append names (a.0.0 ∷ [])) in
                elim (sites_refused n first (names ++ a.0.0 ∷ []) a.0.1 e t.0.rest_fits (apart_more names a.0.0 apart free.0 free.1) b.1) [
                  | inl s ↦
                      let s' = subst (λ (k : ℕ). StopsApart (names ++ a.0.0 ∷ []) k n a.0.1 e) one s in
                      inl (stops_later (first + length names) n bytes a.0.0 a.0.1 e t.0 t.1 s'.0, subst (λ (x : List (List ℕ)). AreApart x) (append_assoc names (a.0.0 ∷ []) s'.0.new) s'.1)
                  | inr s ↦ inr (repeats_later names (first + length names) n bytes a.0.0 a.0.1 e t.0 t.1 (subst (λ (k : ℕ). Repeats (names ++ a.0.0 ∷ []) k n a.0.1 e) one s))
                ]
          ]
    ]

-- ---- the whole header

nothing_left : (names : List (List ℕ)) (n : ℕ) → length names ≤ n → AreApart (drop n names)
nothing_left names n le = subst (λ (x : List (List ℕ)). AreApart x) (sym (drop_of_length-le names le)) tt

-- the fault of a name is one of the header's
of_name : (bytes : List ℕ) (names : List (List ℕ)) (rest : List ℕ) (e : HeaderFault) → HasNames bytes names rest → WantsName bytes names → NameFault (length names) rest e → IsHeaderFault bytes e
of_name bytes names rest Short has few h = inr (names, rest, has, few, h)
of_name bytes names rest (Name number) has few h = (names, rest, has, few, h.0, h.1)
of_name bytes names rest Magic has few h = absurd h
of_name bytes names rest Limits has few h = absurd h
of_name bytes names rest (SameName number) has few h = absurd h
of_name bytes names rest RootFunc has few h = absurd h
of_name bytes names rest Trailing has few h = absurd h
of_name bytes names rest Memory has few h = absurd h

funcs_stop : (bytes : List ℕ) (e : HeaderFault) → HasGoodHead bytes → Stops 0 (funcs_in bytes) (drop 24 bytes) e → IsHeaderFault bytes e
funcs_stop bytes e head s =
    let few = s.few in
    of_name bytes s.new s.rest e (record { head = head; spelled = s.taken.parts; few = omega arith; good = s.good; apart = nothing_left s.new (funcs_in bytes) (omega arith) }) (omega arith) (subst (λ (k : ℕ). NameFault k s.rest e) (omega arith) s.fault)

-- all function names, and then some site names
site_names : (bytes : List ℕ) (funcs new : List (List ℕ)) (middle rest : List ℕ) → HasGoodHead bytes → length funcs ≡ funcs_in bytes → AllByRecursion IsName funcs → AllByRecursion IsName new → AreApart new → Takes (drop 24 bytes) (flat_map name_spelling funcs) middle → middle ≡ flat_map name_spelling new ++ rest → length new ≤ sites_in bytes → HasNames bytes (funcs ++ new) rest
site_names bytes funcs new middle rest head n gf gn apart t parts few = record {
  head = head;
  spelled = t.parts ∙ ap (λ (x : List ℕ). flat_map name_spelling funcs ++ x) parts ∙ sym (append_assoc (flat_map name_spelling funcs) (flat_map name_spelling new) rest) ∙ ap (λ (x : List ℕ). x ++ rest) (sym (flat_map-append name_spelling funcs new));
  few = omega (arith, length-append funcs new);
  good = all_both funcs new gf gn;
  apart = subst (λ (x : List (List ℕ)). AreApart x) (sym (drop_at funcs new (funcs_in bytes) n)) apart;
}
  where
    all_both : (xs ys : List (List ℕ)) → AllByRecursion IsName xs → AllByRecursion IsName ys → AllByRecursion IsName (xs ++ ys)
    all_both [] ys p q = q
    all_both (x ∷ xs) ys p q = (p.0, all_both xs ys p.1 q)

-- what was read before the sites
record ReadFuncs (bytes : List ℕ) (funcs : List (List ℕ)) (middle : List ℕ) : Type 0 where
  pub head : HasGoodHead bytes
  pub count : length funcs ≡ funcs_in bytes
  pub good : AllByRecursion IsName funcs
  pub taken : Takes (drop 24 bytes) (flat_map name_spelling funcs) middle

sites_stop : (bytes : List ℕ) (funcs : List (List ℕ)) (middle : List ℕ) (e : HeaderFault) → ReadFuncs bytes funcs middle → StopsApart [] (funcs_in bytes) (sites_in bytes) middle e → IsHeaderFault bytes e
sites_stop bytes funcs middle e f s =
    let new = s.0.new in
    let few = s.0.few in
    let count = f.count in
    let has = site_names bytes funcs s.0.new middle s.0.rest f.head f.count f.good s.0.good s.1 f.taken s.0.taken.parts (omega arith) in
    of_name bytes (funcs ++ s.0.new) s.0.rest e has (omega (arith, length-append funcs s.0.new)) (subst (λ (k : ℕ). NameFault k s.0.rest e) (omega (arith, length-append funcs s.0.new)) s.0.fault)

sites_repeat : (bytes : List ℕ) (funcs : List (List ℕ)) (middle : List ℕ) (e : HeaderFault) → ReadFuncs bytes funcs middle → Repeats [] (funcs_in bytes) (sites_in bytes) middle e → IsHeaderFault bytes e
sites_repeat bytes funcs middle e f s =
    let few = s.few in
    let count = f.count in
    let number : funcs_in bytes + length s.new ≡ length (funcs ++ s.new) = omega (arith, length-append funcs s.new) in
    let has = site_names bytes funcs s.new middle (name_spelling s.name ++ s.rest) f.head f.count f.good s.good s.apart f.taken s.taken.parts (omega arith) in
    let before : (s.name ≡ root_name) ⊎ Contains (drop (funcs_in bytes) (funcs ++ s.new)) s.name = subst (λ (x : List (List ℕ)). (s.name ≡ root_name) ⊎ Contains x s.name) (sym (drop_at funcs s.new (funcs_in bytes) f.count)) s.before in
    subst (λ (x : HeaderFault). IsHeaderFault bytes x) (sym s.fault) (funcs ++ s.new, s.name, s.rest, has, omega (arith, length-append funcs s.new), number, omega arith, s.is_name, before)

trails_behind : (bytes : List ℕ) (funcs sites : List (List ℕ)) (middle rest : List ℕ) → ReadFuncs bytes funcs middle → length sites ≡ sites_in bytes → AllByRecursion IsName sites → AreApart sites → middle ≡ flat_map name_spelling sites ++ rest → room (version_in bytes) (events_in bytes) < filled (version_in bytes) rest → IsHeaderFault bytes Trailing
trails_behind bytes funcs sites middle rest f n g apart parts more =
    let count = f.count in
    let has = site_names bytes funcs sites middle rest f.head f.count f.good g apart f.taken parts (omega arith) in
    (funcs ++ sites, rest, has, omega (arith, length-append funcs sites), more)

pub within : (bytes : List ℕ) → are_limits (funcs_in bytes) (sites_in bytes) (events_in bytes) ≡ true → IsWithinLimits bytes
within bytes e = let l = limited (funcs_in bytes) (sites_in bytes) (events_in bytes) e in record { some_func = l.some; funcs = l.funcs; sites = l.sites; events = let n = l.events in omega arith }

not_within : (bytes : List ℕ) → are_limits (funcs_in bytes) (sites_in bytes) (events_in bytes) ≡ false → IsWithinLimits bytes → ⊥
not_within bytes e l =
    let n = l.events in
    let t : are_limits (funcs_in bytes) (sites_in bytes) (events_in bytes) ≡ true = limits_again (funcs_in bytes) (sites_in bytes) (events_in bytes) l.some_func l.funcs l.sites (omega arith) in
    let both : true ≡ false = sym t ∙ e in absurd cc

not_true : (b : Bool) → not b ≡ true → b ≡ false
not_true true e = absurd cc
not_true false e = refl

-- the checks that follow those of the head
abbrev behind_head : List ℕ → Result Recording HeaderFault
behind_head bytes = funcs_at (funcs_in bytes) [] (drop 24 bytes) >>= λ funcs. sites_at (sites_in bytes) (funcs_in bytes) [] funcs.1 >>= λ sites. cond (ltb (room (version_in bytes) (events_in bytes)) (filled (version_in bytes) sites.1)) (Err Trailing) (Ok (trace_by (version_in bytes) (root_in bytes) (events_in bytes) funcs.0 sites.0 sites.1))

names_refused : (bytes : List ℕ) (e : HeaderFault) → IsBytes bytes → HasGoodHead bytes → behind_head bytes ≡ Err e → IsHeaderFault bytes e
names_refused bytes e fits head h =
    elim (bind_err (funcs_at (funcs_in bytes) [] (drop 24 bytes)) _ e h) [
      | inl a ↦ funcs_stop bytes e head (funcs_refused (funcs_in bytes) [] (drop 24 bytes) e (IsBytes-drop 24 bytes fits) a)
      | inr a ↦
          let r = funcs_take (funcs_in bytes) [] (drop 24 bytes) a.0 (IsBytes-drop 24 bytes fits) a.1 in
          let f : ReadFuncs bytes a.0.0 a.0.1 = record {
            head = head;
            count = ap length r.all ∙ r.count;
            good = subst (λ (x : List (List ℕ)). AllByRecursion IsName x) (sym r.all) r.good;
            taken = subst (λ (x : List (List ℕ)). Takes (drop 24 bytes) (flat_map name_spelling x) a.0.1) (sym r.all) r.taken;
          } in
          elim (bind_err (sites_at (sites_in bytes) (funcs_in bytes) [] a.0.1) _ e a.2) [
            | inl b ↦
                let at : funcs_in bytes + 0 ≡ funcs_in bytes = omega arith in
                elim (sites_refused (sites_in bytes) (funcs_in bytes) [] a.0.1 e r.taken.rest_fits tt b) [
                  | inl s ↦ sites_stop bytes a.0.0 a.0.1 e f (subst (λ (k : ℕ). StopsApart [] k (sites_in bytes) a.0.1 e) at s)
                  | inr s ↦ sites_repeat bytes a.0.0 a.0.1 e f (subst (λ (k : ℕ). Repeats [] k (sites_in bytes) a.0.1 e) at s)
                ]
            | inr b ↦
                let s = sites_take (sites_in bytes) (funcs_in bytes) [] a.0.1 b.0 r.taken.rest_fits tt b.1 in
                elim (guard_err (ltb (room (version_in bytes) (events_in bytes)) (filled (version_in bytes) b.0.1)) Trailing _ e b.2) [
                  | inl c ↦ subst (λ (x : HeaderFault). IsHeaderFault bytes x) c.1 (trails_behind bytes a.0.0 b.0.0 a.0.1 b.0.1 f (ap length s.0.all ∙ s.0.count) (subst (λ (x : List (List ℕ)). AllByRecursion IsName x) (sym s.0.all) s.0.good) s.1 (s.0.taken.parts ∙ ap (λ (x : List (List ℕ)). flat_map name_spelling x ++ b.0.1) (sym s.0.all)) (ltb-true (room (version_in bytes) (events_in bytes)) (filled (version_in bytes) b.0.1) c.0))
                  | inr c ↦ no_ok _ e c.1
                ]
          ]
    ]

pub trace_refused : (bytes : List ℕ) (e : HeaderFault) → IsBytes bytes → trace_at bytes ≡ Err e → IsHeaderFault bytes e
unfolding trace_at
trace_refused bytes e fits h =
    elim (guard_err (ltb (length bytes) 24) Short _ e h) [
      | inl a ↦ subst (λ (x : HeaderFault). IsHeaderFault bytes x) a.1 (inl (ltb-true (length bytes) 24 a.0))
      | inr a ↦
          let long = ltb-false (length bytes) 24 a.0 in
          elim (guard_err (not (bytes_eq (take 8 bytes) (magic (version_in bytes)))) Magic _ e a.1) [
            | inl b ↦ subst (λ (x : HeaderFault). IsHeaderFault bytes x) b.1 (long, differ (take 8 bytes) (magic (version_in bytes)) (not_true _ b.0))
            | inr b ↦
                let is_magic = (bytes_eq-Decides (take 8 bytes) (magic (version_in bytes))).0 (not-false _ b.0) in
                elim (guard_err (not (are_limits (word_at bytes 8) (word_at bytes 12) (word_at bytes 20))) Limits _ e b.1) [
                  | inl c ↦ subst (λ (x : HeaderFault). IsHeaderFault bytes x) c.1 (long, is_magic, not_within bytes (not_true _ c.0))
                  | inr c ↦
                      let limits = within bytes (not-false _ c.0) in
                      elim (guard_err (leb (word_at bytes 8) (word_at bytes 16)) RootFunc _ e c.1) [
                        | inl d ↦ subst (λ (x : HeaderFault). IsHeaderFault bytes x) d.1 (long, is_magic, limits, leb-true (word_at bytes 8) (word_at bytes 16) d.0)
                        | inr d ↦ names_refused bytes e fits (record { long = long; magic = is_magic; limits = limits; root = leb-false (word_at bytes 8) (word_at bytes 16) d.0 }) d.1
                      ]
                ]
          ]
    ]
