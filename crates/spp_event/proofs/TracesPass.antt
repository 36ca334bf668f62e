-- What a trace spells passes the checks.
use Rattle.std.proofs.Common.{◌≡◌, ℕ, suc, ◌+◌, ◌≤◌, Bool, true, false, ltb, leb, ◌&&◌, ◌||◌, nat_eq, if◌then◌else◌, List, [], ◌∷◌, ◌++◌, length, drop, Ok, refl, sym, ap, subst, ◌∙◌, append_assoc, arith, inl, inr}
use Rattle.std.specs.List.{flat_map, list_any, AllByRecursion}
use Rattle.std.specs.Int.{w16, to_be_bytes, from_be_bytes, IsInRange, is_in_range}
use Rattle.std.specs.Str.{bytes_eq}
use Rattle.std.proofs.lemmas.Bool.{le-ltb, lt-ltb, le-leb, ne_eqb, and_from, or_from, cases_Bool}
use Rattle.std.proofs.lemmas.List.{append-nil, length-append, take_at, drop_at}
use Rattle.std.proofs.lemmas.List.Concat.{flat_map-cons}
use Rattle.std.proofs.lemmas.Nat.{from_be_bytes-to_be_bytes_2, from_be_bytes-to_be_bytes_4}
use Rattle.std.proofs.lemmas.Slice.Eq.{bytes_eq-Decides}
use Rattle.spp_event.specs.declared.version.Version.{Version}
use Rattle.spp_event.specs.declared.version.Version.TheVariants.{One, Two}
use Rattle.spp_event.specs.Records.{word}
use Rattle.spp_event.specs.Recordings.{Recording, records_of, room, filled}
use Rattle.spp_event.proofs.BehindGoodHead.{Head, is_made_of}
use Rattle.spp_event.specs.Header.{magic, version_in, name_spelling, IsName, AreApart, IsTraceOf, root_name}
use Rattle.spp_event.specs.Checks.{is_printable, is_taken, are_limits, name_at, funcs_at, sites_at, trace_at}

pub printable_again : (xs : List ℕ) → AllByRecursion (IsInRange 32 126) xs → is_printable xs ≡ true
printable_again [] h = refl
printable_again (x ∷ xs) h = and_from (is_in_range 32 126 x) (is_printable xs) (and_from (leb 32 x) (leb x 126) (le-leb 32 x h.0.0) (le-leb x 126 h.0.1)) (printable_again xs h.1)

pub name_again : (number : ℕ) (name rest : List ℕ) → IsName name → name_at number (name_spelling name ++ rest) ≡ Ok (name, rest)
unfolding name_at
name_again number name rest h =
    let a = h.0 in let b = h.1 in
    let n : from_be_bytes w16 (to_be_bytes w16 (length name)) ≡ length name = from_be_bytes-to_be_bytes_2 (length name) (omega arith) in
    let long : ltb (length (name ++ rest)) (length name) ≡ false = le-ltb _ _ (omega (arith, length-append name rest)) in
    rw (le-ltb (suc (suc (length (name ++ rest)))) 2 (omega arith), n, ne_eqb (length name) 0 (λ e. omega arith), le-ltb 200 (length name) b, long, take_at name rest (length name) refl, drop_at name rest (length name) refl, printable_again name h.2) refl

pub funcs_again : (new names : List (List ℕ)) (rest : List ℕ) → AllByRecursion IsName new → funcs_at (length new) names (flat_map name_spelling new ++ rest) ≡ Ok (names ++ new, rest)
unfolding funcs_at
funcs_again [] names rest h = ap (λ (x : List (List ℕ)). Ok (x, rest)) (sym (append-nil names))
funcs_again (name ∷ new) names rest h =
    let regrouped : flat_map name_spelling (name ∷ new) ++ rest ≡ name_spelling name ++ (flat_map name_spelling new ++ rest) = ap (λ (x : List ℕ). x ++ rest) (flat_map-cons name_spelling name new) ∙ append_assoc (name_spelling name) (flat_map name_spelling new) rest in
    ap (funcs_at (suc (length new)) names) regrouped ∙ rw (name_again (length names) name (flat_map name_spelling new ++ rest) h.0) (funcs_again new (names ++ name ∷ []) rest h.1 ∙ ap (λ (x : List (List ℕ)). Ok (x, rest)) (append_assoc names (name ∷ []) new))

pub differs : (p q : List ℕ) → (p ≡ q → ⊥) → bytes_eq p q ≡ false
differs p q h = elim (cases_Bool (bytes_eq p q)) [ inl t ↦ absurd (h ((bytes_eq-Decides p q).0 t)) | inr f ↦ f ]

-- each of the first names differs from each of the second
abbrev pub Cross : List (List ℕ) → List (List ℕ) → Type 0
Cross names [] = Unit {0}
Cross names (n ∷ new) = (list_any (λ k. bytes_eq n k) names ≡ false) × Cross names new

pub cross_none : (new : List (List ℕ)) → Cross [] new
cross_none [] = tt
cross_none (n ∷ new) = (refl, cross_none new)

any_more : (n name : List ℕ) (names : List (List ℕ)) → list_any (λ k. bytes_eq n k) names ≡ false → (n ≡ name → ⊥) → list_any (λ k. bytes_eq n k) (names ++ name ∷ []) ≡ false
any_more n name [] e h = or_from (bytes_eq n name) false (differs n name h) refl
any_more n name (k ∷ names) e h = elim (cases_Bool (bytes_eq n k)) [
  | inl t ↦ absurd (never (bytes_eq n k) (list_any (λ j. bytes_eq n j) names) t e)
  | inr f ↦ or_from (bytes_eq n k) (list_any (λ j. bytes_eq n j) (names ++ name ∷ [])) f (any_more n name names (rest (bytes_eq n k) (list_any (λ j. bytes_eq n j) names) f e) h)
]
  where
    never : (a b : Bool) → a ≡ true → (a || b) ≡ false → ⊥
    never true b t e = let x : true ≡ false = e in absurd cc
    never false b t e = absurd cc

    rest : (a b : Bool) → a ≡ false → (a || b) ≡ false → b ≡ false
    rest true b t e = absurd cc
    rest false b t e = e

pub cross_more : (names : List (List ℕ)) (name : List ℕ) (new : List (List ℕ)) → Cross names new → AllByRecursion (λ n. (name ≡ n) → ⊥) new → Cross (names ++ name ∷ []) new
cross_more names name [] c d = tt
cross_more names name (n ∷ new) c d = (any_more n name names c.0 (λ s. d.0 (sym s)), cross_more names name new c.1 d.1)

-- a name that differs from the root's and from all names before it
pub is_free : (names : List (List ℕ)) (name : List ℕ) → (name ≡ root_name → ⊥) → list_any (λ n. bytes_eq name n) names ≡ false → is_taken names name ≡ false
is_free names name r c = or_from (bytes_eq name root_name) (list_any (λ n. bytes_eq name n) names) (differs name root_name r) c

pub sites_again : (new names : List (List ℕ)) (first : ℕ) (rest : List ℕ) → AllByRecursion IsName new → AreApart new → Cross names new → sites_at (length new) first names (flat_map name_spelling new ++ rest) ≡ Ok (names ++ new, rest)
unfolding sites_at
sites_again [] names first rest h apart c = ap (λ (x : List (List ℕ)). Ok (x, rest)) (sym (append-nil names))
sites_again (name ∷ new) names first rest h apart c =
    let regrouped : flat_map name_spelling (name ∷ new) ++ rest ≡ name_spelling name ++ (flat_map name_spelling new ++ rest) = ap (λ (x : List ℕ). x ++ rest) (flat_map-cons name_spelling name new) ∙ append_assoc (name_spelling name) (flat_map name_spelling new) rest in
    let free = is_free names name apart.0 c.0 in
    ap (sites_at (suc (length new)) first names) regrouped ∙ rw (name_again (first + length names) name (flat_map name_spelling new ++ rest) h.0, free) (sites_again new (names ++ name ∷ []) first rest h.1 apart.2 (cross_more names name new c.1 apart.1) ∙ ap (λ (x : List (List ℕ)). Ok (x, rest)) (append_assoc names (name ∷ []) new))

pub limits_again : (f s n : ℕ) → 1 ≤ f → f ≤ 65536 → s ≤ 65536 → n ≤ 268435456 → are_limits f s n ≡ true
limits_again f s n a b c d = and_from (ltb 0 f && leb f 65536 && leb s 65536) (leb n 268435456) (and_from (ltb 0 f && leb f 65536) (leb s 65536) (and_from (ltb 0 f) (leb f 65536) (lt-ltb 0 f (omega arith)) (le-leb f 65536 b)) (le-leb s 65536 c)) (le-leb n 268435456 d)

-- ---- the version

-- the code of the digit of a version
abbrev last_byte : Version → ℕ
last_byte One = 49
last_byte Two = 50

-- the first eight bytes, one by one
abbrev eight : Version → List ℕ
eight v = 83 ∷ 80 ∷ 84 ∷ 82 ∷ 65 ∷ 67 ∷ 69 ∷ last_byte v ∷ []

magic_is : (v : Version) → magic v ≡ eight v
magic_is One = refl
magic_is Two = refl

version_again : (v : Version) → (if nat_eq (last_byte v) 50 then Two else One) ≡ v
version_again One = refl
version_again Two = refl

magic_again : (v : Version) → bytes_eq (eight v) (magic (if nat_eq (last_byte v) 50 then Two else One)) ≡ true
magic_again One = refl
magic_again Two = refl

-- ---- the whole header

abbrev rest_of : Recording → List ℕ
rest_of t = word (length t.funcs) ++ word (length t.sites) ++ word t.root ++ word (length t.records)
    ++ flat_map name_spelling t.funcs ++ flat_map name_spelling t.sites

pub trace_again : (bytes : List ℕ) (t : Recording) → IsTraceOf bytes t → trace_at bytes ≡ Ok t
trace_again bytes t h =
    let l = h.limits in let a = l.some_func in let b = l.funcs in let c = l.sites in let d = l.events in let e = l.root in
    let v = t.version in
    let text = eight v ++ (rest_of t ++ t.body) in
    let head : Head (eight v ++ (rest_of t ++ t.body)) (length t.funcs) (length t.sites) t.root (length t.records) = record {
      long = omega arith;
      magic = magic_again v;
      f_is = sym (from_be_bytes-to_be_bytes_4 (length t.funcs) (omega arith));
      s_is = sym (from_be_bytes-to_be_bytes_4 (length t.sites) (omega arith));
      r_is = sym (from_be_bytes-to_be_bytes_4 t.root (omega arith));
      n_is = sym (from_be_bytes-to_be_bytes_4 (length t.records) (omega arith));
      limits = limits_again (length t.funcs) (length t.sites) (length t.records) a b c (omega arith);
      root = e;
    } in
    let regrouped : drop 24 text ≡ flat_map name_spelling t.funcs ++ (flat_map name_spelling t.sites ++ t.body) = append_assoc (flat_map name_spelling t.funcs) (flat_map name_spelling t.sites) t.body in
    let funcs : funcs_at (length t.funcs) [] (drop 24 text) ≡ Ok (t.funcs, flat_map name_spelling t.sites ++ t.body) = ap (funcs_at (length t.funcs) []) regrouped ∙ funcs_again t.funcs [] (flat_map name_spelling t.sites ++ t.body) h.names.func_names in
    let sites = sites_again t.sites [] (length t.funcs) t.body h.names.site_names h.names.apart (cross_none t.sites) in
    let under : filled (version_in text) t.body ≤ room (version_in text) (length t.records) = subst (λ (x : Version). filled x t.body ≤ room x (length t.records)) (sym (version_again v)) h.room in
    let made = is_made_of text (length t.funcs) (length t.sites) t.root (length t.records) (length t.sites) (length t.funcs) (t.funcs, flat_map name_spelling t.sites ++ t.body) (t.sites, t.body) head funcs sites under refl refl in
    ap trace_at (h.header ∙ ap (λ (m : List ℕ). (m ++ rest_of t) ++ t.body) (magic_is v)) ∙ made
    ∙ ap (λ (x : Version). Ok (record { funcs = t.funcs; sites = t.sites; root = t.root; records = records_of x (length t.sites) (length t.funcs) (length t.records) t.body; version = x; body = t.body })) (version_again v)
    ∙ ap (λ (rs : _). Ok (record { funcs = t.funcs; sites = t.sites; root = t.root; records = rs; version = v; body = t.body })) (sym h.records)
