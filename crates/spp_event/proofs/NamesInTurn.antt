-- Names read one after the other, as a loop does.
use Rattle.std.proofs.Common.{◌≡◌, ℕ, zero, suc, ◌-◌, ◌+◌, ◌≤◌, ◌<◌, Bool, true, false, cond, ◌||◌, not, List, [], ◌∷◌, ◌++◌, length, Result, Ok, Err, refl, sym, ◌∙◌, arith, inl, inr}
use Rattle.std.specs.List.{list_any}
use Rattle.std.specs.Int.{is_in_range}
use Rattle.std.specs.Str.{IsAscii, IsUtf8, bytes_eq}
use Rattle.std.proofs.lemmas.Bool.{and_parts, leb-true, cases_Bool}
use Rattle.std.proofs.lemmas.List.Folds.{list_any-append}
use Rattle.std.proofs.lemmas.Str.{IsUtf8-from_ascii}
use Rattle.std.proofs.lemmas.Slice.Eq.{bytes_eq-Decides}
use Rattle.spp_event.specs.declared.header.HeaderFault.{HeaderFault}
use Rattle.spp_event.specs.declared.header.HeaderFault.TheVariants.{Short, Magic, Limits, Name, SameName, RootFunc, Trailing, Memory}
use Rattle.spp_event.specs.Header.{root_name}
use Rattle.spp_event.specs.Checks.{is_printable, name_at, funcs_at, sites_at, is_taken, Fails}

ascii : (xs : List ℕ) → is_printable xs ≡ true → IsAscii xs
ascii [] e i = omega arith
ascii (x ∷ xs) e zero = let p = and_parts _ _ (and_parts (is_in_range 32 126 x) (is_printable xs) e).0 in let q = leb-true x 126 p.1 in omega arith
ascii (x ∷ xs) e (suc i) = ascii xs (and_parts (is_in_range 32 126 x) (is_printable xs) e).1 i

pub printable_is_text : (xs : List ℕ) → is_printable xs ≡ true → IsUtf8 xs
printable_is_text xs e = IsUtf8-from_ascii xs (ascii xs e)

-- where a fault of one answer is that of another, so is an answer with want of memory in its place
pub fails_too : {A B : Type 0} (e : HeaderFault) (x : Result B HeaderFault) (y : Result A HeaderFault) → ((f : HeaderFault) → y ≡ Err f → x ≡ Err f) → Fails e y → Fails e x
fails_too Short x y h g = h Short g
fails_too Magic x y h g = h Magic g
fails_too Limits x y h g = h Limits g
fails_too (Name m) x y h g = h (Name m) g
fails_too (SameName m) x y h g = h (SameName m) g
fails_too RootFunc x y h g = h RootFunc g
fails_too Trailing x y h g = h Trailing g
fails_too Memory x y h g = tt

-- ---- functions

pub funcs_go : (count i : ℕ) (names : List (List ℕ)) (bytes : List ℕ) (name rest : List ℕ) (total : Result (List (List ℕ) × List ℕ) HeaderFault) → i < count → length names ≡ i → name_at i bytes ≡ Ok (name, rest)
    → funcs_at (count - i) names bytes ≡ total → funcs_at (count - (i + 1)) (names ++ name ∷ []) rest ≡ total
unfolding funcs_at
funcs_go count i names bytes name rest total lt n h so_far =
    let k : count - i ≡ suc (count - (i + 1)) = omega arith in
    let one : funcs_at (count - i) names bytes ≡ funcs_at (count - (i + 1)) (names ++ name ∷ []) rest = rw (k, n, h) refl in
    sym one ∙ so_far

pub funcs_end : (count i : ℕ) (names : List (List ℕ)) (bytes : List ℕ) (e : HeaderFault) (total : Result (List (List ℕ) × List ℕ) HeaderFault) → i < count → length names ≡ i → Fails e (name_at i bytes)
    → funcs_at (count - i) names bytes ≡ total → Fails e total
unfolding funcs_at
funcs_end count i names bytes e total lt n h so_far = fails_too e total (name_at i bytes) failed h
  where
    k : count - i ≡ suc (count - (i + 1))
    k = omega arith

    failed : (f : HeaderFault) → name_at i bytes ≡ Err f → total ≡ Err f
    failed f g = let one : funcs_at (count - i) names bytes ≡ Err f = rw (k, n, g) refl in sym so_far ∙ one

pub funcs_done : (count i : ℕ) (names : List (List ℕ)) (bytes : List ℕ) (total : Result (List (List ℕ) × List ℕ) HeaderFault) → count ≤ i → funcs_at (count - i) names bytes ≡ total → total ≡ Ok (names, bytes)
unfolding funcs_at
funcs_done count i names bytes total le so_far =
    let k : count - i ≡ 0 = omega arith in
    let one : funcs_at (count - i) names bytes ≡ Ok (names, bytes) = rw k refl in
    sym so_far ∙ one

-- ---- sites

-- a set that has the names, one more name on
pub has_more : (cs q name : List ℕ) (names : List (List ℕ)) (now before : Bool) → now ≡ cond (bytes_eq name q) true before → before ≡ list_any (λ n. bytes_eq q n) names → now ≡ list_any (λ n. bytes_eq q n) (names ++ name ∷ [])
has_more cs q name names now before e f =
    let g : list_any (λ n. bytes_eq q n) (names ++ name ∷ []) ≡ (list_any (λ n. bytes_eq q n) names || (bytes_eq q name || false)) = list_any-append (λ n. bytes_eq q n) names (name ∷ []) in
    e ∙ step (bytes_eq name q) refl ∙ sym g
  where
    here : bytes_eq q name ≡ true → (list_any (λ n. bytes_eq q n) names || (bytes_eq q name || false)) ≡ true
    here t = rw t (orr (list_any (λ n. bytes_eq q n) names))
      where
        orr : (b : Bool) → (b || true) ≡ true
        orr true = refl
        orr false = refl

    not_here : bytes_eq q name ≡ false → (list_any (λ n. bytes_eq q n) names || (bytes_eq q name || false)) ≡ list_any (λ n. bytes_eq q n) names
    not_here t = rw t (orf (list_any (λ n. bytes_eq q n) names))
      where
        orf : (b : Bool) → (b || false) ≡ b
        orf true = refl
        orf false = refl

    step : (b : Bool) → bytes_eq name q ≡ b → cond b true before ≡ (list_any (λ n. bytes_eq q n) names || (bytes_eq q name || false))
    step true t = let same : name ≡ q = (bytes_eq-Decides name q).0 t in sym (here ((bytes_eq-Decides q name).1 (sym same)))
    step false t = elim (cases_Bool (bytes_eq q name)) [
      | inl y ↦ let same : q ≡ name = (bytes_eq-Decides q name).0 y in absurd (apart ((bytes_eq-Decides name q).1 (sym same)))
      | inr n ↦ f ∙ sym (not_here n)
    ]
      where
        apart : bytes_eq name q ≡ true → ⊥
        apart y = let both : true ≡ false = sym y ∙ t in absurd cc

pub sites_go : (count first i : ℕ) (names : List (List ℕ)) (bytes : List ℕ) (name rest : List ℕ) (total : Result (List (List ℕ) × List ℕ) HeaderFault) → i < count → length names ≡ i → name_at (first + i) bytes ≡ Ok (name, rest) → is_taken names name ≡ false
    → sites_at (count - i) first names bytes ≡ total → sites_at (count - (i + 1)) first (names ++ name ∷ []) rest ≡ total
unfolding sites_at
sites_go count first i names bytes name rest total lt n h free so_far =
    let k : count - i ≡ suc (count - (i + 1)) = omega arith in
    let one : sites_at (count - i) first names bytes ≡ sites_at (count - (i + 1)) first (names ++ name ∷ []) rest = rw (k, n, h, free) refl in
    sym one ∙ so_far

pub sites_same : (count first i : ℕ) (names : List (List ℕ)) (bytes : List ℕ) (name rest : List ℕ) (total : Result (List (List ℕ) × List ℕ) HeaderFault) → i < count → length names ≡ i → name_at (first + i) bytes ≡ Ok (name, rest) → is_taken names name ≡ true
    → sites_at (count - i) first names bytes ≡ total → total ≡ Err (SameName (first + i))
unfolding sites_at
sites_same count first i names bytes name rest total lt n h taken so_far =
    let k : count - i ≡ suc (count - (i + 1)) = omega arith in
    let one : sites_at (count - i) first names bytes ≡ Err (SameName (first + i)) = rw (k, n, h, taken) refl in
    sym so_far ∙ one

pub sites_end : (count first i : ℕ) (names : List (List ℕ)) (bytes : List ℕ) (e : HeaderFault) (total : Result (List (List ℕ) × List ℕ) HeaderFault) → i < count → length names ≡ i → Fails e (name_at (first + i) bytes)
    → sites_at (count - i) first names bytes ≡ total → Fails e total
unfolding sites_at
sites_end count first i names bytes e total lt n h so_far = fails_too e total (name_at (first + i) bytes) failed h
  where
    k : count - i ≡ suc (count - (i + 1))
    k = omega arith

    failed : (f : HeaderFault) → name_at (first + i) bytes ≡ Err f → total ≡ Err f
    failed f g = let one : sites_at (count - i) first names bytes ≡ Err f = rw (k, n, g) refl in sym so_far ∙ one

pub sites_done : (count first i : ℕ) (names : List (List ℕ)) (bytes : List ℕ) (total : Result (List (List ℕ) × List ℕ) HeaderFault) → count ≤ i → sites_at (count - i) first names bytes ≡ total → total ≡ Ok (names, bytes)
unfolding sites_at
sites_done count first i names bytes total le so_far =
    let k : count - i ≡ 0 = omega arith in
    let one : sites_at (count - i) first names bytes ≡ Ok (names, bytes) = rw k refl in
    sym so_far ∙ one

pub taken_root : (names : List (List ℕ)) (name : List ℕ) → bytes_eq name root_name ≡ true → is_taken names name ≡ true
taken_root names name e = rw e refl

or_true : (a b : Bool) → b ≡ true → (a || b) ≡ true
or_true true b e = refl
or_true false b e = e

pub taken_before : (names : List (List ℕ)) (name : List ℕ) (fresh known : Bool) → fresh ≡ false → fresh ≡ not known → known ≡ list_any (λ n. bytes_eq name n) names → is_taken names name ≡ true
taken_before names name fresh true e f g = or_true (bytes_eq name root_name) (list_any (λ n. bytes_eq name n) names) (sym g)
taken_before names name fresh false e f g = absurd cc

pub not_taken : (names : List (List ℕ)) (name : List ℕ) (fresh known : Bool) → bytes_eq name root_name ≡ false → fresh ≡ true → fresh ≡ not known → known ≡ list_any (λ n. bytes_eq name n) names → is_taken names name ≡ false
not_taken names name fresh true r e f g = absurd cc
not_taken names name fresh false r e f g = rw (r, ← g) refl
