-- Lists of places, and of flags.
use Rattle.std.proofs.Common.{◌≡◌, ℕ, zero, suc, ◌+◌, ◌<◌, ◌≤◌, Bool, true, false, List, [], ◌∷◌, length, replicate, get_or, set, Option, None, Some, refl, ap, sym, ◌∙◌, arith}
use Rattle.std.specs.Prelude.{map, is_some, cond}
use Rattle.std.proofs.lemmas.List.{get_or-set_same, get_or-set_other}
use Rattle.std.proofs.lemmas.List.Sums.{sum_by-set, sum_by-cons}
use Rattle.std.specs.Option.{option_map}
use Rattle.spp_book.specs.declared.book.Run.{Run}
use Rattle.spp_book.specs.Books.{AreRuns, count_of, is_accepted, end_at, entry}
use Rattle.spp_book.proofs.Runs.{IsSet}

pub set_entry : {X : Type 0} (xs : List (Option X)) (n : ℕ) (x : Option X) → n < length xs → IsSet (entry xs) (entry (set xs n x)) n x
set_entry xs n x lt = record { here = get_or-set_same xs n x None lt; others = λ k ne. get_or-set_other xs n k x None ne }

-- the flag of a place
pub flag_is : {X : Type 0} (xs : List (Option X)) (k : ℕ) → is_accepted (map is_some xs) k ≡ is_some (entry xs k)
flag_is [] k = refl
flag_is (x ∷ xs) zero = refl
flag_is (x ∷ xs) (suc k) = flag_is xs k

pub flags_set : (bs : List Bool) (i : ℕ) → i < length bs → is_accepted bs i ≡ false → count_of (set bs i true) ≡ count_of bs + 1
flags_set bs i lt h = let s = sum_by-set (λ (b : Bool). cond b 1 0) bs i true false lt in
    let z : ◌≡◌ {A = ℕ} (cond (get_or bs i false) 1 0) 0 = ap (λ (b : Bool). cond b 1 0) h in
    omega (arith, s, z)

-- ---- empty places

pub none_entry : {X : Type 0} (n k : ℕ) → entry (replicate {A = Option X} n None) k ≡ None
none_entry zero k = refl
none_entry (suc n) zero = refl
none_entry (suc n) (suc k) = none_entry n k

pub none_flags : (n : ℕ) → map (is_some {T = ℕ}) (replicate n None) ≡ replicate n false
none_flags zero = refl
none_flags (suc n) = ap (λ bs. false ∷ bs) (none_flags n)

pub none_counted : (n : ℕ) → count_of (replicate n false) ≡ 0
none_counted zero = refl
none_counted (suc n) = none_counted n

pub none_ends : (C : Type 0) (n : ℕ) → map (λ o. option_map (λ (r : Run C). r.end) o) (replicate {A = Option (Run C)} n None) ≡ replicate {A = Option ℕ} n None
none_ends C zero = refl
none_ends C (suc n) = ap (λ os. None ∷ os) (none_ends C n)

-- there are no runs
pub none_are : {C : Type 0} (parts : ℕ) (value : ℕ → ℕ → C → Type 0) (n : ℕ) → AreRuns parts value (entry (replicate {A = Option (Run C)} n None)) (entry (replicate {A = Option ℕ} n None))
none_are {C} parts value n = record {
  runs = λ f r h. absurd (no_entry (none_entry n f) h);
  apart = λ f g r s h i lt. absurd (no_entry (none_entry n f) h);
  covered = λ k h. absurd (no_flag (none_entry n k) h);
}
  where
    no_entry : {X : Type 0} {o : Option X} {x : X} → o ≡ None → o ≡ Some x → ⊥
    no_entry e f = cc

    no_flag : {X : Type 0} {o : Option X} → o ≡ None → is_some o ≡ true → ⊥
    no_flag e f = let z : false ≡ true = sym (ap is_some e) ∙ f in cc

-- all flags are set
pub all_counted : (bs : List Bool) → ((k : ℕ) → k < length bs → is_accepted bs k ≡ true) → count_of bs ≡ length bs
all_counted [] h = refl
all_counted (true ∷ bs) h =
    let c = sum_by-cons (λ (b : Bool). cond b 1 0) true bs in
    let i = all_counted bs (λ k l. h (suc k) (omega arith)) in
    let z : count_of (true ∷ bs) ≡ 1 + count_of bs = c in
    omega (arith, i, z)
all_counted (false ∷ bs) h = absurd (let z : false ≡ true = h 0 (omega arith) in cc)

-- the flag of the place at i
pub flag_here : {X : Type 0} (xs : List (Option X)) (i : ℕ) (x : Option X) → i < length xs → x ≡ get_or xs i x → is_some x ≡ true → is_accepted (map is_some xs) i ≡ true
flag_here [] i x lt e h = absurd (omega arith)
flag_here (y ∷ xs) zero x lt e h = ap is_some (sym e) ∙ h
flag_here (y ∷ xs) (suc i) x lt e h = flag_here xs i x (omega arith) e h

-- the place at i
pub place_here : {X : Type 0} (xs : List (Option X)) (i : ℕ) (x : Option X) → i < length xs → x ≡ get_or xs i x → entry xs i ≡ x
place_here [] i x lt e = absurd (omega arith)
place_here (y ∷ xs) zero x lt e = sym e
place_here (y ∷ xs) (suc i) x lt e = place_here xs i x (omega arith) e

-- there is nothing behind the last place
pub none_behind : {X : Type 0} (xs : List (Option X)) (i : ℕ) → length xs ≤ i → entry xs i ≡ None
none_behind [] i le = refl
none_behind (y ∷ xs) zero le = absurd (omega arith)
none_behind (y ∷ xs) (suc i) le = none_behind xs i (omega arith)

-- where the run ends that begins at k
pub ends_is : {C : Type 0} (xs : List (Option (Run C))) (k : ℕ) → end_at (map (λ o. option_map (λ (r : Run C). r.end) o) xs) k ≡ option_map (λ (r : Run C). r.end) (entry xs k)
ends_is [] k = refl
ends_is (x ∷ xs) zero = refl
ends_is (x ∷ xs) (suc k) = ends_is xs k

-- where the first n flags are set, so many are at least
pub counted_from : (bs : List Bool) (n : ℕ) → ((k : ℕ) → k < n → is_accepted bs k ≡ true) → n ≤ count_of bs
counted_from bs zero h = omega arith
counted_from [] (suc n) h = absurd (let z : false ≡ true = h 0 (omega arith) in cc)
counted_from (false ∷ bs) (suc n) h = absurd (let z : false ≡ true = h 0 (omega arith) in cc)
counted_from (true ∷ bs) (suc n) h =
    let c = sum_by-cons (λ (b : Bool). cond b 1 0) true bs in
    let i = counted_from bs n (λ k l. h (suc k) (omega arith)) in
    let z : count_of (true ∷ bs) ≡ 1 + count_of bs = c in
    omega (arith, i, z)
