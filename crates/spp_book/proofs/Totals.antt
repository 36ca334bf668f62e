-- Sums over the views, and over the numbers below a bound; and the numbers that are past the parts.
use Rattle.std.proofs.Common.{◌≡◌, ℕ, zero, suc, ◌+◌, ◌-◌, ◌<◌, ◌≤◌, Bool, true, false, ◌||◌, List, [], ◌∷◌, ◌++◌, refl, ap, sym, ◌∙◌, arith, set}
use Rattle.std.specs.Prelude.{nat_le, nat_lt, cond}
use Rattle.std.proofs.lemmas.Bool.Decides.{nat_tests}
use mathlib.Core.Option.{some, some-injective, some-ne-none}
use lib.ListN.{get_elem?}
use Rattle.spp_book.specs.Counters.{total, sum_below, past, has_past, is_one}

pub total_append : {A : Type 0} (f : A → ℕ) (xs ys : List A) → total f (xs ++ ys) ≡ total f xs + total f ys
total_append f [] ys = omega arith
total_append f (x ∷ xs) ys = let ih = total_append f xs ys in let r : f x + total f (xs ++ ys) ≡ f x + total f xs + total f ys = omega (arith, ih) in r

-- the sum after a change of one element
pub sum_set : {A : Type 0} (f : A → ℕ) (xs : List A) (i : ℕ) (v w : A) → get_elem? xs i ≡ some v → total f (set xs i w) + f v ≡ total f xs + f w
sum_set f [] i v w e = absurd (some-ne-none v (sym e))
sum_set f (x ∷ xs) zero v w e =
    let h : f x ≡ f v = ap f (some-injective x v e) in
    let g : f w + total f xs + f v ≡ f x + total f xs + f w = omega (arith, h) in g
sum_set f (x ∷ xs) (suc i) v w e =
    let h = sum_set f xs i v w e in
    let g : f x + total f (set xs i w) + f v ≡ f x + total f xs + f w = omega (arith, h) in g

-- a sum of what is at most as much everywhere
pub sum_le : {A : Type 0} (f g : A → ℕ) (xs : List A) → ((i : ℕ) (v : A) → get_elem? xs i ≡ some v → f v ≤ g v) → total f xs ≤ total g xs
sum_le f g [] h = omega arith
sum_le f g (x ∷ xs) h = let a = h 0 x refl in let b = sum_le f g xs (λ i. h (suc i)) in let r : f x + total f xs ≤ g x + total g xs = omega (arith, a, b) in r

pub below_next : (h : ℕ → ℕ) (n : ℕ) → sum_below h (n + 1) ≡ sum_below h n + h n
below_next h n = let e : n + 1 ≡ suc n = omega arith in rw e refl

pub past_most : (parts x : ℕ) → past parts x ≤ 1
past_most parts x = grind (arith, nat_tests)

-- how many numbers below n are not below parts
pub past_count : (parts n : ℕ) → sum_below (past parts) n ≡ n - parts
past_count parts zero = omega arith
past_count parts (suc n) = let ih = past_count parts n in let r : sum_below (past parts) n + past parts n ≡ suc n - parts = grind (arith, nat_tests, ih) in r

none_step : (a : ℕ) (b c : Bool) (x : ℕ) → a ≡ cond b 1 0 → (b || c) ≡ false → (c ≡ false → x ≡ 0) → a + x ≡ 0
none_step a true c x e h f = absurd cc
none_step a false c x e h f = let z = f h in omega (arith, e, z)

-- where none of them is past the parts, none counts
pub none_past : (parts : ℕ) (xs : List ℕ) → has_past parts xs ≡ false → total (past parts) xs ≡ 0
none_past parts [] h = refl
none_past parts (x ∷ xs) h = none_step (past parts x) (nat_le parts x) (has_past parts xs) (total (past parts) xs) refl h (none_past parts xs)

has_past_snoc : (parts : ℕ) (xs : List ℕ) (x : ℕ) → has_past parts (xs ++ x ∷ []) ≡ (has_past parts xs || nat_le parts x)
has_past_snoc parts [] x = grind arith
has_past_snoc parts (y ∷ xs) x = grind (arith, has_past_snoc parts xs x)

or_assoc : (a b c d : Bool) → d ≡ (b || c) → (a || d) ≡ ((a || b) || c)
or_assoc true b c d e = refl
or_assoc false b c d e = e

pub has_past_append : (parts : ℕ) (xs ys : List ℕ) → has_past parts (xs ++ ys) ≡ (has_past parts xs || has_past parts ys)
has_past_append parts [] ys = refl
has_past_append parts (x ∷ xs) ys = or_assoc (nat_le parts x) (has_past parts xs) (has_past parts ys) (has_past parts (xs ++ ys)) (has_past_append parts xs ys)

or_false : (a b : Bool) → b ≡ false → a ≡ (a || b)
or_false true b e = refl
or_false false b e = sym e

or_true : (a b : Bool) → b ≡ true → true ≡ (a || b)
or_true true b e = refl
or_true false b e = sym e

-- a number below parts leaves it as it was, and any other sets it
pub snoc_same : (parts : ℕ) (xs : List ℕ) (x : ℕ) (b : Bool) → b ≡ has_past parts xs → x < parts → b ≡ has_past parts (xs ++ x ∷ [])
snoc_same parts xs x b e lt = let s = has_past_snoc parts xs x in let f : nat_le parts x ≡ false = grind (arith, nat_tests) in e ∙ (or_false (has_past parts xs) (nat_le parts x) f ∙ sym s)

pub snoc_now : (parts : ℕ) (xs : List ℕ) (x : ℕ) → parts ≤ x → true ≡ has_past parts (xs ++ x ∷ [])
snoc_now parts xs x le = let s = has_past_snoc parts xs x in let f : nat_le parts x ≡ true = grind (arith, nat_tests) in or_true (has_past parts xs) (nat_le parts x) f ∙ sym s

-- where g is 0 wherever f is, and f is 0 of each, so is g
total_zero : {A : Type 0} (f g : A → ℕ) (xs : List A) → ((i : ℕ) (v : A) → get_elem? xs i ≡ some v → f v ≡ 0 → g v ≡ 0) → total f xs ≡ 0 → total g xs ≡ 0
total_zero f g [] nil z = refl
total_zero f g (x ∷ xs) nil z =
    let here : f x ≡ 0 = omega (arith, z) in
    let there : total f xs ≡ 0 = omega (arith, z) in
    let a = nil 0 x refl here in
    let b = total_zero f g xs (λ i. nil (suc i)) there in
    let r : g x + total g xs ≡ 0 = omega (arith, a, b) in r

-- one has at most what all have
pub total_at : {A : Type 0} (f : A → ℕ) (xs : List A) (i : ℕ) (v : A) → get_elem? xs i ≡ some v → f v ≤ total f xs
total_at f [] i v e = absurd (some-ne-none v (sym e))
total_at f (x ∷ xs) zero v e = let h : f x ≡ f v = ap f (some-injective x v e) in let r : f v ≤ f x + total f xs = omega (arith, h) in r
total_at f (x ∷ xs) (suc i) v e = let h = total_at f xs i v e in let r : f v ≤ f x + total f xs = omega (arith, h) in r

-- where g is 0 wherever f is, and one element has all of f, it has all of g
pub one_has_all : {A : Type 0} (f g : A → ℕ) (xs : List A) (i : ℕ) (v : A) → get_elem? xs i ≡ some v → ((k : ℕ) (u : A) → get_elem? xs k ≡ some u → f u ≡ 0 → g u ≡ 0) → total f xs ≡ f v → total g xs ≡ g v
one_has_all f g [] i v e nil all = absurd (some-ne-none v (sym e))
one_has_all f g (x ∷ xs) zero v e nil all =
    let h : f x ≡ f v = ap f (some-injective x v e) in
    let k : g x ≡ g v = ap g (some-injective x v e) in
    let rest : total f xs ≡ 0 = omega (arith, h, all) in
    let z = total_zero f g xs (λ i. nil (suc i)) rest in
    let r : g x + total g xs ≡ g v = omega (arith, k, z) in r
one_has_all f g (x ∷ xs) (suc i) v e nil all =
    let most = total_at f xs i v e in
    let here : f x ≡ 0 = omega (arith, most, all) in
    let there : total f xs ≡ f v = omega (arith, most, all) in
    let a = nil 0 x refl here in
    let b = one_has_all f g xs i v e (λ k. nil (suc k)) there in
    let r : g x + total g xs ≡ g v = omega (arith, a, b) in r

-- the numbers below n have x once where it is below n
pub one_below : (x n : ℕ) → sum_below (is_one x) n ≡ cond (nat_lt x n) 1 0
one_below x zero = grind (arith, nat_tests)
one_below x (suc n) = let ih = one_below x n in let r : sum_below (is_one x) n + is_one x n ≡ cond (nat_lt x (suc n)) 1 0 = grind (arith, nat_tests, ih) in r
