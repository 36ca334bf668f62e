-- What sums over the numbers that pass say.
use Rattle.std.proofs.Common.{◌≡◌, ℕ, zero, suc, ◌+◌, ◌≤◌, ◌<◌, Bool, true, false, cond, not, ◌&&◌, refl, arith, sym, ◌∙◌, ap, subst, inl, inr, nat_le, nat_lt}
use Rattle.std.proofs.lemmas.Bool.{cases_lt, cases_eq, and_parts, and_from, and_left, and_right, le-leb, lt-leb, leb-true, ltb-true, lt-ltb, le-ltb, cond-true, cond-false, not-true, not_from_false, false_from_ne_true}
use Rattle.spp_dag.specs.Ranges.{sum_where, none_below, within}

-- sums of the same numbers
pub sum-same : (p q : ℕ → Bool) (f g : ℕ → ℕ) (n : ℕ) → ((k : ℕ) → k < n → p k ≡ q k) → ((k : ℕ) → k < n → q k ≡ true → f k ≡ g k) → sum_where p f n ≡ sum_where q g n
sum-same p q f g zero same values = refl
sum-same p q f g (suc n) same values =
    let before = sum-same p q f g n (λ k l. same k (omega arith)) (λ k l. values k (omega arith)) in
    let test : p n ≡ q n = same n (omega arith) in
    let here : cond (p n) (f n) 0 ≡ cond (q n) (g n) 0 = at (p n) (q n) test (λ e. values n (omega arith) e) in
    omega arith
  where
    at : (a b : Bool) → a ≡ b → (b ≡ true → f n ≡ g n) → cond a (f n) 0 ≡ cond b (g n) 0
    at a true e v = cond-true a _ _ e ∙ v refl
    at a false e v = cond-false a _ _ e

-- the numbers that pass, in two groups
pub sum-split : (p q r : ℕ → Bool) (f : ℕ → ℕ) (n : ℕ) → ((k : ℕ) → k < n → cond (p k) (f k) 0 ≡ cond (q k) (f k) 0 + cond (r k) (f k) 0)
    → sum_where p f n ≡ sum_where q f n + sum_where r f n
sum-split p q r f zero h = refl
sum-split p q r f (suc n) h =
    let before = sum-split p q r f n (λ k l. h k (omega arith)) in
    let here = h n (omega arith) in
    omega arith

pub sum-none : (p : ℕ → Bool) (f : ℕ → ℕ) (n : ℕ) → ((k : ℕ) → k < n → p k ≡ false) → sum_where p f n ≡ 0
sum-none p f zero h = refl
sum-none p f (suc n) h =
    let before = sum-none p f n (λ k l. h k (omega arith)) in
    let here : cond (p n) (f n) 0 ≡ 0 = cond-false (p n) _ _ (h n (omega arith)) in
    omega arith

-- at most one number passes
pub sum-one : (p : ℕ → Bool) (f : ℕ → ℕ) (n m : ℕ) → m < n → ((k : ℕ) → k < n → (k ≡ m → ⊥) → p k ≡ false) → sum_where p f n ≡ cond (p m) (f m) 0
sum-one p f zero m l h = absurd (omega arith)
sum-one p f (suc n) m l h =
    elim (cases_eq n m) [
      | inl e ↦
          let before : sum_where p f n ≡ 0 = sum-none p f n (λ k a. h k (omega arith) (λ q. omega arith)) in
          subst (λ x. sum_where p f n + cond (p n) (f n) 0 ≡ cond (p x) (f x) 0) e (omega arith)
      | inr d ↦
          let before = sum-one p f n m (omega (arith, d)) (λ k a. h k (omega arith)) in
          let here : cond (p n) (f n) 0 ≡ 0 = cond-false (p n) _ _ (h n (omega arith) d) in
          omega arith
    ]

pub none-true : (p : ℕ → Bool) (n : ℕ) → none_below p n ≡ true → (k : ℕ) → k < n → p k ≡ false
none-true p zero h k l = absurd (omega arith)
none-true p (suc n) h k l =
    let both = and_parts (not (p n)) (none_below p n) h in
    elim (cases_lt k n) [
      | inl a ↦ none-true p n both.1 k a
      | inr a ↦ subst (λ x. p x ≡ false) (let q : n ≡ k = omega arith in q) (not-true (p n) both.0)
    ]

pub none_from : (p : ℕ → Bool) (n : ℕ) → ((k : ℕ) → k < n → p k ≡ false) → none_below p n ≡ true
none_from p zero h = refl
none_from p (suc n) h = and_from (not (p n)) (none_below p n) (not_from_false (p n) (h n (omega arith))) (none_from p n (λ k l. h k (omega arith)))

-- a test that is true exactly where another is
pub same_tests : (a b : Bool) → (a ≡ true → b ≡ true) → (b ≡ true → a ≡ true) → a ≡ b
same_tests true b f g = sym (f refl)
same_tests false true f g = g refl
same_tests false false f g = refl

-- a range falls into two at any number in it
pub within-split : (from mid to k : ℕ) → from ≤ mid → mid ≤ to → (a : Bool) (v : ℕ)
    → cond (a && within from to k) v 0 ≡ cond (a && within from mid k) v 0 + cond (a && within mid to k) v 0
within-split from mid to k l m false v = refl
within-split from mid to k l m true v =
    elim (cases_lt k mid) [
      | inl below ↦
          let out : within mid to k ≡ false = and_left (nat_le mid k) (nat_lt k to) (lt-leb mid k below) in
          let same : within from to k ≡ within from mid k = ap (λ b. nat_le from k && b) (lt-ltb k to (omega arith) ∙ sym (lt-ltb k mid below)) in
          let x : cond (within mid to k) v 0 ≡ 0 = cond-false (within mid to k) _ _ out in
          let y : cond (within from to k) v 0 ≡ cond (within from mid k) v 0 = ap (λ b. cond b v 0) same in
          omega arith
      | inr above ↦
          let out : within from mid k ≡ false = and_right (nat_le from k) (nat_lt k mid) (le-ltb k mid above) in
          let same : within from to k ≡ within mid to k = ap (λ b. b && nat_lt k to) (le-leb from k (omega arith) ∙ sym (le-leb mid k above)) in
          let x : cond (within from mid k) v 0 ≡ 0 = cond-false (within from mid k) _ _ out in
          let y : cond (within from to k) v 0 ≡ cond (within mid to k) v 0 = ap (λ b. cond b v 0) same in
          omega arith
    ]

pub within_at : (k : ℕ) → within k (suc k) k ≡ true
within_at k = and_from (nat_le k k) (nat_lt k (suc k)) (le-leb k k (let z : k ≤ k = omega arith in z)) (lt-ltb k (suc k) (let z : k < suc k = omega arith in z))

pub within_other : (i k : ℕ) → (k ≡ i → ⊥) → within i (suc i) k ≡ false
within_other i k d = false_from_ne_true (within i (suc i) k) (λ e.
    let both = and_parts (nat_le i k) (nat_lt k (suc i)) e in
    let a = leb-true i k both.0 in
    let b = ltb-true k (suc i) both.1 in
    omega (arith, d))

pub within_all : (to k : ℕ) → k < to → within 0 to k ≡ true
within_all to k l = and_from (nat_le 0 k) (nat_lt k to) (le-leb 0 k (let z : 0 ≤ k = omega arith in z)) (lt-ltb k to l)

-- a sum over all, the first apart
pub sum-front : (f : ℕ → ℕ) (n : ℕ) → sum_where (nat_le 0) f (suc n) ≡ f 0 + sum_where (nat_le 0) (λ k. f (suc k)) n
sum-front f zero = let a : cond (nat_le 0 0) (f 0) 0 ≡ f 0 = cond-true {A = ℕ} (nat_le 0 0) (f 0) 0 (le-leb 0 0 (omega arith)) in omega arith
sum-front f (suc n) =
    let a : cond (nat_le 0 (suc n)) (f (suc n)) 0 ≡ f (suc n) = cond-true {A = ℕ} (nat_le 0 (suc n)) (f (suc n)) 0 (le-leb 0 (suc n) (omega arith)) in
    let b : cond (nat_le 0 n) (f (suc n)) 0 ≡ f (suc n) = cond-true {A = ℕ} (nat_le 0 n) (f (suc n)) 0 (le-leb 0 n (omega arith)) in
    let c = sum-front f n in
    omega arith
