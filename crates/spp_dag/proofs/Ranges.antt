-- What counting, the least and the greatest over a range say.
use Rattle.std.proofs.Common.{◌≡◌, ℕ, zero, suc, ◌+◌, ◌-◌, ◌≤◌, ◌<◌, Bool, true, false, refl, arith, subst, inl, inr}
use Rattle.std.proofs.lemmas.Bool.{cases_lt, both_ways}
use Rattle.spp_dag.specs.Ranges.{least_of, least_from, greatest_to}

-- how many of the numbers below n pass
abbrev pub count_below : (ℕ → Bool) → ℕ → ℕ
count_below p zero = 0
count_below p (suc n) = elim (p n) [ true ↦ suc (count_below p n) | false ↦ count_below p n ]

pub count_below-true : (p : ℕ → Bool) (n : ℕ) → p n ≡ true → count_below p (suc n) ≡ suc (count_below p n)
count_below-true p n e = rw (e, count_below)

pub count_below-false : (p : ℕ → Bool) (n : ℕ) → p n ≡ false → count_below p (suc n) ≡ count_below p n
count_below-false p n e = rw (e, count_below)

pub record IsLeast (p : ℕ → Bool) (from end m : ℕ) : Type 0 where
  pub lower : from ≤ m
  pub upper : m ≤ end
  pub passes : m < end → p m ≡ true
  pub before : (j : ℕ) → from ≤ j → j < m → p j ≡ false

least_step : (p : ℕ → Bool) (k n m : ℕ) (b : Bool) → p k ≡ b → IsLeast p (suc k) (suc k + n) m → IsLeast p k (k + suc n) (elim b [ true ↦ k | false ↦ m ])
least_step p k n m true e h = record {
  lower = omega arith;
  upper = omega arith;
  passes = λ _. e;
  before = λ j a c. absurd (omega arith);
}
least_step p k n m false e h = record {
  lower = omega arith;
  upper = omega arith;
  passes = λ l. h.passes (omega arith);
  before = λ j a c. elim (cases_lt k j) [ inl l ↦ h.before j l c | inr g ↦ subst (λ x. p x ≡ false) (let q : k ≡ j = omega arith in q) e ];
}

least_of_spec : (p : ℕ → Bool) (k n : ℕ) → IsLeast p k (k + n) (least_of p k n)
least_of_spec p k zero = record {
  lower = omega arith;
  upper = omega arith;
  passes = λ l. absurd (omega arith);
  before = λ j a c. absurd (omega arith);
}
least_of_spec p k (suc n) = least_step p k n (least_of p (suc k) n) (p k) refl (least_of_spec p (suc k) n)

pub least_from_spec : (p : ℕ → Bool) (k n : ℕ) → k ≤ n → IsLeast p k n (least_from p k n)
least_from_spec p k n h = subst (λ e. IsLeast p k e (least_from p k n)) (let q : k + (n - k) ≡ n = omega arith in q) (least_of_spec p k (n - k))

-- a number that passes is not below the least
pub least_le : (p : ℕ → Bool) (k n j : ℕ) → k ≤ j → j < n → p j ≡ true → least_from p k n ≤ j
least_le p k n j a c e =
    elim (cases_lt j (least_from p k n)) [
      | inl l ↦ absurd (both_ways (p j) ((least_from_spec p k n (omega arith)).before j a l) e)
      | inr g ↦ g
    ]

pub record IsGreatestTo (p : ℕ → Bool) (n m : ℕ) : Type 0 where
  pub upper : m ≤ n
  pub passes : 0 < m → p m ≡ true
  pub after : (j : ℕ) → m < j → j ≤ n → p j ≡ false

greatest_step : (p : ℕ → Bool) (n m : ℕ) (b : Bool) → p (suc n) ≡ b → IsGreatestTo p n m → IsGreatestTo p (suc n) (elim b [ true ↦ suc n | false ↦ m ])
greatest_step p n m true e h = record {
  upper = omega arith;
  passes = λ _. e;
  after = λ j a c. absurd (omega arith);
}
greatest_step p n m false e h = record {
  upper = omega arith;
  passes = λ l. h.passes l;
  after = λ j a c. elim (cases_lt n j) [ inl l ↦ subst (λ x. p x ≡ false) (let q : suc n ≡ j = omega arith in q) e | inr g ↦ h.after j a g ];
}

pub greatest_to_spec : (p : ℕ → Bool) (n : ℕ) → IsGreatestTo p n (greatest_to p n)
greatest_to_spec p zero = record {
  upper = omega arith;
  passes = λ l. absurd (omega arith);
  after = λ j a c. absurd (omega arith);
}
greatest_to_spec p (suc n) = greatest_step p n (greatest_to p n) (p (suc n)) refl (greatest_to_spec p n)

-- the one that passes and after which none does
pub greatest_is : (p : ℕ → Bool) (n m : ℕ) → m ≤ n → (0 < m → p m ≡ true) → ((j : ℕ) → m < j → j ≤ n → p j ≡ true → ⊥) → greatest_to p n ≡ m
greatest_is p n m u e f =
    let g = greatest_to_spec p n in
    let lower : m ≤ greatest_to p n = elim (cases_lt (greatest_to p n) m) [
      | inl l ↦ absurd (both_ways (p m) (g.after m l u) (e (omega arith)))
      | inr k ↦ k
    ] in
    let upper : greatest_to p n ≤ m = elim (cases_lt m (greatest_to p n)) [
      | inl l ↦ absurd (f (greatest_to p n) l g.upper (g.passes (omega arith)))
      | inr k ↦ k
    ] in
    omega arith
