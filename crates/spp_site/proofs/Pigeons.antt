-- Different numbers below n are no more than n.
use Rattle.std.proofs.Common.{◌≡◌, ℕ, zero, suc, ◌<◌, ◌≤◌, cond, nat_eq, arith, sym, ◌∙◌, subst, inl, inr}
use Rattle.std.proofs.lemmas.Bool.{cases_eq, cond-true, cond-false, eq-eqb, ne_eqb}

-- the numbers of the first m places are different
abbrev pub AreApart : ℕ → (ℕ → ℕ) → Type 0
AreApart m f = (j k : ℕ) → j < m → k < m → f j ≡ f k → j ≡ k

-- the number of the last place stands where n stood
module _ (n m : ℕ) (f : ℕ → ℕ) (within : (k : ℕ) → k < suc m → f k < suc n) (apart : AreApart (suc m) f) where
  abbrev moved : ℕ → ℕ
  moved k = cond (nat_eq (f k) n) (f m) (f k)

  moved_last : (k : ℕ) → f k ≡ n → moved k ≡ f m
  moved_last k e = cond-true (nat_eq (f k) n) _ _ (eq-eqb (f k) n e)

  moved_same : (k : ℕ) → (f k ≡ n → ⊥) → moved k ≡ f k
  moved_same k d = cond-false (nat_eq (f k) n) _ _ (ne_eqb (f k) n d)

  moved_within : (k : ℕ) → k < m → moved k < n
  moved_within k l = elim (cases_eq (f k) n) [
    | inl e ↦ elim (cases_eq (f m) n) [
      | inl q ↦ absurd (let z : k ≡ m = apart k m (omega arith) (omega arith) (e ∙ sym q) in omega arith)
      | inr d ↦ let w = within m (omega arith) in subst (λ x. x < n) (sym (moved_last k e)) (omega (arith, d))
    ]
    | inr d ↦ let w = within k (omega arith) in subst (λ x. x < n) (sym (moved_same k d)) (omega (arith, d))
  ]

  moved_apart : AreApart m moved
  moved_apart j k a b e = elim (cases_eq (f j) n) [
    | inl p ↦ elim (cases_eq (f k) n) [
      | inl q ↦ apart j k (omega arith) (omega arith) (p ∙ sym q)
      | inr d ↦ absurd (let z : m ≡ k = apart m k (omega arith) (omega arith) (sym (moved_last j p) ∙ e ∙ moved_same k d) in omega arith)
    ]
    | inr c ↦ elim (cases_eq (f k) n) [
      | inl q ↦ absurd (let z : j ≡ m = apart j m (omega arith) (omega arith) (sym (moved_same j c) ∙ e ∙ moved_last k q) in omega arith)
      | inr d ↦ apart j k (omega arith) (omega arith) (sym (moved_same j c) ∙ e ∙ moved_same k d)
    ]
  ]

pub pigeons : (n m : ℕ) (f : ℕ → ℕ) → ((k : ℕ) → k < m → f k < n) → AreApart m f → m ≤ n
pigeons n zero f within apart = omega arith
pigeons zero (suc m) f within apart = absurd (let w = within 0 (omega arith) in omega arith)
pigeons (suc n) (suc m) f within apart =
    let l = pigeons n m (moved n m f within apart) (moved_within n m f within apart) (moved_apart n m f within apart) in
    omega arith
