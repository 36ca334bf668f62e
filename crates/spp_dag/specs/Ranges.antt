-- The least, the greatest, the sum and none over ranges of numbers.
use Rattle.std.specs.Prelude.{ℕ, zero, suc, ◌+◌, ◌-◌, Bool, true, false, cond, not, ◌&&◌, nat_le, nat_lt}

-- the least of the n numbers from k on that passes, or k + n where none does
abbrev pub least_of : (ℕ → Bool) → ℕ → ℕ → ℕ
least_of p k zero = k
least_of p k (suc n) = elim (p k) [ true ↦ k | false ↦ least_of p (suc k) n ]

-- The least number that passes, of those from `from` on and below `end`, or `end` where none does; `from` is not
-- above `end`.
abbrev pub least_from : (ℕ → Bool) → ℕ → ℕ → ℕ
least_from p from end = least_of p from (end - from)

-- the greatest number from 1 to n that passes, or 0 where none does
abbrev pub greatest_to : (ℕ → Bool) → ℕ → ℕ
greatest_to p zero = 0
greatest_to p (suc n) = elim (p (suc n)) [ true ↦ suc n | false ↦ greatest_to p n ]

-- the sum of f over the numbers below n that pass
abbrev pub sum_where : (ℕ → Bool) → (ℕ → ℕ) → ℕ → ℕ
sum_where p f zero = 0
sum_where p f (suc n) = sum_where p f n + cond (p n) (f n) 0

-- no number below n passes
abbrev pub none_below : (ℕ → Bool) → ℕ → Bool
none_below p zero = true
none_below p (suc n) = not (p n) && none_below p n

-- the numbers from `from` on and below `end`
abbrev pub within : ℕ → ℕ → ℕ → Bool
within from end k = nat_le from k && nat_lt k end
