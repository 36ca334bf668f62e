-- The counter of the drawn numbers: what each seat at it knows, and the rule that all of them keep.
use Rattle.std.specs.Prelude.{◌≡◌, ℕ, zero, suc, ◌+◌, ◌^◌, ◌<◌, ◌≤◌, Bool, false, ◌||◌, nat_le, nat_lt, nat_eq, cond, List, [], ◌∷◌}
use mathlib.Core.Option.{some}
use lib.ListN.{get_elem?}
use Rattle.spp_book.specs.declared.counter.Hand.{Hand}

abbrev pub hand : ℕ → List ℕ → Hand
hand workers drawn = record { workers = workers; drawn = drawn }

-- f of each, added up
abbrev pub total : {A : Type 0} → (A → ℕ) → List A → ℕ
total f [] = 0
total f (x ∷ xs) = f x + total f xs

-- h of each number below n, added up
abbrev pub sum_below : (ℕ → ℕ) → ℕ → ℕ
sum_below h zero = 0
sum_below h (suc n) = sum_below h n + h n

-- 1 for a number that is not below parts
abbrev pub past : ℕ → ℕ → ℕ
past parts x = cond (nat_le parts x) 1 0

-- a number that is not below parts is among them
abbrev pub has_past : ℕ → List ℕ → Bool
has_past parts [] = false
has_past parts (x ∷ xs) = nat_le parts x || has_past parts xs

-- 1 for the number itself
abbrev pub is_one : ℕ → ℕ → ℕ
is_one x y = cond (nat_eq x y) 1 0

-- the number is not among them
abbrev pub IsNew : ℕ → List ℕ → Type 0
IsNew x drawn = total (is_one x) drawn ≡ 0

-- each number below n is among them once, and no other one is
abbrev pub IsEachBelow : ℕ → List ℕ → Type 0
IsEachBelow n drawn = (x : ℕ) → total (is_one x) drawn ≡ cond (nat_lt x n) 1 0

-- The rule, of the one word and of what the seats know. The seats together hold the numbers below the word, each once,
-- however they are weighed. Their allowances add up. Each holds at most as many numbers not below parts as its allowance,
-- and none at all where it has no allowance.
pub record Kept (parts all : ℕ) (words : List ℕ) (views : List Hand) : Type 0 where
  pub next : ℕ
  pub word : words ≡ next ∷ []
  pub workers : total (λ v. v.workers) views ≡ all
  pub drawn : (h : ℕ → ℕ) → total (λ v. total h v.drawn) views ≡ sum_below h next
  pub few : (id : ℕ) (v : Hand) → get_elem? views id ≡ some v → total (past parts) v.drawn ≤ v.workers
  pub idle : (id : ℕ) (v : Hand) → get_elem? views id ≡ some v → v.workers ≡ 0 → v.drawn ≡ []
  pub small : parts + all < 2 ^ 63
