-- A candidate is a weight with the position of the spawn that it comes through.
use Rattle.std.specs.Prelude.{ℕ, ◌+◌, max, cond, nat_lt, Option, Some, None}

-- the greater of a weight and that of a candidate, if there is one
abbrev pub greatest : ℕ → Option (ℕ × ℕ) → ℕ
greatest n None = n
greatest n (Some c) = max n c.0

-- of two candidates the greater, and of equal ones the first
abbrev pub better : Option (ℕ × ℕ) → Option (ℕ × ℕ) → Option (ℕ × ℕ)
better None new = new
better (Some old) None = Some old
better (Some old) (Some new) = cond (nat_lt old.0 new.0) (Some new) (Some old)

-- a candidate whose weight is counted from n
abbrev pub shifted : ℕ → Option (ℕ × ℕ) → Option (ℕ × ℕ)
shifted n None = None
shifted n (Some c) = Some (n + c.0, c.1)
