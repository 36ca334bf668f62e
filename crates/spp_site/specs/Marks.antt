-- A set of numbers, kept as a bit for each number.
use Rattle.std.specs.Prelude.{ℕ, Bool, true, false, not, ◌&&◌, ◌||◌, nat_eq, List, slice_index_or}

-- a number behind the last bit is not in the set
abbrev pub is_marked : List Bool → ℕ → Bool
is_marked bits x = slice_index_or bits x false

-- a set with one number more
abbrev pub with_mark : ℕ → (ℕ → Bool) → ℕ → Bool
with_mark x marks y = nat_eq x y || marks y

-- a set, without a number where that is taken out
abbrev pub without : Bool → ℕ → (ℕ → Bool) → ℕ → Bool
without true x marks y = not (nat_eq x y) && marks y
without false x marks y = marks y
