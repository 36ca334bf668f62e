-- The job of a list: its name is the list of its numbers, and each is a part of one event.
use Rattle.std.specs.Prelude.{◌≡◌, ℕ, ◌-◌, List, length, take, drop}
use Rattle.book_tests.specs.declared.list_job.Listed.{Listed}

abbrev pub list_parts : List ℕ → ℕ
list_parts name = length name

abbrev pub list_range : List ℕ → ℕ → ℕ × ℕ
list_range name k = (k, 1)

-- these are the numbers from i up to, not including, k
abbrev pub IsRange : List ℕ → ℕ → ℕ → Listed → Type 0
IsRange name i k c = c.items.items ≡ take (k - i) (drop i name)
