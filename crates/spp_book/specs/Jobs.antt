-- What a job keeps, as far as the words don't depend on a trait. A value of parts i to k is that of the parts i, i + 1 and
-- so on up to k - 1 together.
use Rattle.std.specs.Prelude.{◌≡◌, ℕ, ◌+◌, ◌<◌, ◌≤◌, List}

-- there is a job of which these are the values of neighbouring parts
abbrev pub AreNeighbours : {C : Type 0} → (List ℕ → ℕ) → (List ℕ → ℕ → ℕ → C → Type 0) → C → C → Type 0
AreNeighbours parts value left right =
    (name : List ℕ) × (i : ℕ) × (j : ℕ) × (k : ℕ) × (i < j) × (j < k) × (k ≤ parts name) × value name i j left × value name j k right

-- the value of both together, whichever job and parts they are of
abbrev pub IsJoined : {C : Type 0} → (List ℕ → ℕ) → (List ℕ → ℕ → ℕ → C → Type 0) → C → C → C → Type 0
IsJoined parts value left right both =
    (name : List ℕ) (i j k : ℕ) → i < j → j < k → k ≤ parts name → value name i j left → value name j k right → value name i k both

-- a content that is a value wherever the other is
abbrev pub IsCopied : {C : Type 0} → (List ℕ → ℕ → ℕ → C → Type 0) → C → C → Type 0
IsCopied value content copy = (name : List ℕ) (i k : ℕ) → value name i k content → value name i k copy

-- both come back, each a value wherever it was one
abbrev pub IsHandedBack : {C : Type 0} → (List ℕ → ℕ → ℕ → C → Type 0) → C → C → C → C → Type 0
IsHandedBack value left right back_left back_right = IsCopied value left back_left × IsCopied value right back_right

-- the number is that of a part, and the range is that of the number
abbrev pub IsOurs : ℕ → (ℕ → ℕ × ℕ) → ℕ → ℕ → ℕ → Type 0
IsOurs parts range number first events = (number < parts) × (range number ≡ (first, events))

-- where the piece is of the job, its content is the job's value of that part
abbrev pub IsPieceOf : {C : Type 0} → ℕ → (ℕ → ℕ × ℕ) → (ℕ → ℕ → C → Type 0) → ℕ → ℕ → ℕ → C → Type 0
IsPieceOf parts range value number first events content = IsOurs parts range number first events → value number (number + 1) content
