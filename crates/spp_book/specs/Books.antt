-- What contracts see of a book, and what its calls do.
use Rattle.std.specs.Prelude.{◌≡◌, ℕ, ◌+◌, ◌-◌, ◌<◌, ◌≤◌, ◌⊎◌, Bool, true, false, List, length, get_or, set, Option, None, Some, is_some, count_by, unwrap_or, MatchOption}
use Rattle.spp_book.specs.declared.book.Front.{Front}
use Rattle.spp_book.specs.declared.book.Run.{Run}
use Rattle.spp_book.specs.declared.piece.Why.{Why}
use Rattle.spp_book.specs.declared.piece.Why.TheVariants.{Stranger, Double}
use Rattle.spp_book.specs.declared.piece.CloseFault.{CloseFault}
use Rattle.spp_book.specs.declared.piece.CloseFault.TheVariants as close

-- A book: the name of its job; for each part whether it was accepted; and for each part where the run ends that begins
-- there, if one does. A run is neighbouring parts whose contents have been joined.
pub record BookView : Type 0 where
  pub name : List ℕ
  pub accepted : List Bool
  pub runs : List (Option ℕ)

-- how many parts were accepted
abbrev pub count_of : List Bool → ℕ
count_of flags = count_by (λ b. b) flags

-- whether the part was accepted
abbrev pub is_accepted : List Bool → ℕ → Bool
is_accepted flags k = get_or flags k false

-- where the run ends that begins at this part, if one does
abbrev pub end_at : List (Option ℕ) → ℕ → Option ℕ
end_at runs k = get_or runs k None

-- the cause of a refusal is the first that holds
abbrev pub WhyIs : Why → Type 0 → Bool → Type 0
WhyIs Stranger ours taken = ¬ ours
WhyIs Double ours taken = ours × (taken ≡ true)

-- a run begins at f and ends at p, and another begins there
abbrev pub MeetAt : List (Option ℕ) → ℕ → ℕ → Type 0
MeetAt runs f p = (end_at runs f ≡ Some p) × (is_some (end_at runs p) ≡ true)

-- two runs meet at p
abbrev pub AreMet : List (Option ℕ) → ℕ → Type 0
AreMet runs p = (f : ℕ) × MeetAt runs f p

-- the run that begins at f, and no other one, meets one at p
abbrev pub IsLeftOf : List (Option ℕ) → ℕ → ℕ → Type 0
IsLeftOf runs p f = MeetAt runs f p × ((g : ℕ) → MeetAt runs g p → g ≡ f)

-- the runs that begin at f and at p are one, or still two; that it was a refused join that left two isn't said
abbrev pub IsOneOrBoth : ℕ → ℕ → List (Option ℕ) → List (Option ℕ) → Type 0
IsOneOrBoth f p old new = (new ≡ set (set old p None) f (end_at old p)) ⊎ (new ≡ old)

-- Where two runs meet at p they are one, or still two; where there is only one of them, or none, nothing changes.
pub record IsJoinedAt (p : ℕ) (old new : List (Option ℕ)) : Type 0 where
  pub both : (f : ℕ) → MeetAt old f p → IsOneOrBoth f p old new
  pub none : ¬ (AreMet old p) → new ≡ old

-- the runs after a part was accepted: it is a run of its own, which is then joined with its neighbours
pub record IsPut (number : ℕ) (old new : List (Option ℕ)) : Type 0 where
  pub between : List (Option ℕ)
  pub left : IsJoinedAt number (set old number (Some (number + 1))) between
  pub right : IsJoinedAt (number + 1) between new

-- the number is the least of a part that was not accepted
abbrev pub IsLeast : List Bool → ℕ → Type 0
IsLeast accepted number = (number < length accepted) × (is_accepted accepted number ≡ false) × ((k : ℕ) → k < number → is_accepted accepted k ≡ true)

-- a part is missing, and the least one is told; or none is, and memory was wanting
abbrev pub MissingIs : CloseFault → List Bool → Type 0
MissingIs (close.Missing number) accepted = IsLeast accepted number
MissingIs close.Memory accepted = count_of accepted ≡ length accepted

-- The run that begins at the first part, as far as it goes, and the number of accepted parts.
pub record IsFront {C : Type 0} (value : ℕ → ℕ → C → Type 0) (book : BookView) (front : Front C) : Type 0 where
  pub parts : front.parts ≡ unwrap_or (end_at book.runs 0) 0
  pub accepted : front.accepted ≡ count_of book.accepted
  pub content : MatchOption front.content (front.parts ≡ 0) (λ c. (0 < front.parts) × value 0 front.parts c)

-- ---- what a book keeps

-- A run that begins at f: it isn't empty and lies within the parts, its content is their value, its last part has a note
-- of where it begins, and each of its parts was accepted, that is, has some note.
pub record IsRun {C : Type 0} (parts : ℕ) (value : ℕ → ℕ → C → Type 0) (note : ℕ → Option ℕ) (f : ℕ) (r : Run C) : Type 0 where
  pub some : f < r.end
  pub inside : r.end ≤ parts
  pub content : value f r.end r.content
  pub noted : note (r.end - 1) ≡ Some f
  pub taken : (k : ℕ) → f ≤ k → k < r.end → is_some (note k) ≡ true

-- By the part where each begins: the runs lie apart, and have the accepted parts and no others.
pub record AreRuns {C : Type 0} (parts : ℕ) (value : ℕ → ℕ → C → Type 0) (run : ℕ → Option (Run C)) (note : ℕ → Option ℕ) : Type 0 where
  pub runs : (f : ℕ) (r : Run C) → run f ≡ Some r → IsRun parts value note f r
  pub apart : (f g : ℕ) (r s : Run C) → run f ≡ Some r → run g ≡ Some s → f < g → r.end ≤ g
  pub covered : (k : ℕ) → is_some (note k) ≡ true → (f : ℕ) × (r : Run C) × (run f ≡ Some r) × (f ≤ k) × (k < r.end)

-- the entry of a list at k; none behind its last
abbrev pub entry : {X : Type 0} → List (Option X) → ℕ → Option X
entry xs k = get_or xs k None
