-- What contracts see of a desk and of a pass.
use Rattle.std.specs.Prelude.{◌≡◌, ℕ, ◌<◌, ◌≤◌, false, List, MatchOption}
use Rattle.atomic_table.specs.Seated.{TableId}
use Rattle.spp_book.specs.Counters.{has_past}
use Rattle.spp_book.specs.declared.book.Front.{Front}
use Rattle.spp_book.specs.declared.piece.Why.{Why}
use Rattle.spp_book.specs.declared.piece.Why.TheVariants.{Stranger, Double}
use Rattle.spp_book.specs.declared.piece.CloseFault.{CloseFault}
use Rattle.spp_book.specs.declared.piece.CloseFault.TheVariants as close

-- A pass: the table of its seat at the counter, the number of parts, its allowance of workers, the numbers that were
-- drawn with it, in the order of the draws, and how many accepted pieces are its own.
pub record PassView : Type 0 where
  pub table : TableId
  pub parts : ℕ
  pub workers : ℕ
  pub drawn : List ℕ
  pub share : ℕ

-- A desk: the table of its counter, and the number of parts.
pub record DeskView : Type 0 where
  pub table : TableId
  pub parts : ℕ

-- the pass is one of this desk
abbrev pub IsOf : PassView → DeskView → Type 0
IsOf pass desk = (pass.table ≡ desk.table) × (pass.parts ≡ desk.parts)

-- the pass holds no number that is not below the parts
abbrev pub IsOpen : PassView → Type 0
IsOpen pass = has_past pass.parts pass.drawn ≡ false

-- a stranger is what is not ours, and nothing else is
abbrev pub IsStranger : Why → Type 0 → Type 0
IsStranger Stranger ours = ¬ ours
IsStranger Double ours = ours

-- a double is told only where some piece was accepted, which the pass of all workers has in its share
abbrev pub IsDoubleOf : Why → ℕ → Type 0
IsDoubleOf Stranger share = Unit {0}
IsDoubleOf Double share = 0 < share

-- a part is missing only where fewer pieces were put than there are parts, and no fewer than there are parts before it;
-- memory was wanting only where as many were put as there are parts
abbrev pub IsShort : CloseFault → ℕ → ℕ → Type 0
IsShort (close.Missing number) share parts = (number ≤ share) × (share < parts)
IsShort close.Memory share parts = share ≡ parts

-- the content is the value of the joined parts, and there is none where none are joined
abbrev pub IsFrontOf : {C : Type 0} → (ℕ → ℕ → C → Type 0) → Front C → Type 0
IsFrontOf value front = MatchOption front.content (front.parts ≡ 0) (λ c. (0 < front.parts) × value 0 front.parts c)
