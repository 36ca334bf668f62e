-- How the records of a trace nest, its work, and its first bad event. A position is a number from 0 to the
-- length, which is the end. A bad record opens and closes nothing.
use Rattle.std.specs.Prelude.{◌≡◌, ℕ, zero, suc, ◌-◌, ◌<◌, ◌≤◌, ◌⊎◌, Bool, true, false, List, length, map, take, slice_get, Option, Some, None, Ok, Err}
use Rattle.std.specs.List.{count_by, sum_by}
use Rattle.spp_event.specs.declared.records.Event.{Event}
use Rattle.spp_event.specs.declared.records.Event.TheVariants.{Strand, Call, Spawn, Ret}
use Rattle.spp_event.specs.Recordings.{Record}
use Rattle.spp_frame.specs.declared.Why.{Why}
use Rattle.spp_frame.specs.declared.Why.TheVariants as why
use Rattle.spp_frame.specs.declared.Fault.{Fault}

abbrev pub opens_frame : Record → Bool
opens_frame (Ok (Call site func)) = true
opens_frame (Ok (Spawn site func)) = true
opens_frame _ = false

abbrev pub closes_frame : Record → Bool
closes_frame (Ok Ret) = true
closes_frame _ = false

-- the count of a strand, else 0
abbrev pub weight : Record → ℕ
weight (Ok (Strand count)) = count
weight _ = 0

-- the sum of all counts
abbrev pub work : List Record → ℕ
work rs = sum_by weight rs

-- How many frames besides the root are open before position i: the opens less the returns before it. Behind a return
-- of the root, where something is wrong already, this is the number that the subtraction leaves, 0 at least.
abbrev pub depth : List Record → ℕ → ℕ
depth rs i = count_by opens_frame (take i rs) - count_by closes_frame (take i rs)

-- What is wrong at a position of that depth: a bad record, a return where only the root is open, or, at the
-- end, where no record stands, frames that are still open.
abbrev pub wrong : Option Record → ℕ → Option Why
wrong (Some (Err fault)) d = Some (why.Event fault)
wrong (Some (Ok Ret)) zero = Some why.RootReturn
wrong (Some (Ok event)) d = None
wrong None zero = None
wrong None (suc d) = Some (why.Unclosed (suc d))

abbrev pub wrong_at : List Record → ℕ → Option Why
wrong_at rs i = wrong (slice_get rs i) (depth rs i)

-- nothing is wrong before position n
abbrev pub IsGoodBefore : List Record → ℕ → Type 0
IsGoodBefore rs n = (i : ℕ) → i < n → wrong_at rs i ≡ None

-- the least position at which something is wrong, and what it is
pub record IsFirstBad (rs : List Record) (f : Fault) : Type 0 where
  pub within : f.at ≤ length rs
  pub is_wrong : wrong_at rs f.at ≡ Some f.why
  pub first : IsGoodBefore rs f.at

-- nothing is wrong at any position, the end among them
abbrev pub IsWellFormed : List Record → Type 0
IsWellFormed rs = IsGoodBefore rs (suc (length rs))

-- the records are these events
abbrev pub AreEvents : List Record → List Event → Type 0
AreEvents rs es = rs ≡ map (λ e. Ok e) es

-- ---- laws

-- there is at most one first bad event, and none in a well-formed trace
abbrev pub FirstBadIsOne : Type 0
FirstBadIsOne = (rs : List Record) (f g : Fault) → IsFirstBad rs f → IsFirstBad rs g → f ≡ g

abbrev pub WellFormedHasNone : Type 0
WellFormedHasNone = (rs : List Record) (f : Fault) → IsWellFormed rs → IsFirstBad rs f → ⊥

-- the records of a well-formed trace are events
abbrev pub WellFormedAreEvents : Type 0
WellFormedAreEvents = (rs : List Record) → IsWellFormed rs → (es : List Event) × AreEvents rs es

-- and each trace is well-formed or has one
abbrev pub WellFormedOrBad : Type 0
WellFormedOrBad = (rs : List Record) → IsWellFormed rs ⊎ ((f : Fault) × IsFirstBad rs f)
