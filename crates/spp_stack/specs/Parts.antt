-- Summaries of the parts of a trace.
use Rattle.std.specs.Prelude.{◌≡◌, ℕ, ◌+◌, List, [], ◌∷◌, length, take, drop, slice_get, Some}
use Rattle.std.specs.List.{sum_by}
use Rattle.spp_event.specs.declared.records.Event.{Event}
use Rattle.spp_event.specs.Recordings.{Record}
use Rattle.spp_frame.specs.Nesting.{AreEvents}
use Rattle.spp_cut.specs.Parts.{PartOf, CutOf}
use Rattle.spp_maxplus.specs.declared.state.Burdens.{Burdens}
use Rattle.spp_dag.specs.declared.stack.EntryFrame.{EntryFrame}
use Rattle.spp_dag.specs.Trace.{records, IsWellFormed}
use Rattle.spp_dag.specs.Limits.{IsSmall}
use Rattle.spp_dag.specs.Choices.{IsEntry}
use Rattle.spp_piece.specs.Account.{Account, account_of}
use Rattle.spp_stack.specs.Chain.{Stacks, IsStart}

-- The accounts are those, under the burdens, of parts into which the records, of which the first has that position, are
-- cut: the first account of as many records as it counts, the second of as many after these, and so on up to the last
-- record.
abbrev pub AreAccounts : Burdens → ℕ → List Record → List Account → Type 0
AreAccounts burdens first rs [] = rs ≡ []
AreAccounts burdens first rs (a ∷ others) =
    (a ≡ account_of burdens first (take a.events rs)) × AreAccounts burdens (first + a.events) (drop a.events rs) others

-- the accounts are those, under the burdens, of the parts of a cut of the events, which are a well-formed trace within
-- the limits
pub record AreOfParts (es : List Event) (burdens : Burdens) (accounts : List Account) : Type 0 where
  pub well_formed : IsWellFormed es
  pub small : IsSmall es
  pub are : AreAccounts burdens 0 (records es) accounts

-- the position where part k begins; behind the last part the end
abbrev pub begin_of : List Account → ℕ → ℕ
begin_of accounts k = sum_by (λ a. a.events) (take k accounts)

-- how many frames the parts leave open, all together
abbrev pub open_count : List Account → ℕ
open_count accounts = sum_by (λ a. length a.sum.frames) accounts

-- start k is the entry of that position under the burdens
pub record IsEntryAt (es : List Event) (burdens : Burdens) (root : ℕ) (s : Stacks) (k position : ℕ) : Type 0 where
  pub frames : List EntryFrame
  pub work : ℕ
  pub is : IsEntry es burdens root position frames work
  pub start : IsStart s k position frames work

-- start k is the entry of the position where part k begins
abbrev pub IsEntryOf : List Event → Burdens → ℕ → List Account → Stacks → ℕ → Type 0
IsEntryOf es burdens root accounts s k = IsEntryAt es burdens root s k (begin_of accounts k)

-- The stacks are those of a cut of a well-formed trace under the burdens: start k is the entry of the position where
-- part k begins, and one start more is that of the end. So a pass over part k can begin with start k.
pub record AreEntriesOf (cut : CutOf) (burdens : Burdens) (s : Stacks) : Type 0 where
  pub events : List Event
  pub are_events : AreEvents cut.trace.records events
  pub well_formed : IsWellFormed events
  pub count : length s.starts ≡ length cut.parts + 1
  pub begins : (k : ℕ) (p : PartOf) → slice_get cut.parts k ≡ Some p → IsEntryAt events burdens cut.trace.root s k p.first
  pub ends : IsEntryAt events burdens cut.trace.root s (length cut.parts) (length events)
