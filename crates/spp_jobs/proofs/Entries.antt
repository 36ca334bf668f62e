-- The entries of a cut are those of its parts.
use Rattle.std.proofs.Common.{◌≡◌, ℕ, ◌+◌, ◌≤◌, ◌^◌, List, length, map, get_or, Some, Result, Ok, Err, IfOk, sym, ap, subst, ◌∙◌, arith}
use Rattle.std.specs.Prelude.{slice_get}
use Rattle.std.proofs.lemmas.List.{length-map}
use Rattle.std.proofs.lemmas.Option.{slice_get_within, slice_get-get_or}
use Rattle.spp_event.specs.declared.records.Event.{Event}
use Rattle.spp_event.specs.Recordings.{Record, Recording, AreEventsOf}
use Rattle.spp_frame.specs.Nesting as nesting
use Rattle.spp_frame.specs.Nesting.{AreEvents}
use Rattle.spp_frame.proofs.Laws.{well_formed_are_events}
use Rattle.spp_cut.specs.Parts.{PartOf, CutOf, IsCut}
use Rattle.spp_maxplus.specs.declared.state.Burdens.{Burdens}
use Rattle.spp_dag.specs.declared.stack.EntryFrame.{EntryFrame}
use Rattle.spp_dag.specs.Trace.{IsWellFormed}
use Rattle.spp_dag.specs.Choices.{IsEntry}
use Rattle.spp_piece.specs.Account.{Account}
use Rattle.spp_stack.specs.Chain.{Stacks, StackOf, IsStart, HasFrames}
use Rattle.spp_stack.specs.Parts.{begin_of, AreOfParts, IsEntryAt, IsEntryOf, AreEntriesOf}
use Rattle.spp_pass.specs.Outside.{StandsAt}
use Rattle.spp_jobs.proofs.Accounts.{account_in, are_of_parts}
use Rattle.spp_dag.proofs.EventsOfRecords.{known_small}
use Rattle.spp_jobs.proofs.Begins.{begin_in, PartAt, part_at, all_parts, begin_is}

-- a part of a cut
pub part_of_cut : (cut : CutOf) → IsCut cut → (k : ℕ) (p : PartOf) → slice_get cut.parts k ≡ Some p → PartAt cut.trace 0 cut.parts k p
part_of_cut cut whole k p is =
    let lt = slice_get_within cut.parts k p is in
    let got = slice_get-get_or cut.parts k p lt in
    let same : get_or cut.parts k p ≡ p = cc in
    subst (λ (q : PartOf). PartAt cut.trace 0 cut.parts k q) same (part_at cut.trace 0 0 (length cut.trace.records) cut.parts whole k p lt)

-- ---- where the stacks are told by the accounts of the parts

-- the accounts are those of the parts of these events
pub record OfCut (cut : CutOf) (burdens : Burdens) (accounts : List Account) : Type 0 where
  pub events : List Event
  pub are_events : AreEvents cut.trace.records events
  pub are : AreOfParts events burdens accounts

pub of_cut : (cut : CutOf) (u : Recording) (b : Burdens) (accounts : List Account) → IsCut cut → accounts ≡ map (account_in b) cut.parts → nesting.IsWellFormed cut.trace.records
    → u ≡ cut.trace → length u.records ≤ 2 ^ 28 → AreEventsOf (length u.sites) (length u.funcs) u.records → OfCut cut b accounts
of_cut cut u b accounts whole are_of wf same few good =
    let all = well_formed_are_events cut.trace.records wf in
    let small = known_small u.records (length u.sites) (length u.funcs) all.0 few (ap (λ (v : Recording). v.records) same ∙ all.1) good in
    record {
      events = all.0;
      are_events = all.1;
      are = are_of_parts cut.trace b cut.parts accounts all.0 whole are_of wf all.1 small;
    }

module _ (cut : CutOf) (whole : IsCut cut) (b : Burdens) (accounts : List Account) (are_of : accounts ≡ map (account_in b) cut.parts) (es : List Event) (are : AreEvents cut.trace.records es) (s : Stacks)
    (told : (k : ℕ) → k ≤ length accounts → IsEntryOf es b cut.trace.root accounts s k) where
  long : length accounts ≡ length cut.parts
  long = ap (λ (l : List Account). length l) are_of ∙ length-map cut.parts (account_in b)

  begin : (k : ℕ) → begin_of accounts k ≡ begin_in cut.parts k
  begin k = ap (λ (l : List Account). begin_of l k) are_of ∙ begin_is cut.trace b 0 0 cut.parts whole k

  entry_of : (k : ℕ) (p : PartOf) → slice_get cut.parts k ≡ Some p → IsEntryAt es b cut.trace.root s k p.first
  entry_of k p is =
      let lt = slice_get_within cut.parts k p is in
      let at = part_of_cut cut whole k p is in
      let first = at.first in
      let here : begin_of accounts k ≡ p.first = begin k ∙ (let z : begin_in cut.parts k ≡ p.first = omega arith in z) in
      subst (λ n. IsEntryAt es b cut.trace.root s k n) here (told k (omega (arith, long)))

  entry_of_end : IsEntryAt es b cut.trace.root s (length cut.parts) (length es)
  entry_of_end =
      let all = all_parts cut.trace 0 0 (length cut.trace.records) cut.parts whole in
      let last : length cut.trace.records ≡ length es = ap (λ (l : List Record). length l) are ∙ length-map es (λ e. Ok e) in
      let here : begin_of accounts (length cut.parts) ≡ length es = begin (length cut.parts) ∙ (let z : begin_in cut.parts (length cut.parts) ≡ length es = omega arith in z) in
      subst (λ n. IsEntryAt es b cut.trace.root s (length cut.parts) n) here (told (length cut.parts) (omega (arith, long)))

  pub are_entries : IsWellFormed es → length s.starts ≡ length accounts + 1 → AreEntriesOf cut b s
  are_entries wf count = record {
    events = es;
    are_events = are;
    well_formed = wf;
    count = omega (arith, long);
    begins = entry_of;
    ends = entry_of_end;
  }

-- what is said of a good result by two clauses
pub both_ok : {X E : Type 0} {P Q R : X → Type 0} (x : Result X E) → ((r : X) → P r → Q r → R r) → IfOk x P → IfOk x Q → IfOk x R
both_ok (Ok r) f p q = f r p q
both_ok (Err e) f p q = tt

-- ---- what they are for

module _ (cut : CutOf) (b : Burdens) (s : Stacks) (e : AreEntriesOf cut b s) (k : ℕ) (p : PartOf) (is : slice_get cut.parts k ≡ Some p) (stack : StackOf)
    (starts : (at : ℕ) (fs : List EntryFrame) (work : ℕ) → IsStart s k at fs work → HasFrames stack fs × (stack.at ≡ at) × (stack.work ≡ work)) where
  -- a pass over part k can begin with start k
  pub entry_stands : IsCut cut → StandsAt p.trace b p.first stack
  entry_stands whole =
      let at = part_of_cut cut whole k p is in
      let at_k = e.begins k p is in
      let is_start = starts p.first at_k.frames at_k.work at_k.start in
      subst (λ (u : Recording). StandsAt u b p.first stack) (sym at.trace) (
        e.events,
        e.are_events,
        e.well_formed,
        (at_k.frames, subst (λ w. IsEntry e.events b cut.trace.root p.first at_k.frames w) (sym is_start.2) at_k.is, is_start.0),
      )

  -- whose position is that of the part's first event
  pub entry_begins : stack.at ≡ p.first
  entry_begins =
      let at_k = e.begins k p is in
      (starts p.first at_k.frames at_k.work at_k.start).1
