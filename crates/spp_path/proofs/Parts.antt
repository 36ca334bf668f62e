-- The way back over the parts of a run.
use Rattle.std.proofs.Common.{◌≡◌, ℕ, suc, ◌+◌, ◌≤◌, refl, arith, sym, ◌∙◌, ap, subst, inl, inr, List, [], ◌∷◌, length, set, slice_get, Option, Some, None}
use Rattle.std.specs.Prelude.{MatchOption}
use Rattle.std.proofs.lemmas.Option.{slice_get-get_or}
use Rattle.spp_event.specs.declared.records.Event.{Event}
use Rattle.spp_maxplus.specs.declared.state.Burdens.{Burdens}
use Rattle.spp_dag.specs.declared.choices.Choice.{Choice}
use Rattle.spp_dag.specs.declared.choices.Choices.{Choices}
use Rattle.spp_dag.specs.declared.stack.EntryFrame.{EntryFrame}
use Rattle.spp_dag.specs.ChoiceLists.{AreChoicesIn}
use Rattle.spp_dag.specs.Choices.{IsEntry}
use Rattle.spp_stack.specs.Chain.{Stacks, IsStart}
use Rattle.spp_path.specs.declared.settling.Onward.{Onward}
use Rattle.spp_path.specs.declared.settled.Under.{Under}
use Rattle.spp_path.specs.declared.settled.Under.TheVariants as under
use Rattle.spp_path.specs.Settled.{position, burdens_under, joins_under, state_under, choice_of, AreOfRun}
use Rattle.spp_path.specs.Placing.{AreRisingTo}
use Rattle.spp_path.specs.Ways.{AreNotesIn}
use Rattle.spp_path.proofs.AtEnd.{listed, root_alone, end_notes}
use Rattle.spp_path.proofs.Lived.{set_cases}

module _ (es : List Event) (burdens : Burdens) (root : ℕ) (s : Stacks) (choices : List Choices) (run : AreOfRun es burdens root s choices) where
  -- what is taken at the end
  pub last_notes : (u : Under) (choice : Option Choice)
      → ((parts at work : ℕ) (f : EntryFrame) → parts + 1 ≡ length s.starts → IsStart s parts at (f ∷ []) work → choice ≡ choice_of at (state_under u f))
      → (joins : List Choice) → joins ≡ listed choice → AreNotesIn es (burdens_under u burdens) (length es) (suc (length es)) [] joins
  last_notes u choice is joins e =
      let entry = run.entries (length choices) (let z : length choices ≤ length choices = omega arith in z) in
      let here : IsEntry es burdens root (length es) entry.frames entry.work = subst (λ k. IsEntry es burdens root k entry.frames entry.work) run.ends entry.is in
      let alone = root_alone es run.well_formed burdens root entry.work entry.frames here in
      let start : IsStart s (length choices) (length es) entry.frames entry.work = subst (λ k. IsStart s (length choices) k entry.frames entry.work) run.ends entry.start in
      let same : choice ≡ choice_of (length es) (state_under u alone.0) =
      is (length choices) (length es) entry.work alone.0 (let z = run.count in omega arith) (subst (λ fs. IsStart s (length choices) (length es) fs entry.work) alone.1 start) in
      subst (λ js. AreNotesIn es (burdens_under u burdens) (length es) (suc (length es)) [] js) (sym (e ∙ ap listed same))
      (end_notes es run.well_formed burdens root entry.work alone.0 (subst (λ fs. IsEntry es burdens root (length es) fs entry.work) alone.1 here) u)

  -- and in a part
  pub part_notes : (u : Under) (k : ℕ) (c : Choices) → slice_get choices k ≡ Some c → AreNotesIn es (burdens_under u burdens) (position s k) (position s (suc k)) c.ends.items (joins_under u c)
  part_notes u k c is = by u (run.parts k c is)
    where
      by : (u : Under) → (position s k ≤ position s (suc k)) × AreChoicesIn es burdens (position s k) (position s (suc k)) c
          → AreNotesIn es (burdens_under u burdens) (position s k) (position s (suc k)) c.ends.items (joins_under u c)
      by under.Zero h = record { rising = h.0; are_ends = h.1.ends; are_joins = h.1.joins }
      by under.Burdens h = record { rising = h.0; are_ends = h.1.ends; are_joins = h.1.burdened_joins }

  -- parts don't overlap
  pub starts_rise : AreRisingTo s
  starts_rise k l =
      let n = run.count in
      by choices refl
    where
      by : (xs : List Choices) → xs ≡ choices → position s k ≤ position s (suc k)
      by [] e = absurd (let z : length choices ≡ 0 = ap (λ (x : List Choices). length x) (sym e) in let y = run.count in omega arith)
      by (x ∷ xs) e = (run.parts k _ (slice_get-get_or choices k x (let y = run.count in omega arith))).0

-- what is known of each place from one on, where that one is written
pub written : (P : ℕ → Onward → Type 0) (onwards : List Onward) (part : ℕ) (v : Onward) → P part v → ((k : ℕ) (o : Onward) → suc part ≤ k → slice_get onwards k ≡ Some o → P k o)
    → (k : ℕ) (o : Onward) → part ≤ k → slice_get (set onwards part v) k ≡ Some o → P k o
written P onwards part v here later k o l e = elim (set_cases onwards part k v o e) [
  | inl q ↦ subst (λ x. P k x) q.1 (subst (λ x. P x v) (sym q.0) here)
  | inr q ↦ later k o (above q.0) q.1
]
  where
    above : (k ≡ part → ⊥) → suc part ≤ k
    above n = omega (arith, n)

-- a choice, if there is one, as a slice
pub sliced : (o : Option Choice) (xs : List Choice) → MatchOption o (xs ≡ []) (λ x. xs ≡ x ∷ []) → xs ≡ listed o
sliced None xs h = h
sliced (Some c) xs h = h
