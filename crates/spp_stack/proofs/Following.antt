-- The entry behind a part is what the part's summary makes of the entry before it.
use Rattle.std.proofs.Common.{◌≡◌, ℕ, zero, suc, ◌+◌, ◌<◌, ◌≤◌, ◌^◌, List, [], ◌∷◌, ◌++◌, length, map, drop, Some, Ok, refl, sym, ap, subst, ◌∙◌, arith}
use Rattle.std.proofs.lemmas.Option.{slice_get_within}
use Rattle.spp_maxplus.specs.declared.state.Burdens.{Burdens}
use Rattle.spp_event.specs.declared.records.Event.{Event}
use Rattle.spp_event.specs.Recordings.{Record}
use Rattle.spp_dag.specs.declared.stack.EntryFrame.{EntryFrame}
use Rattle.spp_dag.specs.declared.stack.OpenFrame.{OpenFrame}
use Rattle.spp_dag.specs.Trace.{records, event_at, weight, weight_of, IsWellFormed}
use Rattle.spp_dag.specs.Choices.{IsEntry, entry_frame}
use Rattle.spp_dag.specs.Steps.{entry_after}
use Rattle.spp_dag.specs.Limits.{IsSmall, AreSmall, plain_sum, burdened_sum}
use Rattle.spp_dag.proofs.Steps.{entry_follows}
use Rattle.spp_dag.proofs.Stacks.{stack_stands}
use Rattle.spp_dag.proofs.Bounds.{stack_fits}
use Rattle.spp_piece.specs.Machine.{event, events}
use Rattle.spp_piece.specs.Summary.{summary_of, play}
use Rattle.spp_piece.proofs.Play.{play_summary}
use Rattle.spp_stack.specs.Machine.{Now, now, entry_ops, IsOpen, peaks}
use Rattle.spp_stack.proofs.Actions.{entry_laws, step_is}

same_some : {A : Type 0} (a b : List A) → Some a ≡ Some b → a ≡ b
same_some a b e = cc

pub record Next (es : List Event) (i : ℕ) (r : Record) (rest : List Record) : Type 0 where
  pub e : Event
  pub is : r ≡ Ok e
  pub at : event_at es i ≡ Some e
  pub left : drop (suc i) (records es) ≡ rest

pub next : (es : List Event) (i : ℕ) (r : Record) (rest : List Record) → drop i (records es) ≡ r ∷ rest → Next es i r rest
next [] zero r rest h = absurd (cc)
next [] (suc n) r rest h = absurd (cc)
next (x ∷ xs) zero r rest h =
    let e : r ≡ Ok x = cc in
    let f : records xs ≡ rest = cc in
    record { e = x; is = e; at = refl; left = f }
next (x ∷ xs) (suc n) r rest h =
    let m = next xs n r rest h in
    record { e = m.e; is = m.is; at = m.at; left = m.left }

-- some frame is open at each position
pub open_entry : (es : List Event) → IsWellFormed es → (burdens : Burdens) (root i : ℕ) → i ≤ length es → (fs : List EntryFrame) (work : ℕ) → IsEntry es burdens root i fs work → IsOpen fs
open_entry es wf burdens root i l fs work h =
    let s = stack_stands es wf burdens root i l in
    let e : h.0 ≡ s.0 ∷ s.1 = same_some h.0 (s.0 ∷ s.1) (sym h.1 ∙ s.2) in
    subst (λ (gs : List EntryFrame). IsOpen gs) (sym (h.2 ∙ ap (λ (gs : List OpenFrame). map (entry_frame es root) gs) e)) tt

pub record Follows (es : List Event) (burdens : Burdens) (root i : ℕ) (x : Now) : Type 0 where
  pub within : i ≤ length es
  pub is : IsEntry es burdens root i x.frames x.work

module _ (es : List Event) (wf : IsWellFormed es) (burdens : Burdens) (root : ℕ) where
  abbrev FollowsAt : ℕ → Now → Type 0
  FollowsAt i x = Follows es burdens root i x

  pub events_follow : (i : ℕ) (rs more : List Record) (x : Now) → drop i (records es) ≡ rs ++ more → Follows es burdens root i x
      → Follows es burdens root (i + length rs) (events (entry_ops burdens) i rs x)
  events_follow i [] more x d h = subst (λ k. FollowsAt k x) (let z : i ≡ i + 0 = omega arith in z) h
  events_follow i (r ∷ rs) more x d h =
      let n = next es i r (rs ++ more) d in
      let inside = slice_get_within es i n.e n.at in
      let one = entry_follows es wf burdens root i n.e n.at x.frames x.work h.is in
      let after = entry_after burdens i n.e x.work x.frames in
      let goes = open_entry es wf burdens root (suc i) (omega arith) after (x.work + weight es i) one in
      let weigh : weight es i ≡ weight_of (Some n.e) = ap weight_of n.at in
      let step = event (entry_ops burdens) i r x in
      let same : step ≡ now after (x.work + weight es i) =
      ap (λ q. event (entry_ops burdens) i q x) n.is ∙ step_is burdens i n.e x.frames x.work goes ∙ ap (λ k. now after (x.work + k)) (sym weigh) in
      let up : suc i ≡ i + 1 = omega arith in
      let stepped : FollowsAt (i + 1) step =
      subst (λ k. FollowsAt k step) up (subst (λ (y : Now). FollowsAt (suc i) y) (sym same) (record { within = omega arith; is = one })) in
      let left : drop (i + 1) (records es) ≡ rs ++ more = subst (λ k. drop k (records es) ≡ rs ++ more) up n.left in
      subst (λ k. FollowsAt k (events (entry_ops burdens) (i + 1) rs step)) (let z : i + 1 + length rs ≡ i + suc (length rs) = omega arith in z)
      (events_follow (i + 1) rs more step left stepped)

  -- by its summary
  pub part_follows : (i : ℕ) (rs more : List Record) (x : Now) → drop i (records es) ≡ rs ++ more → Follows es burdens root i x
      → Follows es burdens root (i + length rs) (play (entry_ops burdens) (summary_of burdens i rs) x)
  part_follows i rs more x d h =
      subst (λ (y : Now). FollowsAt (i + length rs) y) (sym (play_summary burdens (entry_ops burdens) (entry_laws burdens) i rs x)) (events_follow i rs more x d h)

-- ---- the weights of an entry

peaks_are : (es : List Event) (root : ℕ) (fs : List OpenFrame) → peaks (map (entry_frame es root) fs) ≡ plain_sum fs + burdened_sum fs
peaks_are es root [] = refl
peaks_are es root (f ∷ fs) = let e = peaks_are es root fs in omega arith

pub entry_fits : (es : List Event) → IsWellFormed es → IsSmall es → (burdens : Burdens) → AreSmall burdens → (root i : ℕ) (x : Now) → Follows es burdens root i x → peaks x.frames < 2 ^ 94
entry_fits es wf small burdens light root i x h =
    let fits = stack_fits es wf small burdens light i h.is.0 h.within (root, h.is.1) in
    let e = ap peaks h.is.2 in
    let f = peaks_are es root h.is.0 in
    omega (arith, fits.0, fits.1)
