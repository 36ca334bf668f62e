-- The stacks and the choices of the parts of a cut are those of a run, so that its paths can be settled.
use Rattle.std.proofs.Common.{◌≡◌, ℕ, zero, suc, ◌+◌, ◌≤◌, List, [], ◌∷◌, length, Some, Ok, inl, inr, refl, sym, ap, subst, ◌∙◌, arith}
use Rattle.std.specs.Prelude.{slice_get}
use Rattle.std.proofs.lemmas.Option.{slice_get_within, slice_get_cases, same_Some}
use Rattle.std.proofs.lemmas.List.{length-map}
use Rattle.spp_event.specs.declared.records.Event.{Event}
use Rattle.spp_event.specs.Recordings.{Record, Recording}
use Rattle.spp_frame.specs.Nesting.{AreEvents}
use Rattle.spp_cut.specs.Parts.{PartOf, CutOf, Cover, IsCut}
use Rattle.spp_maxplus.specs.declared.state.Burdens.{Burdens}
use Rattle.spp_dag.specs.declared.choices.Choices.{Choices}
use Rattle.spp_dag.specs.declared.stack.EntryFrame.{EntryFrame}
use Rattle.spp_dag.specs.ChoiceLists.{AreChoicesIn}
use Rattle.spp_dag.proofs.EventsOfRecords.{same_events}
use Rattle.spp_stack.specs.Chain.{Stacks, StackOf, IsStart, HasFrames}
use Rattle.spp_stack.specs.Parts.{IsEntryAt, AreEntriesOf}
use Rattle.spp_path.specs.Parts.{IsPlaced, IsSettledIn}
use Rattle.spp_path.specs.Settled.{PathOf, position, at_of, burdens_under, AreOfRun, IsSettled}
use Rattle.spp_path.specs.declared.settled.Under.{Under}
use Rattle.spp_jobs.specs.Choices.{AreChoicesOf}
use Rattle.spp_jobs.proofs.Begins.{begin_in, begin_zero, all_parts}
use Rattle.spp_jobs.proofs.Entries.{part_of_cut}

-- ---- lists

pub chosen_count : (es : List Event) (b : Burdens) (ps : List PartOf) (cs : List Choices) → AreChoicesOf es b ps cs → length cs ≡ length ps
chosen_count es b [] [] h = refl
chosen_count es b [] (c ∷ cs) h = absurd h
chosen_count es b (p ∷ ps) [] h = absurd h
chosen_count es b (p ∷ ps) (c ∷ cs) h = let n = chosen_count es b ps cs h.1 in omega arith

chosen_at : (es : List Event) (b : Burdens) (ps : List PartOf) (cs : List Choices) → AreChoicesOf es b ps cs → (k : ℕ) (c : Choices) → slice_get cs k ≡ Some c
    → (p : PartOf) × (slice_get ps k ≡ Some p) × AreChoicesIn es b p.first (p.first + p.count) c
chosen_at es b [] [] h k c is = cc
chosen_at es b [] (d ∷ cs) h k c is = absurd h
chosen_at es b (p ∷ ps) [] h k c is = absurd h
chosen_at es b (p ∷ ps) (d ∷ cs) h zero c is = (p, refl, subst (λ x. AreChoicesIn es b p.first (p.first + p.count) x) (same_Some d c is) h.0)
chosen_at es b (p ∷ ps) (d ∷ cs) h (suc k) c is = chosen_at es b ps cs h.1 k c is

pub number_at : (t : Recording) (number from end : ℕ) (ps : List PartOf) → Cover t number from ps end → (k : ℕ) (p : PartOf) → slice_get ps k ≡ Some p → p.number ≡ number + k
number_at t number from end [] h k p is = cc
number_at t number from end (q ∷ ps) h zero p is =
    let same : p.number ≡ q.number = ap (λ (x : PartOf). x.number) (sym (same_Some q p is)) in
    let n : q.number ≡ number = h.1 in
    omega arith
number_at t number from end (q ∷ ps) h (suc k) p is = let n = number_at t (suc number) (from + q.count) end ps h.3 k p is in omega arith

-- ---- the starts

start_at : (s : Stacks) (k at : ℕ) (fs : List EntryFrame) (work : ℕ) → IsStart s k at fs work → position s k ≡ at
start_at s k at fs work h = ap at_of h.is ∙ sym h.at

module _ (cut : CutOf) (whole : IsCut cut) (b : Burdens) (s : Stacks) (e : AreEntriesOf cut b s) where
  begins_at : (k : ℕ) (p : PartOf) → slice_get cut.parts k ≡ Some p → position s k ≡ p.first
  begins_at k p is = let at_k = e.begins k p is in start_at s k p.first at_k.frames at_k.work at_k.start

  ends_at : position s (length cut.parts) ≡ length e.events
  ends_at = start_at s (length cut.parts) (length e.events) (e.ends).frames (e.ends).work (e.ends).start

  many : length cut.trace.records ≡ length e.events
  many = ap (λ (l : List Record). length l) e.are_events ∙ length-map e.events (λ x. Ok x)

  begins_in : (k : ℕ) → k ≤ length cut.parts → position s k ≡ begin_in cut.parts k
  begins_in k le = elim (slice_get_cases cut.parts k).1 [
    | inl q ↦ let at = part_of_cut cut whole k q.0 q.2 in let first = at.first in begins_at k q.0 q.2 ∙ (let z : q.0.first ≡ begin_in cut.parts k = omega arith in z)
    | inr q ↦
        let last : k ≡ length cut.parts = (let l = q.0 in omega arith) in
        let all = all_parts cut.trace 0 0 (length cut.trace.records) cut.parts whole in
        let n : length e.events ≡ begin_in cut.parts (length cut.parts) = (let m = many in omega arith) in
        ap (λ j. position s j) last ∙ ends_at ∙ n ∙ ap (λ j. begin_in cut.parts j) (sym last)
  ]

  pub next_at : (k : ℕ) (p : PartOf) → slice_get cut.parts k ≡ Some p → position s (suc k) ≡ p.first + p.count
  next_at k p is =
      let lt = slice_get_within cut.parts k p is in
      let at = part_of_cut cut whole k p is in
      let first = at.first in
      let next = at.next in
      begins_in (suc k) (omega arith) ∙ (let z : begin_in cut.parts (suc k) ≡ p.first + p.count = omega arith in z)

  -- the stacks and the choices are those of a run
  module _ (choices : List Choices) (chosen : AreChoicesOf e.events b cut.parts choices) where
    count : length choices ≡ length cut.parts
    count = chosen_count e.events b cut.parts choices chosen

    entry_at : (k : ℕ) → k ≤ length choices → IsEntryAt e.events b cut.trace.root s k (position s k)
    entry_at k le = elim (slice_get_cases cut.parts k).1 [
      | inl q ↦ subst (λ n. IsEntryAt e.events b cut.trace.root s k n) (sym (begins_at k q.0 q.2)) (e.begins k q.0 q.2)
      | inr q ↦
          let last : length cut.parts ≡ k = (let l = q.0 in let n = count in omega arith) in
          subst (λ j. IsEntryAt e.events b cut.trace.root s j (position s j)) last
          (subst (λ n. IsEntryAt e.events b cut.trace.root s (length cut.parts) n) (sym ends_at) e.ends)
    ]

    part_choices : (k : ℕ) (c : Choices) → slice_get choices k ≡ Some c → (position s k ≤ position s (suc k)) × AreChoicesIn e.events b (position s k) (position s (suc k)) c
    part_choices k c is =
        let q = chosen_at e.events b cut.parts choices chosen k c is in
        let from = begins_at k q.0 q.1 in
        let to = next_at k q.0 q.1 in (
          omega arith,
          subst (λ n. AreChoicesIn e.events b (position s k) n c) (sym to) (subst (λ n. AreChoicesIn e.events b n (q.0.first + q.0.count) c) (sym from) q.2),
        )

    of_events : AreOfRun e.events b cut.trace.root s choices
    of_events = record {
      well_formed = e.well_formed;
      count = let n = count in let m = e.count in omega arith;
      begins = begins_in 0 (omega arith) ∙ begin_zero cut.parts;
      ends = ap (λ j. position s j) count ∙ ends_at;
      entries = entry_at;
      parts = part_choices;
    }

  pub are_of_run : (choices : List Choices) → ((es : List Event) → AreEvents cut.trace.records es → AreChoicesOf es b cut.parts choices)
      → (es : List Event) → AreEvents cut.trace.records es → AreOfRun es b cut.trace.root s choices
  are_of_run choices chosen es are =
      subst (λ x. AreOfRun x b cut.trace.root s choices) (same_events e.events es (sym e.are_events ∙ are)) (of_events choices (chosen e.events e.are_events))

  -- ---- where a path was settled

  pub settled_in : (u : Under) (choices given : List Choices) → given ≡ choices → ((es : List Event) → AreEvents cut.trace.records es → AreChoicesOf es b cut.parts choices)
      → (path : PathOf) → ((es : List Event) (burdens : Burdens) (root : ℕ) → AreOfRun es burdens root s given → IsSettled es (burdens_under u burdens) path)
      → (trace : Recording) → trace ≡ cut.trace → IsSettledIn trace (burdens_under u b) path
  settled_in u choices given same chosen path settles trace is =
      subst (λ (x : Recording). IsSettledIn x (burdens_under u b) path) (sym is)
      (λ es are. settles es b cut.trace.root (are_of_run given (λ fs good. subst (λ cs. AreChoicesOf fs b cut.parts cs) (sym same) (chosen fs good)) es are))

  pub placed : (k : ℕ) (p : PartOf) → slice_get cut.parts k ≡ Some p → (stack : StackOf)
      → ((at : ℕ) (fs : List EntryFrame) (work : ℕ) → IsStart s k at fs work → HasFrames stack fs × (stack.at ≡ at) × (stack.work ≡ work))
      → (path : PathOf) → path.stacks ≡ s → length path.starts ≡ length s.starts → IsPlaced p stack path
  placed k p is stack starts path same counted =
      let lt = slice_get_within cut.parts k p is in
      let numbered = number_at cut.trace 0 0 (length cut.trace.records) cut.parts whole k p is in
      let number : p.number ≡ k = omega arith in
      let at_k = e.begins k p is in
      let here = starts p.first at_k.frames at_k.work at_k.start in
      let n = e.count in
      record {
        frames = at_k.frames;
        start =
            subst (λ (x : Stacks). IsStart x p.number p.first at_k.frames stack.work) (sym same)
            (subst (λ j. IsStart s j p.first at_k.frames stack.work) (sym number)
            (subst (λ w. IsStart s k p.first at_k.frames w) (sym here.2) at_k.start));
        are = here.0;
        within = omega arith;
        end = ap (λ (x : Stacks). position x (suc p.number)) same ∙ ap (λ j. position s (suc j)) number ∙ next_at k p is;
      }
