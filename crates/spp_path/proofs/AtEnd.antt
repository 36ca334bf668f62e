-- What the root frame takes at the end of a run, where it waits for its children.
use Rattle.std.proofs.Common.{◌≡◌, ℕ, zero, suc, ◌≤◌, ◌<◌, refl, arith, sym, ◌∙◌, ap, subst, List, [], ◌∷◌, length, map, take, Option, Some, None}
use Rattle.std.specs.Prelude.{Contains}
use Rattle.spp_event.specs.declared.records.Event.{Event}
use Rattle.spp_maxplus.specs.declared.state.Burdens.{Burdens}
use Rattle.spp_maxplus.specs.declared.state.State.{State}
use Rattle.spp_maxplus.specs.State.{unburdened, taken}
use Rattle.spp_dag.specs.declared.choices.Choice.{Choice}
use Rattle.spp_dag.specs.declared.stack.EntryFrame.{EntryFrame}
use Rattle.spp_dag.specs.declared.stack.OpenFrame.{OpenFrame}
use Rattle.spp_dag.specs.Trace.{event_at, IsWellFormed}
use Rattle.spp_dag.specs.Stack.{run, root_frame}
use Rattle.spp_dag.specs.Laws.{Waits, HasTop}
use Rattle.spp_dag.specs.Choices.{IsEntry, IsChoice, HasChoice, IsWaited, entry_frame}
use Rattle.spp_dag.specs.ChoiceLists.{IsJoin, IsWithin, AreJoinsIn}
use Rattle.spp_dag.proofs.Depth.{closed, closed_at_end}
use Rattle.spp_dag.proofs.Upper.{spawns_opens}
use Rattle.spp_dag.proofs.Ties.{path_exists_to}
use Rattle.spp_dag.proofs.Stacks.{stack_stands, path_takes_child}
use Rattle.spp_dag.proofs.Entries.{taken_is_choice, child_is_waited}
use Rattle.spp_path.specs.declared.settled.Under.{Under}
use Rattle.spp_path.specs.declared.settled.Under.TheVariants as under
use Rattle.spp_path.specs.Settled.{burdens_under, state_under, waiting, choice_of}
use Rattle.spp_path.specs.Ways.{AreNotesIn}

-- a choice, if there is one, as a list
abbrev pub listed : Option Choice → List Choice
listed None = []
listed (Some c) = c ∷ []

module _ (es : List Event) (wf : IsWellFormed es) where
  -- the root frame waits at the end
  at_end : Waits es (length es)
  at_end = ((let z : length es ≤ length es = omega arith in z), λ l. absurd (omega arith))

  -- what is chosen there is one
  same_choice : (paths : Burdens) → (o t : Option ℕ) → IsChoice es paths (length es) t → IsChoice es paths (length es) o → t ≡ o
  same_choice paths None None c d = refl
  same_choice paths None (Some t) c d = let ps = path_exists_to es wf paths (length es) at_end.0 at_end.1 in absurd (d t c.0 ps.0 ps.1 (c.1 ps.0 ps.1))
  same_choice paths (Some s) None c d = let ps = path_exists_to es wf paths (length es) at_end.0 at_end.1 in absurd (c s d.0 ps.0 ps.1 (d.1 ps.0 ps.1))
  same_choice paths (Some s) (Some t) c d =
      let stands = stack_stands es wf paths 0 (length es) at_end.0 in
      let top : HasTop es paths (length es) stands.0 = (stands.1, (0, stands.2)) in
      let ps = path_exists_to es wf paths (length es) at_end.0 at_end.1 in
      let takes = λ (k : ℕ) (c : IsChoice es paths (length es) (Some k)). ((path_takes_child es wf paths (length es) at_end stands.0 top k c.0.0 c.0.1).1 ps.0 ps.1).0 (c.1 ps.0 ps.1) in
      sym (takes t c) ∙ takes s d

  -- a state that holds a child where one joins, and takes what is chosen
  joins_by : (paths : Burdens) (s : State) → IsWaited es (length es) s.child → IsChoice es paths (length es) (taken s) → AreJoinsIn es paths (length es) (suc (length es)) (listed (choice_of (length es) s))
  joins_by paths s held chosen = by s.child held
    where
      by : (o : Option (ℕ × ℕ)) → IsWaited es (length es) o → AreJoinsIn es paths (length es) (suc (length es)) (listed (waiting (length es) s o))
      by None w = record {
        rise = tt;
        are = λ j. (
          (λ c. absurd (let z : c.0 < 0 = c.1 in omega arith)),
          (λ p.
              let low : length es ≤ j.at = p.1.0 in
              let high : j.at < suc (length es) = p.1.1 in
              absurd (w (subst (λ k. HasChoice es k) (let z : j.at ≡ length es = omega arith in z) p.0.1))),
        );
      }
      by (Some c) w =
          let it : Choice = record { at = length es; taken = taken s } in
          record {
            rise = tt;
            are = λ j. (
              (λ d. subst (λ (x : Choice). IsJoin es paths x × IsWithin (length es) (suc (length es)) x.at) (alone j d)
                  ((at_end.0, (c.1, w), chosen), ((let z : length es ≤ length es = omega arith in z), (let z : length es < suc (length es) = omega arith in z)))),
              (λ p.
                  let low : length es ≤ j.at = p.1.0 in
                  let high : j.at < suc (length es) = p.1.1 in
                  let e : j.at ≡ length es = omega arith in
                  let t : taken s ≡ j.taken = same_choice paths j.taken (taken s) chosen (subst (λ k. IsChoice es paths k j.taken) e p.0.2) in
                  (0, (let z : 0 < length (it ∷ []) = omega arith in z), same j e t)),
            );
          }
        where
          same : (j : Choice) → j.at ≡ length es → taken s ≡ j.taken → record { at = length es; taken = taken s } ≡ j
          same j a b = λ k. record { at = sym a k; taken = b k }

          alone : (j : Choice) → Contains (record { at = length es; taken = taken s } ∷ []) j → record { at = length es; taken = taken s } ≡ j
          alone j (zero, l, e) = e
          alone j (suc k, l, e) = absurd (let z : suc k < 1 = l in omega arith)

  -- at the end the root frame alone is open
  pub root_alone : (burdens : Burdens) (root w : ℕ) (fs : List EntryFrame) → IsEntry es burdens root (length es) fs w → (f : EntryFrame) × (fs ≡ f ∷ [])
  root_alone burdens root w fs (hs, r, e, v) =
      let s = stack_stands es wf burdens root (length es) at_end.0 in
      let same : hs ≡ s.0 ∷ s.1 = (let z : Some hs ≡ Some (s.0 ∷ s.1) = sym r ∙ s.2 in cc) in
      let none : length s.1 ≡ 0 = s.3 ∙ closed_at_end es wf in
      (entry_frame es root s.0, e ∙ ap (λ (l : List OpenFrame). map (entry_frame es root) l) (same ∙ ap (λ (l : List OpenFrame). s.0 ∷ l) (empty s.1 none)))
    where
      empty : (l : List OpenFrame) → length l ≡ 0 → l ≡ []
      empty [] e = refl
      empty (x ∷ xs) e = absurd (let z : suc (length xs) ≡ 0 = e in omega arith)

  -- and what it takes is the one choice of that place
  pub end_notes : (burdens : Burdens) (root w : ℕ) (f : EntryFrame) → IsEntry es burdens root (length es) (f ∷ []) w → (u : Under)
      → AreNotesIn es (burdens_under u burdens) (length es) (suc (length es)) [] (listed (choice_of (length es) (state_under u f)))
  end_notes burdens root w f (hs, r, e, v) u = record {
    rising = (let z : length es ≤ suc (length es) = omega arith in z);
    are_ends = record {
      rise = tt;
      are = λ x. (
        (λ c. absurd (let z : c.0 < 0 = c.1 in omega arith)),
        (λ p.
            let k = (closed es wf x.spawn (spawns_opens (event_at es x.spawn) p.0.0)).within in
            let low : length es ≤ x.at = p.1.0 in
            absurd (omega (arith, p.0.1))),
      );
    };
    are_joins = by hs r e u;
  }
    where
      by : (hs : List OpenFrame) → run burdens 0 (take (length es) es) (root_frame root ∷ []) ≡ Some hs → f ∷ [] ≡ map (entry_frame es root) hs → (u : Under)
          → AreJoinsIn es (burdens_under u burdens) (length es) (suc (length es)) (listed (choice_of (length es) (state_under u f)))
      by [] r e u = cc
      by (h ∷ hs) r e under.Zero =
          let is : entry_frame es root h ≡ f = (let z : f ≡ entry_frame es root h = cc in sym z) in
          let held = child_is_waited es wf burdens (length es) at_end h (hs, (root, r)) in
          let chosen = taken_is_choice es wf burdens (length es) at_end h (hs, (root, r)) in
          subst (λ (g : EntryFrame). AreJoinsIn es unburdened (length es) (suc (length es)) (listed (choice_of (length es) g.state))) is (joins_by unburdened h.plain held.0 chosen.0)
      by (h ∷ hs) r e under.Burdens =
          let is : entry_frame es root h ≡ f = (let z : f ≡ entry_frame es root h = cc in sym z) in
          let held = child_is_waited es wf burdens (length es) at_end h (hs, (root, r)) in
          let chosen = taken_is_choice es wf burdens (length es) at_end h (hs, (root, r)) in
          subst (λ (g : EntryFrame). AreJoinsIn es burdens (length es) (suc (length es)) (listed (choice_of (length es) g.burdened))) is (joins_by burdens h.burdened held.1 chosen.1)
