-- Entries and choices: what the machine's stack tells where a range of events begins, and where children join.
use Rattle.std.proofs.Common.{◌≤◌, ◌≡◌, ℕ, refl, sym, ◌∙◌, ap, subst, List, ◌∷◌, map, take, Option, Some, None, ◌<◌, true, inl, inr, arith, nat_eq}
use Rattle.spp_frame.specs.Nesting as nesting
use Rattle.spp_maxplus.specs.State.{unburdened, taken}
use Rattle.spp_dag.specs.declared.stack.OpenFrame.{OpenFrame}
use Rattle.spp_dag.specs.Trace.{records, syncs, event_at, spawns, owner, join}
use Rattle.spp_dag.specs.Choices.{entry_frame, IsChoice, IsWaited, RunningPasses, EntryIsOne, TakenIsChoice, ChildIsWaited}
use Rattle.spp_dag.proofs.Machine.{shape}
use Rattle.spp_dag.proofs.PathLaws.{child_waited, path_passes}
use Rattle.spp_dag.proofs.Upper.{spawns_opens}
use Rattle.spp_dag.proofs.Crossing.{join_spec}
use Rattle.std.proofs.lemmas.Bool.{cases_lt, and_parts, both_ways}
use Rattle.spp_dag.proofs.Stacks.{plain_top, burdened_top, stack_stands, path_takes_child, taken_join}

same_some : {A : Type 0} (a b : List A) → Some a ≡ Some b → a ≡ b
same_some a b e = cc

pub entry_is_one : EntryIsOne
entry_is_one es wf burdens root i l =
    let s = stack_stands es wf burdens root i l in (
      (map (entry_frame es root) (s.0 ∷ s.1), nesting.work (take i (records es)), (s.0 ∷ s.1, s.2, refl, refl)),
      λ fs gs v w a b. (a.2 ∙ (ap (λ (hs : List OpenFrame). map (entry_frame es root) hs) (same_some a.0 b.0 (sym a.1 ∙ b.1)) ∙ sym b.2), a.3 ∙ sym b.3),
    )

pub taken_is_choice : TakenIsChoice
taken_is_choice es wf burdens k n top t = (plain (taken top.plain) refl, burdened (taken top.burdened) refl)
  where
    plain : (o : Option ℕ) → taken top.plain ≡ o → IsChoice es unburdened k o
    plain (Some s) e =
        let j = (taken_join es wf burdens k n top t s).0 e in
        (j, λ ps p. ((path_takes_child es wf burdens k n top t s j.0 j.1).0 ps p).1 e)
    plain None e = λ s j ps p on. let z = ((path_takes_child es wf burdens k n top t s j.0 j.1).0 ps p).0 on in let y = sym e ∙ z in cc

    burdened : (o : Option ℕ) → taken top.burdened ≡ o → IsChoice es burdens k o
    burdened (Some s) e =
        let j = (taken_join es wf burdens k n top t s).1 e in
        (j, λ ps p. ((path_takes_child es wf burdens k n top t s j.0 j.1).1 ps p).1 e)
    burdened None e = λ s j ps p on. let z = ((path_takes_child es wf burdens k n top t s j.0 j.1).1 ps p).0 on in let y = sym e ∙ z in cc

pub child_is_waited : ChildIsWaited
child_is_waited es wf burdens k n top t =
    let h = shape es 1 (λ _. 0) (λ _. 0) wf k n.0 in
    let g = shape es 1 (λ _. burdens.continuation) (λ _. burdens.join) wf k n.0 in (
      subst (λ f. IsWaited es k f.state.child) (sym (plain_top es wf burdens k n.0 top t h)) (child_waited es wf unburdened k n.0 n.1 h),
      subst (λ f. IsWaited es k f.state.child) (sym (burdened_top es wf burdens k n.0 top t g)) (child_waited es wf burdens k n.0 n.1 g),
    )

pub running_passes : RunningPasses
running_passes es wf burdens ps p i l n =
    let law = path_passes es wf burdens ps p i (omega arith) in (
      λ r. law.1 (r.0, λ s t o a b on. r.1 s t o a (omega arith) on),
      λ on. let q = law.0 on in (q.0, λ s t o a b on2. q.1 s t o a (later s t b) on2),
    )
  where
    later : (s : ℕ) → spawns (event_at es s) ≡ true → i ≤ join es s → i < join es s
    later s t b =
        let spec = join_spec es wf s (spawns_opens (event_at es s) t) in
        elim (cases_lt i (join es s)) [
          | inl a ↦ a
          | inr a ↦
              let e : join es s ≡ i = omega arith in
              let w = and_parts (syncs (event_at es (join es s))) (nat_eq (owner es (join es s)) (owner es s)) (spec.passes (omega arith)) in
              absurd (both_ways (syncs (event_at es i)) n (subst (λ k. syncs (event_at es k) ≡ true) e w.0))
        ]
