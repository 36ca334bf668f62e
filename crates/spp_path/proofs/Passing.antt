-- Which positions the path of a run passes, told by the spawned children that it enters: all but those within a child
-- that it doesn't enter, and those between the return of an entered child and the child's join.
use Rattle.std.proofs.Common.{◌≡◌, ℕ, zero, suc, ◌*◌, ◌≤◌, ◌<◌, true, refl, arith, sym, ◌∙◌, subst, inl, inr, List, length, Some}
use Rattle.std.proofs.lemmas.Bool.{cases_lt, cases_Bool}
use Rattle.spp_event.specs.declared.records.Event.{Event}
use Rattle.spp_maxplus.specs.declared.state.Burdens.{Burdens}
use Rattle.spp_dag.specs.declared.stack.OpenFrame.{OpenFrame}
use Rattle.spp_dag.specs.Trace.{event_at, opens, spawns, IsWellFormed, partner, owner, join}
use Rattle.spp_dag.specs.Dag.{On, IsPath}
use Rattle.spp_dag.specs.Laws.{Waits, HasTop}
use Rattle.spp_dag.specs.Choices.{IsChoice}
use Rattle.spp_dag.proofs.Depth.{closed}
use Rattle.spp_dag.proofs.Upper.{spawns_opens}
use Rattle.spp_dag.proofs.Ties.{room, prize, path_exists_to}
use Rattle.spp_dag.proofs.Crossing.{nested, within_owner, owned, owner_le, passes_opening, split_at, on_head, on_left, on_either, on_bounds}
use Rattle.spp_dag.proofs.PathLaws.{whole_of, child_returns, goes_to_join, path_calls, path_passes}
use Rattle.spp_dag.proofs.Stacks.{stack_stands, path_enters_taken, path_takes_child}
use Rattle.spp_dag.proofs.Entries.{taken_is_choice}
use Rattle.spp_dag.proofs.JoinPlaces.{join_own, join_waits}

module _ (es : List Event) (wf : IsWellFormed es) where
  -- no child spawned before a frame joins within it
  pub join_outside : (s u : ℕ) → spawns (event_at es s) ≡ true → opens (event_at es u) ≡ true → s < u → u < join es s → join es s ≤ partner es u → ⊥
  join_outside s u t o a b c =
      let k = closed es wf u o in
      let end : partner es u < length es = k.within in
      let own = join_own es wf s (spawns_opens (event_at es s) t) (omega arith) in
      let w = within_owner es wf u (join es s) o b c in
      let le = owner_le es wf s (omega arith) in
      omega arith

  -- what the machine takes where a frame waits
  pub some_top : (bd : Burdens) (k : ℕ) → k ≤ length es → (f : OpenFrame) × HasTop es bd k f
  some_top bd k l = let r = stack_stands es wf bd 0 k l in (r.0, (r.1, (0, r.2)))

module _ (es : List Event) (wf : IsWellFormed es) (bd : Burdens) (ps : List ℕ) (p : IsPath es bd 0 (length es) ps) where
  abbrev B : ℕ
  B = room es 0

  abbrev co : ℕ → ℕ
  co s = room es 0 * bd.continuation

  abbrev re : ℕ → ℕ
  re s = room es 0 * bd.join

  -- the path passes a position
  abbrev pub Passes : ℕ → Type 0
  Passes i = On 0 ps i

  -- and enters the child spawned at s
  abbrev pub Enters : ℕ → Type 0
  Enters s = On 0 ps (suc s)

  -- within a frame the path is only if it enters the frame
  pub passes_within : (u i : ℕ) → opens (event_at es u) ≡ true → u < i → i ≤ partner es u → Passes i → Enters u
  passes_within u i o a b on =
      let wh = whole_of es wf bd ps p in
      let s = split_at es wf B (prize es) co re 0 i (length es) ps wh.0 wh.1.walk on in
      let q = passes_opening es wf B (prize es) co re 0 i s.first u s.before s.left o (let z : 0 ≤ u = omega arith in z) a b in
      subst (λ r. On 0 r (suc u)) (sym s.is) (on_left es wf B (prize es) co re 0 (suc u) s.before s.after q.1)

  -- an entered child returns on the path
  pub passes_return : (s : ℕ) → spawns (event_at es s) ≡ true → Enters s → Passes (partner es s)
  passes_return s t on = let wh = whole_of es wf bd ps p in child_returns es wf bd ps wh.0 s wh.1 t on

  -- and joins on it
  pub passes_join : (s : ℕ) → spawns (event_at es s) ≡ true → Enters s → Passes (join es s)
  passes_join s t on =
      let wh = whole_of es wf bd ps p in
      (goes_to_join es wf bd 0 (length es) wh.0 s ps t wh.1.walk (passes_return s t on) (closed es wf s (spawns_opens (event_at es s) t)).within).0

  -- between them the path is nowhere
  pub passes_after : (s i : ℕ) → spawns (event_at es s) ≡ true → Enters s → partner es s < i → Passes i → join es s ≤ i
  passes_after s i t on l at =
      let wh = whole_of es wf bd ps p in
      let d = split_at es wf B (prize es) co re 0 i (length es) ps wh.0 wh.1.walk at in
      elim (on_either es wf B (prize es) co re 0 i (partner es s) d.first d.before d.after d.left (subst (λ r. On 0 r (partner es s)) d.is (passes_return s t on))) [
        | inl a ↦ (goes_to_join es wf bd 0 i d.first s d.before t d.left a l).1
        | inr a ↦ absurd (let z = on_bounds es wf B (prize es) co re i (length es) (partner es s) d.second d.after d.right a in omega (arith, z.0))
      ]

  -- all children that hold a position are entered, and none that is entered waits there
  pub record Clear (i : ℕ) : Type 0 where
    pub held : (u : ℕ) → spawns (event_at es u) ≡ true → u < i → i ≤ partner es u → Enters u
    pub free : (s : ℕ) → spawns (event_at es s) ≡ true → Enters s → partner es s < i → join es s ≤ i

  -- the path is clear where it passes
  pub clear : (i : ℕ) → Passes i → Clear i
  clear i on = record {
    held = λ u t a b. passes_within u i (spawns_opens (event_at es u) t) a b on;
    free = λ s t e l. passes_after s i t e l on;
  }

  -- it is clear at an opening where it is clear within and no child joins within
  pub clear_opening : (u i : ℕ) → opens (event_at es u) ≡ true → u < i → i ≤ partner es u → Clear i → Clear u
  clear_opening u i o a b c =
      record {
        held = λ v t x y.
            let n = nested es wf v u (spawns_opens (event_at es v) t) o x y in
            c.held v t (omega arith) (omega arith);
        free = λ s t e l.
            let os = spawns_opens (event_at es s) t in
            let k = closed es wf s os in
            let before : s < partner es s = k.after in
            let at = c.free s t e (omega arith) in
            elim (cases_lt u (join es s)) [
              | inl z ↦ absurd (join_outside es wf s u t o (omega arith) z (omega arith))
              | inr z ↦ z
            ];
      }

  -- where it is clear the path passes
  passes_below : (n i : ℕ) → i < n → i ≤ length es → Clear i → Passes i
  passes_below zero i a l c = absurd (omega arith)
  passes_below (suc n) i a l c = (path_passes es wf bd ps p i l).1 (enters (λ o a b c. passes_below n o a b c) (owner es i) refl, λ s t e x y on. waits s t e x y on)
    where
      enters : ((o : ℕ) → o < n → o ≤ length es → Clear o → Passes o) → (f : ℕ) → owner es i ≡ f → Passes f
      enters lower zero e = on_head es wf B (prize es) co re 0 ps
      enters lower (suc o) e =
          let w = owned es wf i o l e in
          let after : o < i = w.after in
          elim (cases_Bool (spawns (event_at es o))) [
            | inl t ↦ c.held o t after w.within
            | inr t ↦ (path_calls es wf bd ps p o w.opened t).1 (lower o (omega arith) (omega arith) (clear_opening o i w.opened after w.within c))
          ]

      waits : (s : ℕ) → spawns (event_at es s) ≡ true → owner es s ≡ owner es i → s < i → i < join es s → Enters s → ⊥
      waits s t e x y on =
          let o = spawns_opens (event_at es s) t in
          elim (cases_lt (partner es s) i) [
            | inl z ↦ (let g = c.free s t on z in omega arith)
            | inr z ↦ (let g = within_owner es wf s i o x z in let h = owner_le es wf s (omega arith) in omega arith)
          ]

  pub passes_clear : (i : ℕ) → i ≤ length es → Clear i → Passes i
  passes_clear i l c = passes_below (suc i) i (omega arith) l c

  -- where the path passes a join, it comes from the child that is chosen there
  pub enters_chosen : (k s : ℕ) → IsChoice es bd k (Some s) → Passes k → Enters s
  enters_chosen k s c on =
      let t = c.0.0 in
      let at : join es s ≡ k = c.0.1 in
      let waits = subst (λ j. Waits es j) at (join_waits es wf s t) in
      let top = some_top es wf bd k waits.0 in
      let qs = path_exists_to es wf bd k waits.0 waits.1 in
      let tk = ((path_takes_child es wf bd k waits top.0 top.1 s t at).1 qs.0 qs.1).0 (c.1 qs.0 qs.1) in
      let own : owner es k ≡ owner es s = sym c.0.2 in
      let f = subst (λ i. Passes i) own ((path_passes es wf bd ps p k waits.0).0 on).0 in
      ((path_enters_taken es wf bd s t top.0 (subst (λ j. HasTop es bd j top.0) (sym at) top.1)).1 ps p).1 (f, tk)

  -- and a child that it enters is chosen at its join
  pub chosen_entered : (s : ℕ) → spawns (event_at es s) ≡ true → Enters s → IsChoice es bd (join es s) (Some s)
  chosen_entered s t on =
      let waits = join_waits es wf s t in
      let top = some_top es wf bd (join es s) waits.0 in
      let tk = (((path_enters_taken es wf bd s t top.0 top.1).1 ps p).0 on).1 in
      subst (λ o. IsChoice es bd (join es s) o) tk (taken_is_choice es wf bd (join es s) waits top.0 top.1).1

  -- one child at most is entered of those that join at one place
  pub one_entered : (s u : ℕ) → spawns (event_at es s) ≡ true → spawns (event_at es u) ≡ true → Enters s → Enters u → join es s ≡ join es u → s ≡ u
  one_entered s u t v a b e =
      let top = some_top es wf bd (join es s) (join_waits es wf s t).0 in
      let x = (((path_enters_taken es wf bd s t top.0 top.1).1 ps p).0 a).1 in
      let y = (((path_enters_taken es wf bd u v top.0 (subst (λ j. HasTop es bd j top.0) e top.1)).1 ps p).0 b).1 in
      let z : Some s ≡ Some u = sym x ∙ y in
      cc
