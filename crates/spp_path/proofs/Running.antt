-- Which frames run on along the path: what one event makes of that, and what it says of the positions that the path
-- passes.
use Rattle.std.proofs.Common.{◌≡◌, ℕ, suc, ◌<◌, ◌↔◌, true, false, refl, arith, sym, ◌∙◌, subst, inl, inr, List, length, Option, Some, None, nat_eq}
use Rattle.std.proofs.lemmas.Bool.{cases_lt, both_ways, and_parts, and_from, eqb-true, eq-eqb}
use Rattle.spp_event.specs.declared.records.Event.{Event}
use Rattle.spp_event.specs.declared.records.Event.TheVariants.{Strand, Call, Spawn, Ret, Sync}
use Rattle.spp_maxplus.specs.declared.state.Burdens.{Burdens}
use Rattle.spp_dag.specs.Trace.{event_at, opens, spawns, syncs, IsWellFormed, owner, partner, join}
use Rattle.spp_dag.specs.Dag.{IsPath, On}
use Rattle.spp_dag.specs.Choices.{IsRunning}
use Rattle.spp_dag.proofs.Ranges.{least_le}
use Rattle.spp_dag.proofs.Depth.{inside_opens, closed}
use Rattle.spp_dag.proofs.Machine.{shape}
use Rattle.spp_dag.proofs.Upper.{spawns_opens}
use Rattle.spp_dag.proofs.Crossing.{within_owner, owner_le, waits_for, join_spec}
use Rattle.spp_dag.proofs.Ties.{path_unique}
use Rattle.spp_dag.proofs.PathLaws.{path_calls, path_enters}
use Rattle.spp_dag.proofs.Entries.{running_passes}
use Rattle.spp_path.specs.Entered.{IsEntered}

spawns_not_syncs : (e : Option Event) → spawns e ≡ true → syncs e ≡ false
spawns_not_syncs None h = refl
spawns_not_syncs (Some (Strand n)) h = refl
spawns_not_syncs (Some (Call s f)) h = refl
spawns_not_syncs (Some (Spawn s f)) h = refl
spawns_not_syncs (Some Ret) h = cc
spawns_not_syncs (Some Sync) h = cc

module _ (es : List Event) (wf : IsWellFormed es) (bd : Burdens) (rest : List ℕ) (path : IsPath es bd 0 (length es) rest) where
  -- past an event with which the frame spawns nothing it runs on as before
  running_next : (f i : ℕ) → (spawns (event_at es i) ≡ true → owner es i ≡ f → ⊥) → IsRunning es rest f i → IsRunning es rest f (suc i)
  running_next f i n r = (
    r.0,
    λ s t o a b on. elim (cases_lt s i) [
      | inl x ↦ r.1 s t o x (omega arith) on
      | inr x ↦ let q : s ≡ i = omega arith in
          n (subst (λ k. spawns (event_at es k) ≡ true) q t) (subst (λ k. owner es k ≡ f) q o)
    ],
  )

  -- past an event at which the frame doesn't wait it runs on only if it did before
  running_back : (f i : ℕ) → i < length es → (syncs (event_at es i) ≡ true → owner es i ≡ f → ⊥) → IsRunning es rest f (suc i) → IsRunning es rest f i
  running_back f i l n r = (
    r.0,
    λ s t o a b on. elim (cases_lt i (join es s)) [
      | inl x ↦ r.1 s t o (omega arith) x on
      | inr x ↦
          let q : join es s ≡ i = omega arith in
          let w = and_parts (syncs (event_at es (join es s))) (nat_eq (owner es (join es s)) (owner es s)) ((join_spec es wf s (spawns_opens (event_at es s) t)).passes (omega arith)) in
          n (subst (λ k. syncs (event_at es k) ≡ true) q w.0) (subst (λ k. owner es k ≡ f) q (eqb-true _ _ w.1 ∙ o))
    ],
  )

  -- a frame that doesn't own the event runs on as before
  pub running_keeps : (f i : ℕ) → i < length es → (owner es i ≡ f → ⊥) → IsRunning es rest f i ↔ IsRunning es rest f (suc i)
  running_keeps f i l n = (running_next f i (λ t o. n o), running_back f i l (λ t o. n o))

  -- nor does one that neither spawns nor waits change
  pub running_quiet : (f i : ℕ) → i < length es → spawns (event_at es i) ≡ false → syncs (event_at es i) ≡ false → IsRunning es rest f i ↔ IsRunning es rest f (suc i)
  running_quiet f i l a b = (running_next f i (λ t o. both_ways _ a t), running_back f i l (λ t o. both_ways _ b t))

  -- past a sync a frame runs on that the path enters
  pub running_waited : (i : ℕ) → i < length es → syncs (event_at es i) ≡ true → On 0 rest (owner es i) → IsRunning es rest (owner es i) (suc i)
  running_waited i l y on = (
    on,
    λ s t o a b e.
        let op = spawns_opens (event_at es s) t in
        elim (cases_lt (partner es s) i) [
          | inl x ↦
              let j = least_le (waits_for es wf s) (suc (partner es s)) (length es) i x l (and_from _ _ y (eq-eqb _ _ (sym o))) in
              absurd (omega arith)
          | inr x ↦ elim (cases_lt s i) [
            | inl z ↦
                let m = within_owner es wf s i op z x in
                let k = owner_le es wf s (omega arith) in
                absurd (omega (arith, o))
            | inr z ↦
                let q : s ≡ i = omega arith in
                absurd (both_ways _ (spawns_not_syncs (event_at es i) (subst (λ k. spawns (event_at es k) ≡ true) q t)) y)
          ]
        ],
  )

  -- past a spawn of a child that the path doesn't enter its parent runs on as before
  pub running_beside : (s : ℕ) → s < length es → spawns (event_at es s) ≡ true → (On 0 rest (suc s) → ⊥) → IsRunning es rest (owner es s) s ↔ IsRunning es rest (owner es s) (suc s)
  running_beside s l t n = (
    λ r. (
      r.0,
      λ k u o a b on. elim (cases_lt k s) [
        | inl x ↦ r.1 k u o x (omega arith) on
        | inr x ↦ n (subst (λ j. On 0 rest (suc j)) (let q : k ≡ s = omega arith in q) on)
      ],
    ),
    running_back (owner es s) s l (λ y o. both_ways _ (spawns_not_syncs (event_at es s) t) y),
  )

  -- and where the path enters it the parent doesn't run on
  pub running_stops : (s : ℕ) → spawns (event_at es s) ≡ true → On 0 rest (suc s) → IsRunning es rest (owner es s) (suc s) → ⊥
  running_stops s t on r =
      let op = spawns_opens (event_at es s) t in
      let c = (closed es wf s op).after in
      let j = (join_spec es wf s op).lower in
      r.1 s t refl (omega arith) (omega arith) on

  -- a frame that the path enters runs on at first
  pub running_first : (f : ℕ) → On 0 rest f → IsRunning es rest f f
  running_first f on = (
    on,
    λ s t o a b e.
        let l = inside_opens es s (spawns_opens (event_at es s) t) in
        let k = owner_le es wf s (omega arith) in
        omega (arith, o),
  )

  -- ---- what the path passes

  -- the path passes an event at which no frame waits where its frame runs on
  pub passes : (i : ℕ) → i < length es → syncs (event_at es i) ≡ false → IsRunning es rest (owner es i) i ↔ On 0 rest i
  passes i l n = running_passes es wf bd rest path i l n

  -- it enters a called frame where it passes the call
  pub enters_called : (c : ℕ) → opens (event_at es c) ≡ true → spawns (event_at es c) ≡ false → On 0 rest (suc c) ↔ On 0 rest c
  enters_called c t n = path_calls es wf bd rest path c t n

  -- and a spawned one only where it enters its parent
  pub enters_parent : (s : ℕ) → spawns (event_at es s) ≡ true → On 0 rest (suc s) → On 0 rest (owner es s)
  enters_parent s t on =
      let h = shape es 1 (λ _. bd.continuation) (λ _. bd.join) wf (join es s) (join_spec es wf s (spawns_opens (event_at es s) t)).upper in
      ((path_enters es wf bd rest path s t h).0 on).0

  -- what is entered lies on the path
  pub entered_on : (s : ℕ) → spawns (event_at es s) ≡ true → IsEntered es bd s ↔ On 0 rest (suc s)
  entered_on s t = (
    λ e. e.1 rest path,
    λ on. (t, λ ps p. subst (λ q. On 0 q (suc s)) (path_unique es bd 0 (length es) rest ps path p) on),
  )
