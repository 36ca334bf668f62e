-- Whether the path goes through the child that waits in a frame: what that says of the positions that it passes, of
-- what the frame takes, and of the child that waits after a return.
use Rattle.std.proofs.Common.{◌≡◌, ℕ, suc, ◌≤◌, ◌<◌, Bool, true, false, cond, not, ◌&&◌, refl, arith, sym, ◌∙◌, ap, subst, inl, inr, List, ◌∷◌, length, Option, Some, None}
use Rattle.std.proofs.lemmas.Bool.{cases_lt, and_parts, and_from, both_ways, false_from_ne_true, eq-eqb}
use Rattle.spp_event.specs.declared.records.Event.{Event}
use Rattle.spp_maxplus.specs.declared.state.State.{State}
use Rattle.spp_maxplus.specs.declared.state.Burdens.{Burdens}
use Rattle.spp_maxplus.specs.State.{taken}
use Rattle.spp_dag.specs.Trace.{event_at, opens, spawns, syncs, partner, owner, join, IsWellFormed}
use Rattle.spp_dag.specs.Dag.{IsPath, On}
use Rattle.spp_dag.specs.Rows.{contains}
use Rattle.spp_dag.proofs.Ranges.{least_le}
use Rattle.spp_dag.proofs.Depth.{closed, inside_opens}
use Rattle.spp_dag.proofs.Machine.{Frame}
use Rattle.spp_dag.proofs.Owner.{owner_is}
use Rattle.spp_dag.proofs.Upper.{spawns_opens}
use Rattle.spp_dag.proofs.Span.{trail_of}
use Rattle.spp_dag.proofs.Ties.{none}
use Rattle.spp_dag.proofs.Crossing.{within_owner, owner_le, waits_for, join_spec, passes_opening, split_at, on_left}
use Rattle.spp_dag.proofs.PathLaws.{path_enters, path_calls, taken_joins}
use Rattle.spp_dag.proofs.Entries.{running_passes}
use Rattle.spp_dag.proofs.Profiles.{contains_passed}
use Rattle.std.specs.Prelude.{is_some}
use Rattle.spp_ways.specs.Ways.{takes, wins}
use Rattle.spp_ways.proofs.Waiting.{waiting, taken_waits, opens_not_syncs, co, re, At, WaitsIn, waited, return_waits, Back, goes_back, joins_past, kept}

-- two tests that pass together are one
both_pass : (a b : Bool) → (a ≡ true → b ≡ true) → (b ≡ true → a ≡ true) → a ≡ b
both_pass true b f g = sym (f refl)
both_pass false true f g = g refl
both_pass false false f g = refl

not_true : (a : Bool) → not a ≡ true → a ≡ false
not_true true e = sym e
not_true false e = refl

true_not : (a : Bool) → a ≡ false → not a ≡ true
true_not a e = ap not e

some_taken : (o : Option ℕ) → is_some o ≡ true → (s : ℕ) × (o ≡ Some s)
some_taken None e = let z : false ≡ true = e in cc
some_taken (Some s) e = (s, refl)

-- whether the walk goes through that child
abbrev pub enters : List ℕ → Option ℕ → Bool
enters ps None = false
enters ps (Some s) = contains (0 ∷ ps) (suc s)

-- and through the one that waits in a frame of that state
abbrev pub goes : List ℕ → State → Bool
goes ps s = enters ps (waiting s)

entered : (ps : List ℕ) (o : Option ℕ) → enters ps o ≡ true → (s : ℕ) × (o ≡ Some s) × (contains (0 ∷ ps) (suc s) ≡ true)
entered ps None e = let z : false ≡ true = e in cc
entered ps (Some s) e = (s, refl, e)

module _ (es : List Event) (wf : IsWellFormed es) (bd : Burdens) (ps : List ℕ) (path : IsPath es bd 0 (length es) ps) where
  abbrev pub Stack : ℕ → Type 0
  Stack = At es wf bd

  abbrev pub passed : ℕ → Bool
  passed i = contains (0 ∷ ps) i

  on_of : (i : ℕ) → passed i ≡ true → On 0 ps i
  on_of i e = (contains_passed 0 ps i).0 e

  of_on : (i : ℕ) → On 0 ps i → passed i ≡ true
  of_on i o = (contains_passed 0 ps i).1 o

  -- the child that waits, where the path enters it
  record Through (f p : ℕ) (h : Stack p) : Type 0 where
    child : ℕ
    waits : waiting h.top.state ≡ Some child
    place : WaitsIn es wf bd f p child
    on : On 0 ps (suc child)

  through : (p : ℕ) → p ≤ length es → (h : Stack p) → goes ps h.top.state ≡ true → Through h.top.first p h
  through p l h e =
      let t = entered ps (waiting h.top.state) e in
      record { child = t.0; waits = t.1; place = waited es wf bd p l h t.0 t.1; on = on_of (suc t.0) t.2 }

  goes_by : (o : Option ℕ) (s : ℕ) → o ≡ Some s → On 0 ps (suc s) → enters ps o ≡ true
  goes_by o s e on = ap (enters ps) e ∙ of_on (suc s) on

  -- where no frame waits: an event is passed where the path enters its frame and doesn't go through a child that waits
  pub passes_where : (i : ℕ) → i < length es → syncs (event_at es i) ≡ false → (h : Stack i) → passed i ≡ (passed h.top.first && not (goes ps h.top.state))
  passes_where i l n h = both_pass _ _ forth back
    where
      own : owner es i ≡ h.top.first
      own = owner_is es 1 (co es wf bd) (re es wf bd) wf i h

      forth : passed i ≡ true → (passed h.top.first && not (goes ps h.top.state)) ≡ true
      forth e =
          let r = (running_passes es wf bd ps path i l n).1 (on_of i e) in
          let none : goes ps h.top.state ≡ false = false_from_ne_true (goes ps h.top.state) (λ g.
          let t = through i (omega arith) h g in
          let w = t.place in
          let a = (closed es wf t.child (spawns_opens (event_at es t.child) w.spawned)).after in
          let b = w.before in
          r.1 t.child w.spawned (w.own ∙ sym own) (omega arith) w.upto t.on) in
          and_from _ _ (of_on h.top.first (subst (λ k. On 0 ps k) own r.0)) (true_not (goes ps h.top.state) none)

      back : (passed h.top.first && not (goes ps h.top.state)) ≡ true → passed i ≡ true
      back e =
          let both = and_parts (passed h.top.first) (not (goes ps h.top.state)) e in
          of_on i ((running_passes es wf bd ps path i l n).0 (
            subst (λ k. On 0 ps k) (sym own) (on_of h.top.first both.0),
            λ s t o a b on. elim (cases_lt (partner es s) i) [
              | inl z ↦
                  let k = kept es wf bd ps path s t on i z b (sym o) h in
                  both_ways (goes ps h.top.state) (not_true (goes ps h.top.state) both.1) (goes_by (waiting h.top.state) s k on)
              | inr z ↦
                  let op = spawns_opens (event_at es s) t in
                  let m = within_owner es wf s i op a z in
                  let le = owner_le es wf s (omega arith) in
                  omega arith
            ],
          ))

  -- where a frame waits that the path enters: it takes the child that waits where the path goes through it
  pub takes_where : (i : ℕ) → i ≤ length es → (i < length es → syncs (event_at es i) ≡ true) → (h : Stack i) → passed h.top.first ≡ true → takes h.top.state ≡ goes ps h.top.state
  takes_where i l n h e = both_pass _ _ forth back
    where
      own : owner es i ≡ h.top.first
      own = owner_is es 1 (co es wf bd) (re es wf bd) wf i h

      forth : takes h.top.state ≡ true → goes ps h.top.state ≡ true
      forth y =
          let t = some_taken (taken h.top.state) y in
          let j = taken_joins es wf bd i l n h t.0 t.1 in
          let onf : On 0 ps (owner es t.0) = subst (λ k. On 0 ps k) (sym (j.2 ∙ own)) (on_of h.top.first e) in
          let law = subst (λ k. (g : Stack k) → taken g.top.state ≡ Some t.0 → On 0 ps (suc t.0)) j.1 (λ g q. (path_enters es wf bd ps path t.0 j.0 g).1 (onf, q)) in
          goes_by (waiting h.top.state) t.0 (taken_waits h.top.state.spine h.top.state.child t.0 t.1) (law h t.1)

      back : goes ps h.top.state ≡ true → takes h.top.state ≡ true
      back g =
          let t = through i l h g in
          let w = t.place in
          let s : ℕ = t.child in
          let spec = join_spec es wf s (spawns_opens (event_at es s) w.spawned) in
          let upto = w.upto in
          let at : join es s ≡ i = elim (cases_lt i (length es)) [
            | inl x ↦ (let u = least_le (waits_for es wf s) (suc (partner es s)) (length es) i w.before x (and_from _ _ (n x) (eq-eqb _ _ (own ∙ sym w.own))) in omega arith)
            | inr x ↦ (let u = spec.upper in omega arith)
          ] in
          let law = subst (λ k. (g : Stack k) → taken g.top.state ≡ Some s) at (λ g. ((path_enters es wf bd ps path s w.spawned g).0 t.on).1) in
          ap is_some (law h)

  -- ---- where a frame is opened

  -- the path passes the event that opened a frame that it enters
  passes_open : (o : ℕ) → opens (event_at es o) ≡ true → On 0 ps (suc o) → On 0 ps o
  passes_open o u on =
      let c = closed es wf o u in
      let trail = trail_of es bd 0 (length es) path.0 ps path.1 in
      let s = split_at es wf 1 (none es) (co es wf bd) (re es wf bd) 0 (suc o) (length es) ps path.0 trail on in
      let q = passes_opening es wf 1 (none es) (co es wf bd) (re es wf bd) 0 (suc o) s.first o s.before s.left u (omega arith) (omega arith) c.after in
      subst (λ r. On 0 r o) (sym s.is) (on_left es wf 1 (none es) (co es wf bd) (re es wf bd) 0 o s.before s.after q.0)

  -- it enters a called frame where it enters the caller and doesn't go through a child that waits there
  pub called_where : (o : ℕ) → opens (event_at es o) ≡ true → spawns (event_at es o) ≡ false → (g : Stack o) → passed (suc o) ≡ (passed g.top.first && not (goes ps g.top.state))
  called_where o u n g =
      let law = path_calls es wf bd ps path o u n in
      both_pass (passed (suc o)) (passed o) (λ e. of_on o (law.0 (on_of (suc o) e))) (λ e. of_on (suc o) (law.1 (on_of o e)))
      ∙ passes_where o (inside_opens es o u) (opens_not_syncs (event_at es o) u) g

  -- and a spawned one only there
  pub spawned_where : (o : ℕ) → opens (event_at es o) ≡ true → (g : Stack o) → passed (suc o) ≡ true → (passed g.top.first ≡ true) × (goes ps g.top.state ≡ false)
  spawned_where o u g e =
      let on = of_on o (passes_open o u (on_of (suc o) e)) in
      let both = and_parts (passed g.top.first) (not (goes ps g.top.state)) (sym (passes_where o (inside_opens es o u) (opens_not_syncs (event_at es o) u) g) ∙ on) in
      (both.0, not_true (goes ps g.top.state) both.1)

  -- ---- where a spawned frame returns

  module _ (o : ℕ) (t : spawns (event_at es o) ≡ true) (g : Stack o) (h : Stack (partner es o)) (k : Stack (suc (partner es o))) where
    abbrev Won : Bool
    Won = wins bd h.top.state g.top.state

    u : opens (event_at es o) ≡ true
    u = spawns_opens (event_at es o) t

    inside : o ≤ length es
    inside = let z = inside_opens es o u in omega arith

    r : Back es wf bd o (partner es o) g h k
    r = goes_back es wf bd o u g h k

    pub waits_after : waiting k.top.state ≡ cond Won (Some o) (waiting g.top.state)
    waits_after =
        ap (λ (f : Frame). waiting f.state) r.is ∙ return_waits es wf bd h.top g.top o r.first
        ∙ ap (λ b. cond b (cond Won (Some o) (waiting g.top.state)) (waiting g.top.state)) t

    -- one that the path enters is the child that waits then
    pub entered_wins : passed (suc o) ≡ true → Won ≡ true
    entered_wins e = pick Won refl
      where
        joins : suc (partner es o) ≤ join es o
        joins = (join_spec es wf o u).lower

        waits : waiting k.top.state ≡ Some o
        waits = kept es wf bd ps path o t (on_of (suc o) e) (suc (partner es o)) (omega arith) joins r.own k

        pick : (b : Bool) → Won ≡ b → Won ≡ true
        pick true q = q
        pick false q =
            let z : waiting g.top.state ≡ Some o = ap (λ b. cond b (Some o) (waiting g.top.state)) (sym q) ∙ sym waits_after ∙ waits in
            let w = (waited es wf bd o inside g o z).before in
            let a = (closed es wf o u).after in
            absurd (omega arith)

    -- one that it doesn't enter isn't, where it goes through another child
    pub other_waits : passed (suc o) ≡ false → goes ps g.top.state ≡ true → Won ≡ false
    other_waits e y = pick Won refl
      where
        c : Through g.top.first o g
        c = through o inside g y

        w : WaitsIn es wf bd g.top.first o c.child
        w = c.place

        own : owner es o ≡ g.top.first
        own = owner_is es 1 (co es wf bd) (re es wf bd) wf o g

        past : partner es o < join es c.child
        past = joins_past es wf bd c.child o w.spawned u (w.own ∙ sym own) w.before w.upto

        a : o < partner es o
        a = (closed es wf o u).after

        b : partner es c.child < o
        b = w.before

        waits : waiting k.top.state ≡ Some c.child
        waits = kept es wf bd ps path c.child w.spawned c.on (suc (partner es o)) (omega (arith, a, b)) past (r.own ∙ own ∙ sym w.own) k

        pick : (b : Bool) → Won ≡ b → Won ≡ false
        pick false q = q
        pick true q =
            let z : Some o ≡ Some c.child = ap (λ b. cond b (Some o) (waiting g.top.state)) (sym q) ∙ sym waits_after ∙ waits in
            let same : c.child ≡ o = cc in
            absurd (both_ways (passed (suc o)) e (subst (λ n. passed (suc n) ≡ true) same (of_on (suc c.child) c.on)))
