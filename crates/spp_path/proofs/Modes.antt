-- What the settling knows of the path as it goes backwards over the notes. A time stands between two notes: at
-- position k the join has the time 2k and the end 2k + 1, and the notes at and after a time have been taken.
use Rattle.std.proofs.Common.{◌≡◌, ℕ, suc, ◌+◌, ◌*◌, ◌≤◌, ◌<◌, Bool, true, false, refl, arith, sym, ◌∙◌, ap, subst, inl, inr, List, length, Some, None, nat_le, nat_eq, cond}
use Rattle.std.proofs.lemmas.Bool.{cases_lt, both_ways, leb-true, leb-false, eqb-true, eq-eqb}
use Rattle.spp_event.specs.declared.records.Event.{Event}
use Rattle.spp_maxplus.specs.declared.state.Burdens.{Burdens}
use Rattle.spp_dag.specs.Trace.{event_at, returns, spawns, IsWellFormed, partner, owner, join}
use Rattle.spp_dag.specs.Dag.{On, IsPath}
use Rattle.spp_dag.proofs.Depth.{closed, opens_not_returns}
use Rattle.spp_dag.proofs.Upper.{spawns_opens}
use Rattle.spp_dag.proofs.Crossing.{nested, join_spec, owner_closing}
use Rattle.spp_dag.specs.declared.choices.End.{End}
use Rattle.spp_path.specs.declared.settling.Onward.{Onward}
use Rattle.spp_path.specs.declared.settling.Onward.TheVariants.{Live, Skip, Seek}
use Rattle.spp_dag.specs.ChoiceLists.{IsEnd}
use Rattle.spp_dag.specs.Choices.{IsChoice}
use Rattle.spp_path.specs.Settling.{runs_to, ended}
use Rattle.spp_path.specs.Ways as ways
use Rattle.spp_dag.proofs.JoinPlaces.{join_waits}
use Rattle.spp_dag.proofs.Ties.{path_exists_to}
use Rattle.spp_path.proofs.Passing.{join_outside, Passes, passes_within, passes_return, passes_after, Clear, clear, passes_clear, enters_chosen, chosen_entered}

module _ (es : List Event) (wf : IsWellFormed es) (bd : Burdens) (ps : List ℕ) (p : IsPath es bd 0 (length es) ps) where
  -- the path enters the child spawned at s
  abbrev E : ℕ → Type 0
  E s = On 0 ps (suc s)

  -- what the way back says of this path
  abbrev pub Running : ℕ → Type 0
  Running t = ways.Running es ps t

  abbrev pub Skipping : ℕ → ℕ → Type 0
  Skipping t u = ways.Skipping es ps t u

  abbrev pub Seeking : ℕ → ℕ → Type 0
  Seeking t s = ways.Seeking es ps t s

  abbrev pub Says : ℕ → Onward → Type 0
  Says t w = ways.Says es ps t w

  -- between the note of the time k and the time t stands no end and no join of an entered child
  pub record Quiet (k t : ℕ) : Type 0 where
    pub below : k < t
    pub ends : (u : ℕ) → spawns (event_at es u) ≡ true → 2 * partner es u + 1 < t → 2 * partner es u + 1 ≤ k
    pub joins : (s : ℕ) → spawns (event_at es s) ≡ true → E s → 2 * join es s < t → 2 * join es s ≤ k

  -- so what runs there runs here
  running_down : (k t : ℕ) → Quiet k t → Running t → Running (suc k)
  running_down k t q r = record {
    held = λ u o a b. elim (cases_lt (2 * partner es u + 1) t) [
      | inl l ↦ absurd (let z = q.ends u o l in omega arith)
      | inr l ↦ r.held u o (let z = q.below in omega arith) l
    ];
    free = λ s o e a. let z = q.joins s o e (r.free s o e (let y = q.below in omega arith)) in omega arith;
  }

  -- no child returns where another is spawned
  pub not_both : (u s : ℕ) → spawns (event_at es u) ≡ true → spawns (event_at es s) ≡ true → partner es s ≡ u → ⊥
  not_both u s t v e =
      both_ways (returns (event_at es u)) (opens_not_returns (event_at es u) (spawns_opens (event_at es u) t))
      (subst (λ x. returns (event_at es x) ≡ true) e (closed es wf s (spawns_opens (event_at es s) v)).return)

  -- and no two children return at one place
  one_return : (s u : ℕ) → spawns (event_at es s) ≡ true → spawns (event_at es u) ≡ true → partner es s ≡ partner es u → s ≡ u
  one_return s u t v e =
      let a = owner_closing es wf s (spawns_opens (event_at es s) t) in
      let b = owner_closing es wf u (spawns_opens (event_at es u) v) in
      let c : owner es (partner es s) ≡ owner es (partner es u) = ap (λ k. owner es k) e in
      omega arith

  -- before the spawn of a skipped child the path runs again
  before_skipped : (k t u : ℕ) → Quiet k t → Skipping t u → k < 2 * u + 1 → Running (suc k)
  before_skipped k t u q s l =
      running_down k (2 * u + 1) (record {
        below = l;
        ends = λ v o a. q.ends v o (let z = s.lower in omega arith);
        joins = λ v o e a. q.joins v o e (let z = s.lower in omega arith);
      }) s.before

  -- before a running child's return the path runs at the child's spawn
  at_spawn : (s : ℕ) → spawns (event_at es s) ≡ true → Running (suc (2 * partner es s + 1)) → Running (2 * s + 1)
  at_spawn s t r =
      let o = spawns_opens (event_at es s) t in
      let c = closed es wf s o in
      let after : s < partner es s = c.after in
      record {
        held = λ u v a b.
            let n = nested es wf u s (spawns_opens (event_at es u) v) o (omega arith) (omega arith) in
            r.held u v (omega arith) (omega arith);
        free = λ q v e a.
            let k = closed es wf q (spawns_opens (event_at es q) v) in
            let z = r.free q v e (omega arith) in
            elim (cases_lt s (join es q)) [
              | inl x ↦ absurd (join_outside es wf q s v o (let y = k.after in omega arith) x (omega arith))
              | inr x ↦ omega arith
            ];
      }

  -- a child that returns while the path runs after it isn't entered
  not_entered : (s : ℕ) → spawns (event_at es s) ≡ true → Running (suc (2 * partner es s + 1)) → E s → ⊥
  not_entered s t r e =
      let z = r.free s t e (omega arith) in
      let y : suc (partner es s) ≤ join es s = (join_spec es wf s (spawns_opens (event_at es s) t)).lower in
      omega arith

  -- so it is skipped
  skips : (s k : ℕ) → spawns (event_at es s) ≡ true → 2 * partner es s + 1 ≡ k → Running (suc k) → Skipping k s
  skips s k t e r =
      let after : s < partner es s = (closed es wf s (spawns_opens (event_at es s) t)).after in
      let q : Running (suc (2 * partner es s + 1)) = subst (λ x. Running (suc x)) (sym e) r in
      record {
        spawned = t;
        out = not_entered s t q;
        lower = omega arith;
        upper = omega arith;
        before = at_spawn s t q;
      }

  -- at the return of an entered child the path runs
  found : (s k : ℕ) → spawns (event_at es s) ≡ true → E s → 2 * partner es s + 1 ≡ k → Running k
  found s k t e a =
      let c = clear es wf bd ps p (partner es s) (passes_return es wf bd ps p s t e) in
      record {
        held = λ u v x y. c.held u v (omega arith) (omega arith);
        free = λ q v f x. let z = c.free q v f (omega arith) in omega arith;
      }

  -- one step over an end
  pub says_ended : (e : End) (k t : ℕ) → IsEnd es e → 2 * e.at + 1 ≡ k → Quiet k t → (w : Onward) → Says t w → Says k (ended e w)
  says_ended e k t is at q Live s = skips e.spawn k is.0 (let z = is.1 in omega arith) (running_down k t q s)
  says_ended e k t is at q (Skip u) s = pick (nat_le e.at u) refl
    where
      pick : (b : Bool) → nat_le e.at u ≡ b → Says k (cond b (Skip e.spawn) (Skip u))
      pick true x =
          let l : e.at ≤ u = leb-true e.at u x in
          let ne : e.at ≡ u → ⊥ = λ z. not_both u e.spawn s.spawned is.0 (is.1 ∙ z) in
          let lt : e.at < u = omega arith in
          skips e.spawn k is.0 (let z = is.1 in omega arith) (before_skipped k t u q s (omega arith))
      pick false x =
          let l : u < e.at = leb-false e.at u x in
          record {
            spawned = s.spawned;
            out = s.out;
            lower = omega arith;
            upper = (let z = s.upper in let y = q.below in omega arith);
            before = s.before;
          }
  says_ended e k t is at q (Seek u) s = pick (nat_eq u e.spawn) refl
    where
      pick : (b : Bool) → nat_eq u e.spawn ≡ b → Says k (cond b Live (Seek u))
      pick true x =
          let y : u ≡ e.spawn = eqb-true u e.spawn x in
          let back : partner es u ≡ e.at = ap (λ v. partner es v) y ∙ is.1 in
          found u k s.spawned s.entered (omega arith)
      pick false x =
          let ne : partner es u ≡ partner es e.spawn → ⊥ = λ z. both_ways (nat_eq u e.spawn) x (eq-eqb u e.spawn (one_return u e.spawn s.spawned is.0 z)) in
          let z = q.ends u s.spawned s.lower in
          record {
            spawned = s.spawned;
            entered = s.entered;
            lower = omega (arith, is.1, ne);
            upper = (let y = s.upper in let x = q.below in omega arith);
          }

  -- where the walk comes to a join it runs
  running : (k t : ℕ) → Quiet (2 * k) t → (w : Onward) → Says t w → runs_to k w ≡ true → Running (suc (2 * k))
  running k t q Live s r = running_down (2 * k) t q s
  running k t q (Skip u) s r = let z = leb-true k u r in before_skipped (2 * k) t u q s (omega arith)
  running k t q (Seek u) s r = cc

  -- and the path passes it
  pub runs_passes : (k t : ℕ) → k ≤ length es → Quiet (2 * k) t → (w : Onward) → Says t w → runs_to k w ≡ true → Passes es wf bd ps p k
  runs_passes k t l q w s r = passes_clear es wf bd ps p k l (clear_of (running k t q w s r))
    where
      clear_of : Running (suc (2 * k)) → Clear es wf bd ps p k
      clear_of r = record {
        held = λ u v a b. r.held u v (omega arith) (omega arith);
        free = λ s v e a. let z = r.free s v e (omega arith) in omega arith;
      }

  -- and else it doesn't
  pub passes_runs : (k t : ℕ) → Quiet (2 * k) t → (w : Onward) → Says t w → runs_to k w ≡ false → Passes es wf bd ps p k → ⊥
  passes_runs k t q Live s r on = cc
  passes_runs k t q (Skip u) s r on =
      let z : u < k = leb-false k u r in
      s.out (passes_within es wf bd ps p u k (spawns_opens (event_at es u) s.spawned) z (let y = s.upper in let x = q.below in omega arith) on)
  passes_runs k t q (Seek u) s r on =
      let z = q.ends u s.spawned s.lower in
      let y = passes_after es wf bd ps p u k s.spawned s.entered (omega arith) on in
      (let x = s.upper in let v = q.below in omega arith)

  -- one step over a join that the path doesn't come to
  pub says_passed : (k t : ℕ) → Quiet (2 * k) t → (w : Onward) → Says t w → runs_to k w ≡ false → Says (2 * k) w
  says_passed k t q Live s r = cc
  says_passed k t q (Skip u) s r =
      let z : u < k = leb-false k u r in
      record {
        spawned = s.spawned;
        out = s.out;
        lower = omega arith;
        upper = (let y = s.upper in let x = q.below in omega arith);
        before = s.before;
      }
  says_passed k t q (Seek u) s r =
      let z = q.ends u s.spawned s.lower in
      record {
        spawned = s.spawned;
        entered = s.entered;
        lower = omega arith;
        upper = (let y = s.upper in let x = q.below in omega arith);
      }

  -- over one that it does come to, from a child
  pub says_taken : (k s : ℕ) → IsChoice es bd k (Some s) → Passes es wf bd ps p k → Says (2 * k) (Seek s) × E s
  says_taken k s is on =
      let t = is.0.0 in
      let at : join es s ≡ k = is.0.1 in
      let e = enters_chosen es wf bd ps p k s is on in
      let y : suc (partner es s) ≤ join es s = (join_spec es wf s (spawns_opens (event_at es s) t)).lower in
      (record { spawned = t; entered = e; lower = omega arith; upper = omega arith }, e)

  -- where none is taken no child is entered that joins there
  pub none_entered : (k s : ℕ) → IsChoice es bd k None → spawns (event_at es s) ≡ true → E s → join es s ≡ k → ⊥
  none_entered k s is t on at =
      let waits = join_waits es wf s t in
      let c = chosen_entered es wf bd ps p s t on in
      let qs = path_exists_to es wf bd (join es s) waits.0 waits.1 in
      let none : IsChoice es bd (join es s) None = subst (λ j. IsChoice es bd j None) (sym at) is in
      none s c.0 qs.0 qs.1 (c.1 qs.0 qs.1)

  -- and over one that it comes to along the parent
  pub says_none : (k t : ℕ) → Quiet (2 * k) t → (w : Onward) → Says t w → runs_to k w ≡ true → IsChoice es bd k None → Says (2 * k) Live
  says_none k t q w s r is =
      let here = running k t q w s r in
      record {
        held = λ u v a b. here.held u v (omega arith) (omega arith);
        free = λ u v e a.
            let z = here.free u v e (omega arith) in
            let other : join es u ≡ k → ⊥ = λ at. none_entered k u is v e at in
            omega arith;
      }

  -- at the end of the run the path runs
  pub says_first : Says (2 * suc (length es)) Live
  says_first = record {
    held = λ u v a b. absurd (let c = (closed es wf u (spawns_opens (event_at es u) v)).within in omega arith);
    free = λ s v e a. let z = (join_spec es wf s (spawns_opens (event_at es s) v)).upper in omega arith;
  }
