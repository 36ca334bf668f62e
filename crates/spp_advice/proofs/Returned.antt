-- The path comes back by as many return edges as it enters spawned children.
use Rattle.std.proofs.Common.{◌≡◌, ℕ, zero, suc, ◌+◌, ◌≤◌, ◌<◌, Bool, true, false, cond, ◌&&◌, nat_eq, nat_lt, List, ◌∷◌, length, refl, sym, ap, subst, ◌∙◌, arith, inl, inr}
use Rattle.std.proofs.lemmas.Bool.{cases_order, eqb-true, eq-eqb, ne_eqb, false_from_ne_true, lt-ltb, le-ltb, and_parts, and_from, and_right}
use Rattle.spp_event.specs.declared.records.Event.{Event}
use Rattle.spp_maxplus.specs.declared.state.Burdens.{Burdens}
use Rattle.spp_dag.specs.Trace.{event_at, spawns, returns, partner, owner, is_spawned, IsWellFormed}
use Rattle.spp_dag.specs.Dag.{IsPath, On}
use Rattle.spp_dag.specs.Rows.{contains}
use Rattle.spp_dag.proofs.Profiles.{contains_passed}
use Rattle.spp_dag.proofs.Sums.{sum-one, sum-split, sum-none, sum-same}
use Rattle.spp_dag.proofs.Depth.{closed, inside_opens}
use Rattle.spp_dag.proofs.Upper.{spawns_opens}
use Rattle.spp_dag.proofs.Machine.{shape}
use Rattle.spp_dag.proofs.Owner.{owner_is, return_closes}
use Rattle.spp_dag.proofs.Crossing.{owner_closing}
use Rattle.spp_dag.proofs.PathLaws.{whole_of, child_returns, frame_passed}
use Rattle.spp_path.proofs.Passing.{clear, clear_opening, passes_clear}
use Rattle.spp_advice.specs.Counts.{count_where}
use Rattle.spp_advice.proofs.Costs.{comes_back}

abbrev zeros : ℕ → ℕ
zeros s = 0

abbrev bit : Bool → ℕ
bit b = cond b 1 0

-- the frame that returns
pub returned_frame : (es : List Event) (wf : IsWellFormed es) (i : ℕ) → i ≤ length es → returns (event_at es i) ≡ true → (o : ℕ) × (owner es i ≡ suc o) × (partner es o ≡ i)
returned_frame es wf i le t =
    let h = shape es 0 zeros zeros wf i le in
    let r = return_closes es 0 zeros zeros wf i h t in
    (r.0, owner_is es 0 zeros zeros wf i h ∙ r.1.first, r.2)

and_when : (a b : Bool) → (a ≡ true → b ≡ true) → (a && b) ≡ a
and_when true b h = h refl
and_when false b h = refl

-- a number below the next one is below, or the same
next_below : (e : Bool) (a i : ℕ) → bit (e && nat_lt a (suc i)) ≡ bit (e && nat_lt a i) + bit (e && nat_eq a i)
next_below false a i = refl
next_below true a i =
    elim (cases_order a i) [
      | inl e ↦ sums true false true (lt-ltb a (suc i) (omega (arith, e))) (le-ltb a i (omega (arith, e))) (eq-eqb a i e) refl
      | inr other ↦ elim other [
        | inl l ↦ sums true true false (lt-ltb a (suc i) (omega arith)) (lt-ltb a i l) (ne_eqb a i (λ e. omega (arith, e, l))) refl
        | inr l ↦ sums false false false (le-ltb a (suc i) l) (le-ltb a i (omega arith)) (ne_eqb a i (λ e. omega (arith, e, l))) refl
      ]
    ]
  where
    sums : (x y z : Bool) → nat_lt a (suc i) ≡ x → nat_lt a i ≡ y → nat_eq a i ≡ z → bit x ≡ bit y + bit z → bit (nat_lt a (suc i)) ≡ bit (nat_lt a i) + bit (nat_eq a i)
    sums x y z p q r h =
        let u : bit (nat_lt a (suc i)) ≡ bit x = ap bit p in
        let v : bit (nat_lt a i) ≡ bit y = ap bit q in
        let w : bit (nat_eq a i) ≡ bit z = ap bit r in
        omega (arith, u, v, w, h)

module _ (es : List Event) (wf : IsWellFormed es) (burdens : Burdens) (ps : List ℕ) (path : IsPath es burdens 0 (length es) ps) where
  abbrev on : ℕ → Bool
  on = contains (0 ∷ ps)

  -- the path enters the child that is spawned there
  abbrev pub entered : ℕ → Bool
  entered s = spawns (event_at es s) && (on s && on (suc s))

  entered_spawns : (s : ℕ) → entered s ≡ true → spawns (event_at es s) ≡ true
  entered_spawns s t = (and_parts (spawns (event_at es s)) (on s && on (suc s)) t).0

  entered_on : (s : ℕ) → entered s ≡ true → On 0 ps (suc s)
  entered_on s t = (contains_passed 0 ps (suc s)).0 (and_parts (on s) (on (suc s)) (and_parts (spawns (event_at es s)) (on s && on (suc s)) t).1).1

  passes_spawn : (u : ℕ) → spawns (event_at es u) ≡ true → On 0 ps (suc u) → On 0 ps u
  passes_spawn u t go =
      let o = spawns_opens (event_at es u) t in
      let c = closed es wf u o in
      let after : u < partner es u = c.after in
      let n = inside_opens es u o in
      passes_clear es wf burdens ps path u (omega arith) (clear_opening es wf burdens ps path u (suc u) o (omega arith) (omega arith) (clear es wf burdens ps path (suc u) go))

  owner_of : (s i : ℕ) → spawns (event_at es s) ≡ true → partner es s ≡ i → owner es i ≡ suc s
  owner_of s i t e = subst (λ (k : ℕ). owner es k ≡ suc s) e (owner_closing es wf s (spawns_opens (event_at es s) t))

  -- an entered child's return is on the path
  returns_on : (s i : ℕ) → entered s ≡ true → partner es s ≡ i → (on i && comes_back es burdens i) ≡ true
  returns_on s i t e =
      let sp = entered_spawns s t in
      let whole = whole_of es wf burdens ps path in
      let ret : On 0 ps (partner es s) = child_returns es wf burdens ps whole.0 s whole.1 sp (entered_on s t) in
      let own = owner_of s i sp e in
      let c = (closed es wf s (spawns_opens (event_at es s) sp)).return in
      and_from (on i) (comes_back es burdens i) ((contains_passed 0 ps i).1 (subst (λ (k : ℕ). On 0 ps k) e ret))
      (and_from (returns (event_at es i)) (is_spawned es (owner es i)) (subst (λ (k : ℕ). returns (event_at es k) ≡ true) e c) (subst (λ (f : ℕ). is_spawned es f ≡ true) (sym own) sp))

  -- a return on the path of a spawned child is that of an entered one
  child_of : (i : ℕ) → i ≤ length es → (on i && comes_back es burdens i) ≡ true → (s : ℕ) × (partner es s ≡ i) × (entered s ≡ true)
  child_of i le t =
      let both = and_parts (on i) (comes_back es burdens i) t in
      let back = and_parts (returns (event_at es i)) (is_spawned es (owner es i)) both.1 in
      let f = returned_frame es wf i le back.0 in
      let sp : spawns (event_at es f.0) ≡ true = subst (λ (g : ℕ). is_spawned es g ≡ true) f.1 back.1 in
      let whole = whole_of es wf burdens ps path in
      let here : On 0 ps i = (contains_passed 0 ps i).0 both.0 in
      let first : On 0 ps (suc f.0) = subst (λ (g : ℕ). On 0 ps g) f.1 (frame_passed es wf burdens ps whole.0 i whole.1 le here) in (
        f.0,
        f.2,
        and_from (spawns (event_at es f.0)) (on f.0 && on (suc f.0)) sp
            (and_from (on f.0) (on (suc f.0)) ((contains_passed 0 ps f.0).1 (passes_spawn f.0 sp first)) ((contains_passed 0 ps (suc f.0)).1 first)),
      )

  -- at each position one child returns that was entered, or none
  at_return : (i : ℕ) → i ≤ length es → count_where (λ s. entered s && nat_eq (partner es s) i) (length es) ≡ cond (on i && comes_back es burdens i) 1 0
  at_return i le = by (on i && comes_back es burdens i) refl
    where
      by : (b : Bool) → (on i && comes_back es burdens i) ≡ b → count_where (λ s. entered s && nat_eq (partner es s) i) (length es) ≡ cond b 1 0
      by false e =
          sum-none (λ s. entered s && nat_eq (partner es s) i) (λ _. 1) (length es)
          (λ s l. false_from_ne_true (entered s && nat_eq (partner es s) i) (λ t.
          let q = and_parts (entered s) (nat_eq (partner es s) i) t in
          let z : true ≡ false = sym (returns_on s i q.0 (eqb-true (partner es s) i q.1)) ∙ e in
          absurd cc))
      by true e =
          let c = child_of i le e in
          let sp = entered_spawns c.0 c.2 in
          let own = owner_of c.0 i sp c.1 in
          let lt : c.0 < length es = inside_opens es c.0 (spawns_opens (event_at es c.0) sp) in
          let one = sum-one (λ s. entered s && nat_eq (partner es s) i) (λ _. 1) (length es) c.0 lt
          (λ s l d. false_from_ne_true (entered s && nat_eq (partner es s) i) (λ t.
          let q = and_parts (entered s) (nat_eq (partner es s) i) t in
          let r = owner_of s i (entered_spawns s q.0) (eqb-true (partner es s) i q.1) in
          d (omega (arith, own, r)))) in
          one ∙ ap (λ (b : Bool). cond b 1 0) (and_from (entered c.0) (nat_eq (partner es c.0) i) c.2 (eq-eqb (partner es c.0) i c.1))

  returned_before : (i : ℕ) → i ≤ suc (length es) → count_where (λ k. on k && comes_back es burdens k) i ≡ count_where (λ s. entered s && nat_lt (partner es s) i) (length es)
  returned_before zero le =
      sym (sum-none (λ s. entered s && nat_lt (partner es s) 0) (λ _. 1) (length es) (λ s l. and_right (entered s) (nat_lt (partner es s) 0) (le-ltb (partner es s) 0 (omega arith))))
  returned_before (suc i) le =
      let a = returned_before i (omega arith) in
      let b = at_return i (omega arith) in
      let c = sum-split (λ s. entered s && nat_lt (partner es s) (suc i)) (λ s. entered s && nat_lt (partner es s) i) (λ s. entered s && nat_eq (partner es s) i) (λ _. 1) (length es)
      (λ s l. next_below (entered s) (partner es s) i) in
      omega (arith, a, b, c)

  pub returned_all : count_where (λ k. on k && comes_back es burdens k) (suc (length es)) ≡ count_where entered (length es)
  returned_all =
      returned_before (suc (length es)) (omega arith)
      ∙ sum-same (λ s. entered s && nat_lt (partner es s) (suc (length es))) entered (λ _. 1) (λ _. 1) (length es)
      (λ s l. and_when (entered s) (nat_lt (partner es s) (suc (length es))) (λ t.
      let c = (closed es wf s (spawns_opens (event_at es s) (entered_spawns s t))).within in
      lt-ltb (partner es s) (suc (length es)) (omega (arith, c)))) (λ s l t. refl)
