-- What a walk weighs, summed over positions.
use Rattle.std.proofs.Common.{◌≡◌, ℕ, zero, suc, ◌+◌, ◌*◌, ◌≤◌, ◌<◌, Bool, true, false, cond, not, ◌&&◌, ◌||◌, nat_eq, List, [], ◌∷◌, length, Option, Some, None, refl, sym, ap, subst, ◌∙◌, arith, inl, inr}
use Rattle.std.proofs.lemmas.Bool.{eqb-true, eq-eqb, ne_eqb, false_from_ne_true}
use Rattle.spp_event.specs.declared.records.Event.{Event}
use Rattle.spp_event.specs.declared.records.Event.TheVariants.{Strand, Call, Spawn, Ret, Sync}
use Rattle.spp_maxplus.specs.declared.state.Burdens.{Burdens}
use Rattle.spp_dag.specs.Ranges.{sum_where}
use Rattle.spp_dag.specs.Trace.{event_at, weight, spawns, returns, owner, is_spawned}
use Rattle.spp_dag.specs.Dag.{Walk, EdgeOf, EdgeBack, ReturnEdge, On}
use Rattle.spp_dag.specs.Rows.{contains}
use Rattle.spp_dag.proofs.Profiles.{contains_passed}
use Rattle.spp_dag.proofs.Sums.{sum-one, sum-split}
use Rattle.spp_dag.proofs.Bounds.{edge_forward, partner_after}
use Rattle.spp_advice.specs.Counts.{count_where}
use Rattle.spp_advice.proofs.Left.{on_from, on_head, none_past}
use Rattle.spp_advice.proofs.OnPath.{walk_ends}

-- the sum of f over the positions of a walk
abbrev pub path_sum : (ℕ → ℕ) → ℕ → List ℕ → ℕ
path_sum f x [] = f x
path_sum f x (p ∷ ps) = f x + path_sum f p ps

contradiction : {P : Type 0} (b : Bool) → b ≡ true → b ≡ false → P
contradiction b t f = let z : true ≡ false = sym t ∙ f in absurd cc

module _ (es : List Event) (burdens : Burdens) where
  -- the position is the return of a spawned child
  abbrev pub comes_back : ℕ → Bool
  comes_back k = returns (event_at es k) && is_spawned es (owner es k)

  abbrev cost_of : Option Event → (ℕ → Bool) → ℕ → ℕ
  cost_of e on k = cond (spawns e && not (on (suc k))) burdens.continuation 0 + cond (returns e && is_spawned es (owner es k)) burdens.join 0

  -- what the edge bears by which a path leaves a position
  abbrev pub cost : (ℕ → Bool) → ℕ → ℕ
  cost on k = cost_of (event_at es k) on k

  abbrev pub loaded : (ℕ → Bool) → ℕ → ℕ
  loaded on k = weight es k + cost on k

  back_cost : (b : Bool) (o u v c : ℕ) → EdgeBack es burdens b o u v c → c ≡ cond b burdens.join 0
  back_cost true o u v c h = h.1
  back_cost false o u v c h = h.1

  return_cost : (f u v c : ℕ) → ReturnEdge es burdens f u v c → c ≡ cond (is_spawned es f) burdens.join 0
  return_cost zero u v c h = absurd h
  return_cost (suc o) u v c h = back_cost (is_spawned es (suc o)) o u v c h

  edge_cost : (e : Option Event) (on : ℕ → Bool) (u v c : ℕ) → (v ≡ suc u → on (suc u) ≡ true) → (suc u < v → on (suc u) ≡ false) → EdgeOf es burdens e u v c → c ≡ cost_of e on u
  edge_cost None on u v c near far h = absurd h
  edge_cost (Some (Strand n)) on u v c near far h = h.1
  edge_cost (Some (Call s f)) on u v c near far h = h.1
  edge_cost (Some (Spawn s f)) on u v c near far (inl h) =
      let z : cond (not (on (suc u))) burdens.continuation 0 ≡ 0 = ap (λ (b : Bool). cond (not b) burdens.continuation 0) (near h.0) in
      omega (arith, h.1, z)
  edge_cost (Some (Spawn s f)) on u v c near far (inr h) =
      let p = partner_after es burdens u in
      let z : cond (not (on (suc u))) burdens.continuation 0 ≡ burdens.continuation = ap (λ (b : Bool). cond (not b) burdens.continuation 0) (far (omega (arith, p, h.0))) in
      omega (arith, h.1, z)
  edge_cost (Some Ret) on u v c near far h = let z = return_cost (owner es u) u v c h in omega (arith, z)
  edge_cost (Some Sync) on u v c near far h = h.1

  -- the walk lies ahead of x
  ahead : (x p k : ℕ) (ps : List ℕ) → x < k → contains (x ∷ (p ∷ ps)) k ≡ contains (p ∷ ps) k
  ahead x p k ps l = ap (λ (b : Bool). b || contains (p ∷ ps) k) (ne_eqb x k (λ e. omega (arith, e, l)))

  behind : (x w y p : ℕ) (ps : List ℕ) → Walk es burdens p ps y w → x < p → contains (p ∷ ps) x ≡ false
  behind x w y p ps h l = false_from_ne_true (contains (p ∷ ps) x) (λ t. let z = on_from es burdens p y w x ps h ((contains_passed p ps x).0 t) in omega (arith, z, l))

  pub walk_sum : (on : ℕ → Bool) (x w : ℕ) (ps : List ℕ) → Walk es burdens x ps (length es) w → ((k : ℕ) → x ≤ k → on k ≡ contains (x ∷ ps) k) → w ≡ path_sum (loaded on) x ps
  walk_sum on x w [] h same =
      let e : event_at es x ≡ None = ap (λ (k : ℕ). event_at es k) h.0 ∙ none_past es in
      let z : cost on x ≡ cost_of None on x = ap (λ (o : Option Event). cost_of o on x) e in
      let y = h.1 in
      omega (arith, y, z)
  walk_sum on x w (p ∷ ps) h same =
      let f = edge_forward es burdens (event_at es x) x p h.0 h.2 in
      let l : x < p = f.0 in
      let near : p ≡ suc x → on (suc x) ≡ true =
      λ e. same (suc x) (omega arith) ∙ (contains_passed x (p ∷ ps) (suc x)).1 (inr (subst (λ (k : ℕ). On p ps k) e (on_head es burdens p ps))) in
      let far : suc x < p → on (suc x) ≡ false = λ m. same (suc x) (omega arith) ∙ ahead x p (suc x) ps (omega arith) ∙ behind (suc x) h.1 (length es) p ps h.3 m in
      let c = edge_cost (event_at es x) on x p h.0 near far h.2 in
      let rest = walk_sum on p h.1 ps h.3 (λ k m. same k (omega arith) ∙ ahead x p k ps (omega arith)) in
      let y = h.4 in
      omega (arith, y, c, rest)

  split_cond : (a r : Bool) (v : ℕ) → (a ≡ true → r ≡ false) → cond (a || r) v 0 ≡ cond a v 0 + cond r v 0
  split_cond true true v h = contradiction true refl (h refl)
  split_cond true false v h = omega arith
  split_cond false true v h = omega arith
  split_cond false false v h = refl

  pub sum_path : (f : ℕ → ℕ) (x w : ℕ) (ps : List ℕ) → Walk es burdens x ps (length es) w → x ≤ length es → path_sum f x ps ≡ sum_where (contains (x ∷ ps)) f (suc (length es))
  sum_path f x w [] h le =
      let one = sum-one (contains (x ∷ [])) f (suc (length es)) x (omega arith) (λ k l d. ap (λ (b : Bool). b || false) (ne_eqb x k (λ e. d (sym e)))) in
      let t : contains (x ∷ []) x ≡ true = ap (λ (b : Bool). b || false) (eq-eqb x x refl) in
      sym (one ∙ ap (λ (b : Bool). cond b (f x) 0) t)
  sum_path f x w (p ∷ ps) h le =
      let e = edge_forward es burdens (event_at es x) x p h.0 h.2 in
      let l : x < p = e.0 in
      let last : p ≤ length es = on_from es burdens p (length es) h.1 (length es) ps h.3 (walk_ends es burdens p ps (length es) h.1 h.3) in
      let rest = sum_path f p h.1 ps h.3 last in
      let split = sum-split (contains (x ∷ (p ∷ ps))) (nat_eq x) (contains (p ∷ ps)) f (suc (length es))
      (λ k m. split_cond (nat_eq x k) (contains (p ∷ ps) k) (f k) (λ t. subst (λ (j : ℕ). contains (p ∷ ps) j ≡ false) (eqb-true x k t) (behind x h.1 (length es) p ps h.3 l))) in
      let one = sum-one (nat_eq x) f (suc (length es)) x (omega arith) (λ k m d. ne_eqb x k (λ q. d (sym q))) in
      let here : sum_where (nat_eq x) f (suc (length es)) ≡ f x = one ∙ ap (λ (b : Bool). cond b (f x) 0) (eq-eqb x x refl) in
      omega (arith, rest, split, here)

-- ---- sums of sums

pub sum_plus : (p : ℕ → Bool) (f g : ℕ → ℕ) (n : ℕ) → sum_where p (λ k. f k + g k) n ≡ sum_where p f n + sum_where p g n
sum_plus p f g zero = refl
sum_plus p f g (suc n) = let a = sum_plus p f g n in let b = both (p n) (f n) (g n) in omega arith
  where
    both : (b : Bool) (x y : ℕ) → cond b (x + y) 0 ≡ cond b x 0 + cond b y 0
    both true x y = refl
    both false x y = refl

pub sum_const : (p : ℕ → Bool) (c n : ℕ) → sum_where p (λ _. c) n ≡ count_where p n * c
sum_const p c zero = omega arith
sum_const p c (suc n) = at (p n) (count_where p n) (sum_where p (λ _. c) n) (sum_const p c n)
  where
    at : (b : Bool) (m s : ℕ) → s ≡ m * c → s + cond b c 0 ≡ (m + cond b 1 0) * c
    at true m s h = grind arith
    at false m s h = grind arith

pub sum_times : (p : ℕ → Bool) (f : ℕ → ℕ) (c n : ℕ) → sum_where p (λ k. f k * c) n ≡ sum_where p f n * c
sum_times p f c zero = omega arith
sum_times p f c (suc n) = at (p n) (f n) (sum_where p f n) (sum_where p (λ k. f k * c) n) (sum_times p f c n)
  where
    at : (b : Bool) (x m s : ℕ) → s ≡ m * c → s + cond b (x * c) 0 ≡ (m + cond b x 0) * c
    at true x m s h = grind arith
    at false x m s h = grind arith

-- of the costs of a path's positions those are continuation burdens that stand where it goes past a child
pub sum_costs : (es : List Event) (burdens : Burdens) (on : ℕ → Bool) (n : ℕ)
    → sum_where on (cost es burdens on) n
    ≡ count_where (λ k. on k && (spawns (event_at es k) && not (on (suc k)))) n * burdens.continuation + count_where (λ k. on k && comes_back es burdens k) n * burdens.join
sum_costs es burdens on n =
    let a = parted n in
    let b = sum_const (λ k. on k && (spawns (event_at es k) && not (on (suc k)))) burdens.continuation n in
    let c = sum_const (λ k. on k && comes_back es burdens k) burdens.join n in
    omega (arith, a, b, c)
  where
    both : (o a b : Bool) → cond o (cond a burdens.continuation 0 + cond b burdens.join 0) 0 ≡ cond (o && a) burdens.continuation 0 + cond (o && b) burdens.join 0
    both true a b = refl
    both false a b = refl

    parted : (n : ℕ)
        → sum_where on (cost es burdens on) n
        ≡ sum_where (λ k. on k && (spawns (event_at es k) && not (on (suc k)))) (λ _. burdens.continuation) n + sum_where (λ k. on k && comes_back es burdens k) (λ _. burdens.join) n
    parted zero = refl
    parted (suc n) =
        let a = parted n in
        let b = both (on n) (spawns (event_at es n) && not (on (suc n))) (comes_back es burdens n) in
        omega (arith, a, b)
