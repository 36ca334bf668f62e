-- What the path is made of: the children that frames take where they wait.
use Rattle.std.proofs.Common.{◌≡◌, ℕ, zero, suc, ◌+◌, ◌*◌, ◌≤◌, ◌<◌, ◌↔◌, Bool, true, false, refl, arith, sym, ◌∙◌, ap, subst, ◌⊎◌, inl, inr, List, [], ◌∷◌, ◌++◌, length, Option, Some, None, nat_le, cond}
use Rattle.std.proofs.lemmas.Bool.{cases_lt, and_parts, and_from, eq-eqb, le-leb, leb-true}
use Rattle.std.proofs.lemmas.Option.{slice_get_past}
use Rattle.spp_event.specs.declared.records.Event.{Event}
use Rattle.spp_event.specs.declared.records.Event.TheVariants.{Strand, Call, Spawn, Ret, Sync}
use Rattle.spp_dag.specs.Trace.{event_at, weight, weight_of, opens, syncs, spawns, IsWellFormed, partner, owner, join}
use Rattle.spp_dag.specs.Dag.{On, IsPath}
use Rattle.spp_maxplus.specs.declared.state.Burdens.{Burdens}
use Rattle.spp_maxplus.specs.Candidate.{greatest}
use Rattle.spp_maxplus.specs.State.{close, taken, taken_of}
use Rattle.spp_dag.specs.Laws.{JoinsAt}
use Rattle.spp_dag.specs.Choices.{IsWaited}
use Rattle.spp_dag.proofs.Ranges.{least_le}
use Rattle.spp_dag.proofs.Depth.{is_return, closed_at_end, inside_opens, closed}
use Rattle.spp_dag.proofs.Machine.{Shape, shape}
use Rattle.spp_dag.proofs.Owner.{owner_is, at_closing}
use Rattle.spp_dag.proofs.Walks.{ReturnsTo, ReturnStep, StepOf, Step, joined, one_more, entry, entry_of_spawned}
use Rattle.spp_dag.proofs.Upper.{bounded, spawns_opens, child_weight, spine_le_close, held_join, held_top, candidate, spines, stops}
use Rattle.spp_dag.proofs.Lower.{ChildAt, Candidate, out_of, syncs_weight}
use Rattle.spp_dag.proofs.Span.{greatest_at, first_weight, stop_weight, reached_top}
use Rattle.spp_dag.proofs.Parting.{forward, trail_forward}
use Rattle.spp_dag.proofs.Ties.{room, prize, Won, winner_is_path, path_unique, room_positive}
use Rattle.spp_dag.proofs.ChoicesOfPaths.{same_taken, same_waiting}
use Rattle.spp_dag.proofs.Crossing.{within_owner, owned, owner_le, waits_for, join_spec, owner_closing, jump, passes_wait, passes_opening, passes_exit, Split, split_at, on_head, on_left, on_right, on_either, on_bounds, on_last}

-- what a state that takes a child looks like
taken_some : (spine s : ℕ) (c : Option (ℕ × ℕ)) → taken_of spine c ≡ Some s → (t : ℕ × ℕ) × (c ≡ Some t) × (t.1 ≡ s) × (greatest spine c ≡ t.0)
taken_some spine s None e = cc
taken_some spine s (Some c) e = pick (nat_le spine c.0) refl e
  where
    pick : (b : Bool) → nat_le spine c.0 ≡ b → cond b (Some c.1) None ≡ Some s → (t : ℕ × ℕ) × (Some c ≡ Some t) × (t.1 ≡ s) × (greatest spine (Some c) ≡ t.0)
    pick true q e = (c, refl, (let z = e in cc), (let l = leb-true spine c.0 q in omega arith))
    pick false q e = cc

taken_from : (spine : ℕ) (c : Option (ℕ × ℕ)) → greatest spine c ≤ child_weight c → 0 < child_weight c → spine ≤ greatest spine c → (t : ℕ × ℕ) × (taken_of spine c ≡ Some t.1)
taken_from spine None a b l = absurd (omega arith)
taken_from spine (Some c) a b l = (c, (let q : nat_le spine c.0 ≡ true = le-leb _ _ (let z : spine ≤ c.0 = omega arith in z) in rw (q, taken_of)))

module _ (es : List Event) (wf : IsWellFormed es) (burdens : Burdens) where
  abbrev B : ℕ
  B = room es 0

  -- what the continuation edges bear, and the return edges
  abbrev co : ℕ → ℕ
  co s = room es 0 * burdens.continuation

  abbrev re : ℕ → ℕ
  re s = room es 0 * burdens.join

  abbrev to : ℕ → ℕ
  to = prize es

  abbrev bk : ℕ → ℕ
  bk s = prize es s + room es 0 * burdens.join

  abbrev Ways : ℕ → Type 0
  Ways = Shape es B co bk

  split : (s : ℕ) → bk s ≡ to s + re s
  split s = refl

  -- of the walks from x to y the one that wins most
  pub record Winner (x y : ℕ) (ps : List ℕ) (w : ℕ) : Type 0 where
    pub walk : Won es burdens.continuation burdens.join x ps y w
    pub most : (qs : List ℕ) (v : ℕ) → Won es burdens.continuation burdens.join x qs y v → v ≤ w

  pub winner_path : (x y w : ℕ) (ps : List ℕ) → y ≤ length es → Winner x y ps w → IsPath es burdens x y ps
  winner_path x y w ps l h = winner_is_path es wf burdens x y l ps w h.walk h.most

  pub winner_unique : (x y v w : ℕ) (ps qs : List ℕ) → y ≤ length es → Winner x y ps v → Winner x y qs w → ps ≡ qs
  winner_unique x y v w ps qs l a b = path_unique es burdens x y ps qs (winner_path x y v ps l a) (winner_path x y w qs l b)

  winner_left : (x i y w : ℕ) (ps : List ℕ) → Winner x y ps w → (s : Split es wf B to co re x i y ps w) → Winner x i s.before s.first
  winner_left x i y w ps h s = record {
    walk = s.left;
    most = λ qs v q.
        let j = joined es B to co re x i y v s.second qs s.after q s.right in
        let m = h.most (qs ++ s.after) j.0 j.1 in
        omega (arith, s.sum, j.2);
  }

  winner_right : (x i y w : ℕ) (ps : List ℕ) → Winner x y ps w → (s : Split es wf B to co re x i y ps w) → Winner i y s.after s.second
  winner_right x i y w ps h s = record {
    walk = s.right;
    most = λ qs v q.
        let j = joined es B to co re x i y s.first v s.before qs s.left q in
        let m = h.most (s.before ++ qs) j.0 j.1 in
        omega (arith, s.sum, j.2);
  }

  pub record Within (x f k : ℕ) (ps : List ℕ) : Type 0 where
    pub middle : List ℕ
    pub weight_of_it : ℕ
    pub winner : Winner f k middle weight_of_it
    pub inward : (i : ℕ) → f ≤ i → i ≤ k → On x ps i → On f middle i
    pub outward : (i : ℕ) → On f middle i → On x ps i

  -- between two of its positions the path is the path between them
  pub restricted : (x y w f k : ℕ) (ps : List ℕ) → Winner x y ps w → On x ps f → On x ps k → f ≤ k → Within x f k ps
  restricted x y w f k ps h a b l =
      let s = split_at es wf B to co re x f y ps w h.walk a in
      let hr = winner_right x f y w ps h s in
      let b2 : On f s.after k = elim (on_either es wf B to co re x f k s.first s.before s.after s.left (subst (λ q. On x q k) s.is b)) [
        | inl c ↦ (let d = on_bounds es wf B to co re x f k s.first s.before s.left c in let e : f ≡ k = omega (arith, d.1) in subst (λ q. On f s.after q) e (on_head es wf B to co re f s.after))
        | inr c ↦ c
      ] in
      let t = split_at es wf B to co re f k y s.after s.second s.right b2 in
      let m = winner_left f k y s.second s.after hr t in
      record {
        middle = t.before;
        weight_of_it = t.first;
        winner = m;
        inward = λ i c d e.
            elim (on_either es wf B to co re x f i s.first s.before s.after s.left (subst (λ q. On x q i) s.is e)) [
              | inl g ↦ (let z = on_bounds es wf B to co re x f i s.first s.before s.left g in let q : f ≡ i = omega (arith, z.1) in subst (λ j. On f t.before j) q (on_head es wf B to co re f t.before))
              | inr g ↦ elim (on_either es wf B to co re f k i t.first t.before t.after t.left (subst (λ q. On f q i) t.is g)) [
                | inl u ↦ u
                | inr u ↦ (let z = on_bounds es wf B to co re k y i t.second t.after t.right u in let q : k ≡ i = omega (arith, z.0) in subst (λ j. On f t.before j) q (on_last es wf B to co re f k t.first t.before t.left))
              ]
            ];
        outward = λ i e.
            subst (λ q. On x q i) (sym s.is) (on_right es wf B to co re x f i s.first s.before s.after s.left
            (subst (λ q. On f q i) (sym t.is) (on_left es wf B to co re f i t.before t.after e)));
      }

  -- at the join of the child spawned at s, its parent's best child is at least as good as any walk through it
  pub record AtJoin (s : ℕ) (h : Ways (join es s)) : Type 0 where
    pub inside : join es s ≤ length es
    pub waits : join es s < length es → syncs (event_at es (join es s)) ≡ true
    pub own : h.top.first ≡ owner es s
    pub bound : (ps : List ℕ) (v : ℕ) → Won es burdens.continuation burdens.join (owner es s) ps (partner es s) v → v + B * burdens.join ≤ child_weight h.top.state.child
    pub positive : 0 < child_weight h.top.state.child

  pub at_join : (s : ℕ) → spawns (event_at es s) ≡ true → (h : Ways (join es s)) → AtJoin s h
  at_join s t h =
      let o = spawns_opens (event_at es s) t in
      let c = closed es wf s o in
      let p : ℕ = partner es s in
      let lp : p ≤ length es = (let z = c.within in omega arith) in
      let ls : s ≤ length es = (let z = c.after in omega arith) in
      let hp = shape es B co bk wf p lp in
      let g = shape es B co bk wf s ls in
      let r = at_closing es B co bk wf s o hp in
      let spec = join_spec es wf s o in
      let own_s = owner_is es B co bk wf s g in
      let held = held_join es B co bk wf to re split p s hp c.return r refl t g in
      let top = held_top es B co bk wf to re split s (join es s) (candidate es B co bk wf to re split p s hp g) g h spec.upper own_s (λ z. spec.passes z) held in
      record {
        inside = spec.upper;
        waits = λ z. (and_parts _ _ (spec.passes z)).0;
        own = top.0 ∙ sym own_s;
        bound = λ ps v q.
            let b = bounded es B co bk wf to re split g.top.first p v ps (subst (λ f. Won es burdens.continuation burdens.join f ps p v) own_s q) in
            let ret = is_return (event_at es p) c.return in
            let a = stop_weight es B co bk wf to re split p hp (ap stops ret) in
            let d : entry es to hp.top.first ≡ to s = ap (entry es to) r.first ∙ entry_of_spawned to s (event_at es s) t in
            let e : spines (entry es to) hp.rest ≡ (g.top.state.spine + entry es to g.top.first) + spines (entry es to) g.rest = ap (spines (entry es to)) (r.below ∙ g.is) in
            let f = first_weight es B co bk wf to re split s g in
            let k : B * weight es p ≡ B * 0 = ap (λ x. B * weight_of x) ret in
            let m = top.2 in
            omega arith;
        positive = (let m = top.2 in let n = room_positive es (suc s) in omega arith);
      }

  -- where a frame takes a child, the best walk comes from that child's return
  pub record Came (k s : ℕ) (h : Ways k) : Type 0 where
    pub spawned : spawns (event_at es s) ≡ true
    pub own : owner es s ≡ h.top.first
    pub at : join es s ≡ k
    pub rest : List ℕ
    pub weight_to : ℕ
    pub walk : Won es burdens.continuation burdens.join h.top.first rest (partner es s) weight_to
    pub winner : Winner h.top.first k (rest ++ k ∷ []) (close h.top.state)

  came_by : (k : ℕ) → k ≤ length es → (k < length es → syncs (event_at es k) ≡ true) → (h : Ways k) (t : ℕ × ℕ) → greatest h.top.state.spine h.top.state.child ≡ t.0
      → Candidate es B to co re h.top.first k t.0 t.1 → Came k t.1 h
  came_by k l n h t e d =
      let s : ℕ = t.1 in
      let o = spawns_opens (event_at es s) d.spawned in
      let c = closed es wf s o in
      let spec = join_spec es wf s o in
      let wait : ℕ = d.reached in
      let own_k = owner_is es B co bk wf k h in
      let at : join es s ≡ k = elim (cases_lt k (length es)) [
        | inl i ↦ (let u = least_le (waits_for es wf s) (suc (partner es s)) (length es) k d.before i (and_from _ _ (n i) (eq-eqb _ _ (own_k ∙ sym d.own))) in let w = d.waiting in omega arith)
        | inr i ↦ (let u = spec.upper in let w = d.waiting in omega arith)
      ] in
      let step = subst (λ j. Step es B to co re (partner es s) j (B * burdens.join)) at (out_of es B co bk wf to re split s d.spawned) in
      let z : weight es k ≡ 0 = elim (cases_lt k (length es)) [ inl i ↦ syncs_weight (event_at es k) (n i) | inr i ↦ ap weight_of (slice_get_past es k i) ] in
      let zk : B * weight es k ≡ B * 0 = ap (λ x. B * x) z in
      let zp : B * weight es (partner es s) ≡ B * 0 = ap (λ x. B * weight_of x) (is_return (event_at es (partner es s)) c.return) in
      let longer = one_more es B to co re h.top.first (partner es s) k d.walk.1 (B * burdens.join) d.walk.0 d.walk.2 step in
      let whole : d.walk.1 + (B * burdens.join + B * weight es k) ≡ close h.top.state = (let a = d.walk.3 in let b = d.is in omega arith) in
      record {
        spawned = d.spawned;
        own = d.own;
        at = at;
        rest = d.walk.0;
        weight_to = d.walk.1;
        walk = d.walk.2;
        winner = record {
          walk = subst (λ v. Won es burdens.continuation burdens.join h.top.first (d.walk.0 ++ k ∷ []) k v) whole longer;
          most = (greatest_at es B co bk wf to re split k l n h).1;
        };
      }

  pub came : (k : ℕ) → k ≤ length es → (k < length es → syncs (event_at es k) ≡ true) → (h : Ways k) (s : ℕ) → taken h.top.state ≡ Some s → Came k s h
  came k l n h s e =
      let t = taken_some h.top.state.spine s h.top.state.child e in
      let r = reached_top es B co bk wf to re split k l h in
      let d = subst (λ c. ChildAt es B to co re h.top.first k c) t.1 r.child in
      subst (λ x. Came k x h) t.2 (came_by k l n h t.0 t.3 d)

  -- the step out of a spawned child goes to its join
  leaves : (s u c : ℕ) → spawns (event_at es s) ≡ true → Step es B to co re (partner es s) u c → (u ≡ join es s) × (c ≡ B * burdens.join)
  leaves s u c t q =
      let o = spawns_opens (event_at es s) t in
      let d = closed es wf s o in
      let a = subst (λ e. StepOf es B to co re e (partner es s) u c) (is_return (event_at es (partner es s)) d.return) q in
      let b = subst (λ f. ReturnStep es B to co re f (partner es s) u c) (owner_closing es wf s o) a in
      subst (λ x. ReturnsTo es B to co re x s (partner es s) u c) t b

  ends_there : (k w : ℕ) (ps : List ℕ) → Won es burdens.continuation burdens.join k ps k w → w ≡ B * weight es k
  ends_there k w [] t = t.1
  ends_there k w (u ∷ ps) t =
      let f = forward es wf B to co re k u t.0 t.2 in
      let g = trail_forward es wf B to co re u k t.1 ps t.3 in
      absurd (omega arith)

  -- a walk that is at the child's return goes on to the join
  pub goes_to_join : (x y w s : ℕ) (ps : List ℕ) → spawns (event_at es s) ≡ true → Won es burdens.continuation burdens.join x ps y w → On x ps (partner es s) → partner es s < y → On x ps (join es s) × (join es s ≤ y)
  goes_to_join x y w s ps t q a l =
      let d = split_at es wf B to co re x (partner es s) y ps w q a in
      let r = after_of d.after d.second d.right in
      (subst (λ k. On x k (join es s)) (sym d.is) (on_right es wf B to co re x (partner es s) (join es s) d.first d.before d.after d.left r.0), r.1)
    where
      after_of : (bs : List ℕ) (v : ℕ) → Won es burdens.continuation burdens.join (partner es s) bs y v → On (partner es s) bs (join es s) × (join es s ≤ y)
      after_of [] v b = absurd (omega (arith, b.0))
      after_of (u ∷ bs) v b =
          let e = leaves s u b.0 t b.2 in
          let g = trail_forward es wf B to co re u y b.1 bs b.3 in
          (inr (subst (λ k. On u bs k) e.0 (on_head es wf B to co re u bs)), (let z = e.0 in omega arith))

  -- the child that a frame takes is on its best walk
  pub takes_enters : (k : ℕ) → k ≤ length es → (k < length es → syncs (event_at es k) ≡ true) → (h : Ways k) (s v : ℕ) (mid : List ℕ) → taken h.top.state ≡ Some s
      → Winner h.top.first k mid v → On h.top.first mid (suc s)
  takes_enters k l n h s v mid e w =
      let c = came k l n h s e in
      let o = spawns_opens (event_at es s) c.spawned in
      let q = winner_unique h.top.first k v (close h.top.state) mid (c.rest ++ k ∷ []) l w c.winner in
      let d = closed es wf s o in
      let i = owner_le es wf s (let z = inside_opens es s o in omega arith) in
      let a : s < partner es s = d.after in
      let p = passes_opening es wf B to co re h.top.first (partner es s) c.weight_to s c.rest c.walk o (let z = c.own in omega arith) a (omega arith) in
      subst (λ r. On h.top.first r (suc s)) (sym q) (on_left es wf B to co re h.top.first (suc s) c.rest (k ∷ []) p.1)

  same_child : (s t : ℕ) → spawns (event_at es s) ≡ true → spawns (event_at es t) ≡ true → partner es s ≡ partner es t → s ≡ t
  same_child s t a b e =
      let x = owner_closing es wf s (spawns_opens (event_at es s) a) in
      let y = owner_closing es wf t (spawns_opens (event_at es t) b) in
      let z : owner es (partner es s) ≡ owner es (partner es t) = ap (λ k. owner es k) e in
      omega arith

  -- no walk ends at a join of s coming from elsewhere than the last return
  same_last : (f k s t w : ℕ) (rest : List ℕ) → spawns (event_at es s) ≡ true → spawns (event_at es t) ≡ true → join es s ≡ k → join es t ≡ k
      → Won es burdens.continuation burdens.join f rest (partner es t) w → On f (rest ++ k ∷ []) (partner es s) → s ≡ t
  same_last f k s t w rest a b p q r o =
      let os = spawns_opens (event_at es s) a in
      let ot = spawns_opens (event_at es t) b in
      let js : suc (partner es s) ≤ join es s = (join_spec es wf s os).lower in
      let jt : suc (partner es t) ≤ join es t = (join_spec es wf t ot).lower in
      elim (on_either es wf B to co re f (partner es t) (partner es s) w rest (k ∷ []) r o) [
        | inl i ↦
            let d = on_bounds es wf B to co re f (partner es t) (partner es s) w rest r i in
            let le : partner es s ≤ partner es t = d.1 in
            elim (cases_lt (partner es s) (partner es t)) [
              | inl l ↦ absurd (let g = (goes_to_join f (partner es t) w s rest a r i l).1 in omega arith)
              | inr l ↦ same_child s t a b (let z : partner es s ≡ partner es t = omega arith in z)
            ]
        | inr i ↦ elim i [
          | inl e ↦ same_child s t a b e
          | inr e ↦ absurd (let z : partner es s ≡ k = e in omega arith)
        ]
      ]

  last_step : (s y w : ℕ) (bs : List ℕ) → spawns (event_at es s) ≡ true → Won es burdens.continuation burdens.join (partner es s) bs y w → y ≡ join es s → weight es y ≡ 0 → w ≡ B * burdens.join
  last_step s y w [] t q e z =
      let j : suc (partner es s) ≤ join es s = (join_spec es wf s (spawns_opens (event_at es s) t)).lower in
      absurd (omega (arith, q.0))
  last_step s y w (u ∷ bs) t q e z =
      let l = leaves s u q.0 t q.2 in
      let c = closed es wf s (spawns_opens (event_at es s) t) in
      let g = ends_there y q.1 bs (subst (λ k. Won es burdens.continuation burdens.join k bs y q.1) (l.0 ∙ sym e) q.3) in
      let zy : B * weight es y ≡ B * 0 = ap (λ x. B * x) z in
      let zp : B * weight es (partner es s) ≡ B * 0 = ap (λ x. B * weight_of x) (is_return (event_at es (partner es s)) c.return) in
      omega (arith, l.1, q.4)

  -- a child on the best walk to its join is the one that its parent takes there
  pub enters_takes : (s : ℕ) → spawns (event_at es s) ≡ true → (h : Ways (join es s)) (v : ℕ) (mid : List ℕ) → Winner (owner es s) (join es s) mid v
      → On (owner es s) mid (suc s) → taken h.top.state ≡ Some s
  enters_takes s t h v mid w on =
      let k : ℕ = join es s in
      let f : ℕ = owner es s in
      let o = spawns_opens (event_at es s) t in
      let c = closed es wf s o in
      let a = at_join s t h in
      let j : suc (partner es s) ≤ join es s = (join_spec es wf s o).lower in
      let i : s < partner es s = c.after in
      let x = split_at es wf B to co re f (suc s) k mid v w.walk on in
      let y = passes_exit es wf B to co re (suc s) k x.second s x.after x.right o (omega arith) i (omega arith) in
      let onp : On f mid (partner es s) = subst (λ r. On f r (partner es s)) (sym x.is) (on_right es wf B to co re f (suc s) (partner es s) x.first x.before x.after x.left y) in
      let d = split_at es wf B to co re f (partner es s) k mid v w.walk onp in
      let z : weight es k ≡ 0 = elim (cases_lt k (length es)) [ inl m ↦ syncs_weight (event_at es k) (a.waits m) | inr m ↦ ap weight_of (slice_get_past es k m) ] in
      let zp : B * weight es (partner es s) ≡ B * 0 = ap (λ x. B * weight_of x) (is_return (event_at es (partner es s)) c.return) in
      let v2 = last_step s k d.second d.after t d.right refl z in
      let bound = a.bound d.before d.first d.left in
      let g = greatest_at es B co bk wf to re split k a.inside a.waits h in
      let most : close h.top.state ≤ v = w.most g.0.0 (close h.top.state) (subst (λ q. Won es burdens.continuation burdens.join q g.0.0 k (close h.top.state)) a.own g.0.1) in
      let enough : close h.top.state ≤ child_weight h.top.state.child = omega (arith, d.sum) in
      let tk = taken_from h.top.state.spine h.top.state.child enough a.positive (spine_le_close h.top.state) in
      let cm = came k a.inside a.waits h tk.0.1 tk.1 in
      let q = winner_unique h.top.first k v (close h.top.state) mid (cm.rest ++ k ∷ []) a.inside (subst (λ r. Winner r k mid v) (sym a.own) w) cm.winner in
      let onq : On h.top.first (cm.rest ++ k ∷ []) (partner es s) = subst (λ r. On h.top.first r (partner es s)) q (subst (λ r. On r mid (partner es s)) (sym a.own) onp) in
      let e = same_last h.top.first k s tk.0.1 cm.weight_to cm.rest t cm.spawned refl cm.at cm.walk onq in
      tk.1 ∙ ap Some (sym e)

  -- what is asked of a walk of the whole trace
  abbrev Whole : List ℕ → ℕ → Type 0
  Whole ps w = Winner 0 (length es) ps w

  -- a position's frame is entered where the position is passed
  pub frame_passed : (ps : List ℕ) (w i : ℕ) → Whole ps w → i ≤ length es → On 0 ps i → On 0 ps (owner es i)
  frame_passed ps w i h l on = frame_of (owner es i) refl
    where
      frame_of : (f : ℕ) → owner es i ≡ f → On 0 ps (owner es i)
      frame_of zero e = subst (λ k. On 0 ps k) (sym e) (on_head es wf B to co re 0 ps)
      frame_of (suc m) e =
          let o = owned es wf i m l e in
          let s = split_at es wf B to co re 0 i (length es) ps w h.walk on in
          let p = passes_opening es wf B to co re 0 i s.first m s.before s.left o.opened (let z : 0 ≤ m = omega arith in z) o.after o.within in
          subst (λ r. On 0 r (owner es i)) (sym s.is) (on_left es wf B to co re 0 (owner es i) s.before s.after (subst (λ k. On 0 s.before k) (sym e) p.1))

  -- a frame that is entered passes each place where it waits
  pub wait_passed : (ps : List ℕ) (w k : ℕ) → Whole ps w → k ≤ length es → (k < length es → syncs (event_at es k) ≡ true) → On 0 ps (owner es k) → On 0 ps k
  wait_passed ps w k h l n on =
      elim (cases_lt k (length es)) [
        | inl i ↦
            let s = split_at es wf B to co re 0 (owner es k) (length es) ps w h.walk on in
            let p = passes_wait es wf B to co re (owner es k) (length es) s.second k s.after s.right i (n i) (let z : owner es k ≤ owner es k = omega arith in z) (owner_le es wf k l) l in
            subst (λ r. On 0 r k) (sym s.is) (on_right es wf B to co re 0 (owner es k) k s.first s.before s.after s.left p)
        | inr i ↦ subst (λ k. On 0 ps k) (let e : length es ≡ k = omega arith in e) (on_last es wf B to co re 0 (length es) w ps h.walk)
      ]

  calls_step : (x u c : ℕ) (e : Option Event) → opens e ≡ true → spawns e ≡ false → StepOf es B to co re e x u c → u ≡ suc x
  calls_step x u c None t n s = absurd s
  calls_step x u c (Some (Strand k)) t n s = s.0
  calls_step x u c (Some (Call a f)) t n s = s.0
  calls_step x u c (Some (Spawn a f)) t n s = cc
  calls_step x u c (Some Ret) t n s = cc
  calls_step x u c (Some Sync) t n s = s.0

  -- a walk from within i's frame passes i, or goes past it out of a child of that frame
  pub passes_or_skips : (x y w i : ℕ) (ps : List ℕ) → Won es burdens.continuation burdens.join x ps y w → i ≤ length es → owner es i ≤ x → x ≤ i → i ≤ y
      → On x ps i ⊎ ((s : ℕ) × (spawns (event_at es s) ≡ true) × (owner es s ≡ owner es i) × (partner es s < i) × (i < join es s) × On x ps (partner es s))
  passes_or_skips x y w i [] t l a b c = inl (omega (arith, t.0))
  passes_or_skips x y w i (u ∷ ps) t l a b c =
      elim (cases_lt x i) [
        | inl d ↦ elim (cases_lt i u) [
          | inl g ↦
              let j = jump es wf B to co re i x u t.0 l a d g t.2 in
              inr (j.child, j.spawned, j.own, (let z = j.from in omega arith), (let z = j.to in omega arith), inl j.from)
          | inr g ↦
              let f = forward es wf B to co re x u t.0 t.2 in
              elim (passes_or_skips u y t.1 i ps t.3 l (omega arith) g c) [
                | inl r ↦ inl (inr r)
                | inr r ↦ inr (r.0, r.1, r.2, r.3, r.4, inr r.5)
              ]
        ]
        | inr d ↦ inl (inl (let z : i ≡ x = omega arith in z))
      ]

  -- the path of the definitions is the walk that wins most
  pub whole_of : (ps : List ℕ) → IsPath es burdens 0 (length es) ps → (w : ℕ) × Whole ps w
  whole_of ps p =
      let l : length es ≤ length es = omega arith in
      let h = shape es B co bk wf (length es) l in
      let at_end : length es < length es → syncs (event_at es (length es)) ≡ true = λ z. absurd (omega arith) in
      let zero_first : h.top.first ≡ 0 = elim h.case [ inl r ↦ r.first | inr w ↦ absurd (omega (arith, w.1.level, closed_at_end es wf)) ] in
      let g = greatest_at es B co bk wf to re split (length es) l at_end h in
      let w : Winner 0 (length es) g.0.0 (close h.top.state) = subst (λ f. Winner f (length es) g.0.0 (close h.top.state)) zero_first (record { walk = g.0.1; most = g.1 }) in
      let e = path_unique es burdens 0 (length es) g.0.0 ps (winner_path 0 (length es) (close h.top.state) g.0.0 l w) p in
      (close h.top.state, subst (λ q. Whole q (close h.top.state)) e w)

  abbrev Plain1 : ℕ → Type 0
  Plain1 = Shape es 1 (λ _. burdens.continuation) (λ _. burdens.join)

  pub child_returns : (ps : List ℕ) (w s : ℕ) → Whole ps w → spawns (event_at es s) ≡ true → On 0 ps (suc s) → On 0 ps (partner es s)
  child_returns ps w s h t on =
      let o = spawns_opens (event_at es s) t in
      let c = closed es wf s o in
      let i : s < partner es s = c.after in
      let x = split_at es wf B to co re 0 (suc s) (length es) ps w h.walk on in
      let y = passes_exit es wf B to co re (suc s) (length es) x.second s x.after x.right o (let z : s < suc s = omega arith in z) i c.within in
      subst (λ r. On 0 r (partner es s)) (sym x.is) (on_right es wf B to co re 0 (suc s) (partner es s) x.first x.before x.after x.left y)

  -- the path enters a spawned child exactly where it enters the child's parent and the parent takes that child at its
  -- join
  pub path_enters : (ps : List ℕ) → IsPath es burdens 0 (length es) ps → (s : ℕ) → spawns (event_at es s) ≡ true → (h : Plain1 (join es s))
      → On 0 ps (suc s) ↔ (On 0 ps (owner es s) × (taken h.top.state ≡ Some s))
  path_enters ps p s t h =
      let k : ℕ = join es s in
      let wh = whole_of ps p in
      let o = spawns_opens (event_at es s) t in
      let spec = join_spec es wf s o in
      let b = shape es B co bk wf k spec.upper in
      let a = at_join s t b in
      let same = same_taken es wf burdens.continuation burdens.join k a.inside h b in
      let c = closed es wf s o in
      let ls : s ≤ length es = (let z = inside_opens es s o in omega arith) in
      let own_k : owner es k ≡ owner es s = owner_is es B co bk wf k b ∙ a.own in
      let le : owner es s ≤ k = (let z = owner_le es wf s ls in let y : s < partner es s = c.after in let x : suc (partner es s) ≤ join es s = spec.lower in omega arith) in (
        (λ on.
            let ret = child_returns ps wh.0 s wh.1 t on in
            let onk = (goes_to_join 0 (length es) wh.0 s ps t wh.1.walk ret c.within).0 in
            let onf = subst (λ f. On 0 ps f) own_k (frame_passed ps wh.0 k wh.1 a.inside onk) in
            let m = restricted 0 (length es) wh.0 (owner es s) k ps wh.1 onf onk le in
            let inner = m.inward (suc s) (let z = owner_le es wf s ls in omega arith) (let y : s < partner es s = c.after in let x : suc (partner es s) ≤ join es s = spec.lower in omega arith) on in
            (onf, same ∙ enters_takes s t b m.weight_of_it m.middle m.winner inner)),
        (λ both.
            let onk = wait_passed ps wh.0 k wh.1 a.inside a.waits (subst (λ f. On 0 ps f) (sym own_k) both.0) in
            let m = restricted 0 (length es) wh.0 (owner es s) k ps wh.1 both.0 onk le in
            let inner = takes_enters k a.inside a.waits b s m.weight_of_it m.middle (sym same ∙ both.1) (subst (λ f. Winner f k m.middle m.weight_of_it) (sym a.own) m.winner) in
            m.outward (suc s) (subst (λ f. On f m.middle (suc s)) a.own inner)),
      )

  -- the path enters a called frame exactly where it passes the call
  pub path_calls : (ps : List ℕ) → IsPath es burdens 0 (length es) ps → (c : ℕ) → opens (event_at es c) ≡ true → spawns (event_at es c) ≡ false → On 0 ps (suc c) ↔ On 0 ps c
  path_calls ps p c t n =
      let wh = whole_of ps p in
      let d = closed es wf c t in
      let i : c < partner es c = d.after in (
        (λ on.
            let s = split_at es wf B to co re 0 (suc c) (length es) ps wh.0 wh.1.walk on in
            let q = passes_opening es wf B to co re 0 (suc c) s.first c s.before s.left t (let z : 0 ≤ c = omega arith in z) (let z : c < suc c = omega arith in z) i in
            subst (λ r. On 0 r c) (sym s.is) (on_left es wf B to co re 0 c s.before s.after q.0)),
        (λ on.
            let s = split_at es wf B to co re 0 c (length es) ps wh.0 wh.1.walk on in
            subst (λ r. On 0 r (suc c)) (sym s.is) (on_right es wf B to co re 0 c (suc c) s.first s.before s.after s.left (next s.after s.second s.right))),
      )
    where
      next : (bs : List ℕ) (v : ℕ) → Won es burdens.continuation burdens.join c bs (length es) v → On c bs (suc c)
      next [] v b = absurd (let z = inside_opens es c t in omega (arith, b.0))
      next (u ∷ bs) v b = inr (subst (λ k. On u bs k) (calls_step c u b.0 (event_at es c) t n b.2) (on_head es wf B to co re u bs))

  -- the path passes a position exactly where it enters its frame, and that frame has then no entered child still to be
  -- waited for
  pub path_passes : (ps : List ℕ) → IsPath es burdens 0 (length es) ps → (i : ℕ) → i ≤ length es
      → On 0 ps i ↔ (On 0 ps (owner es i) × ((s : ℕ) → spawns (event_at es s) ≡ true → owner es s ≡ owner es i → s < i → i < join es s → On 0 ps (suc s) → ⊥))
  path_passes ps p i l =
      let wh = whole_of ps p in (
        (λ on. (
          frame_passed ps wh.0 i wh.1 l on,
          λ s t e a b ent.
              let o = spawns_opens (event_at es s) t in
              let c = closed es wf s o in
              let ls : s ≤ length es = (let z = inside_opens es s o in omega arith) in
              let out : partner es s < i = elim (cases_lt (partner es s) i) [
                | inl z ↦ z
                | inr z ↦ absurd (let w = within_owner es wf s i o a z in let y = owner_le es wf s ls in omega arith)
              ] in
              let ret = child_returns ps wh.0 s wh.1 t ent in
              let d = split_at es wf B to co re 0 (partner es s) (length es) ps wh.0 wh.1.walk ret in
              elim (on_either es wf B to co re 0 (partner es s) i d.first d.before d.after d.left (subst (λ r. On 0 r i) d.is on)) [
                | inl z ↦ (let y = on_bounds es wf B to co re 0 (partner es s) i d.first d.before d.left z in omega (arith, y.1))
                | inr z ↦ skipped s i d.after d.second t d.right out b z
              ],
        )),
        (λ both.
            let s = split_at es wf B to co re 0 (owner es i) (length es) ps wh.0 wh.1.walk both.0 in
            elim (passes_or_skips (owner es i) (length es) s.second i s.after s.right l (let z : owner es i ≤ owner es i = omega arith in z) (owner_le es wf i l) l) [
              | inl z ↦ subst (λ r. On 0 r i) (sym s.is) (on_right es wf B to co re 0 (owner es i) i s.first s.before s.after s.left z)
              | inr z ↦
                  let o = spawns_opens (event_at es z.0) z.1 in
                  let c = closed es wf z.0 o in
                  let a : z.0 < partner es z.0 = c.after in
                  let ret = subst (λ r. On 0 r (partner es z.0)) (sym s.is) (on_right es wf B to co re 0 (owner es i) (partner es z.0) s.first s.before s.after s.left z.5) in
                  let d = split_at es wf B to co re 0 (partner es z.0) (length es) ps wh.0 wh.1.walk ret in
                  let q = passes_opening es wf B to co re 0 (partner es z.0) d.first z.0 d.before d.left o (let y : 0 ≤ z.0 = omega arith in y) a (let y : partner es z.0 ≤ partner es z.0 = omega arith in y) in
                  absurd (both.1 z.0 z.1 z.2 (let y = z.3 in omega arith) z.4
                  (subst (λ r. On 0 r (suc z.0)) (sym d.is) (on_left es wf B to co re 0 (suc z.0) d.before d.after q.1)))
            ]),
      )
    where
      skipped : (s i : ℕ) (bs : List ℕ) (v : ℕ) → spawns (event_at es s) ≡ true → Won es burdens.continuation burdens.join (partner es s) bs (length es) v → partner es s < i → i < join es s → On (partner es s) bs i → ⊥
      skipped s i [] v t b x y on = omega (arith, on)
      skipped s i (u ∷ bs) v t b x y (inl e) = omega arith
      skipped s i (u ∷ bs) v t b x y (inr e) =
          let z = leaves s u b.0 t b.2 in
          let r = on_bounds es wf B to co re u (length es) i b.1 bs b.3 e in
          omega (arith, z.0, r.0)

  -- of the children that join at k the first greatest walk of the frame goes through the one taken there, and through
  -- no other
  pub path_takes : (k : ℕ) → k ≤ length es → (k < length es → syncs (event_at es k) ≡ true) → (h : Plain1 k) (qs : List ℕ) → IsPath es burdens (owner es k) k qs
      → (s : ℕ) → spawns (event_at es s) ≡ true → join es s ≡ k → On (owner es k) qs (suc s) ↔ (taken h.top.state ≡ Some s)
  path_takes k l n h qs p s t e =
      let b = shape es B co bk wf k l in
      let own = owner_is es B co bk wf k b in
      let g = greatest_at es B co bk wf to re split k l n b in
      let w : Winner (owner es k) k g.0.0 (close b.top.state) = subst (λ f. Winner f k g.0.0 (close b.top.state)) (sym own) (record { walk = g.0.1; most = g.1 }) in
      let q = path_unique es burdens (owner es k) k g.0.0 qs (winner_path (owner es k) k (close b.top.state) g.0.0 l w) p in
      let x : Winner (owner es k) k qs (close b.top.state) = subst (λ r. Winner (owner es k) k r (close b.top.state)) q w in
      let same = same_taken es wf burdens.continuation burdens.join k l h b in
      let at = subst (λ j. (u : Ways j) → u.top.first ≡ owner es s) e (λ u. (at_join s t u).own) in
      let own_s : owner es k ≡ owner es s = own ∙ at b in
      let takes = subst (λ j. (u : Ways j) (v : ℕ) (mid : List ℕ) → Winner (owner es s) j mid v → On (owner es s) mid (suc s) → taken u.top.state ≡ Some s) e (λ u v mid. enters_takes s t u v mid) in (
        (λ on. same ∙ takes b (close b.top.state) qs (subst (λ f. Winner f k qs (close b.top.state)) own_s x) (subst (λ f. On f qs (suc s)) own_s on)),
        (λ tk. subst (λ f. On f qs (suc s)) (sym own) (takes_enters k l n b s (close b.top.state) qs (sym same ∙ tk) (subst (λ f. Winner f k qs (close b.top.state)) own x))),
      )

  -- the child taken where a frame waits is one that joins there
  pub taken_joins : (k : ℕ) → k ≤ length es → (k < length es → syncs (event_at es k) ≡ true) → (h : Plain1 k) (s : ℕ) → taken h.top.state ≡ Some s → JoinsAt es k s
  taken_joins k l n h s tk =
      let b = shape es B co bk wf k l in
      let c = came k l n b s (sym (same_taken es wf burdens.continuation burdens.join k l h b) ∙ tk) in
      (c.spawned, c.at, c.own ∙ sym (owner_is es B co bk wf k b))

  -- where a frame waits, its state holds a child exactly where one joins there, and one of those that do
  pub child_waited : (k : ℕ) → k ≤ length es → (k < length es → syncs (event_at es k) ≡ true) → (h : Plain1 k) → IsWaited es k h.top.state.child
  child_waited k l n h = by h.top.state.child refl
    where
      nobody : (s : ℕ) → spawns (event_at es s) ≡ true → (h : Plain1 (join es s)) → h.top.state.child ≡ None → ⊥
      nobody s t h e =
          let inside = (join_spec es wf s (spawns_opens (event_at es s) t)).upper in
          let b = shape es B co bk wf (join es s) inside in
          let c = same_waiting es wf burdens.continuation burdens.join (join es s) inside h b e in
          let z : child_weight b.top.state.child ≡ 0 = ap child_weight c in
          let y : 0 < child_weight b.top.state.child = (at_join s t b).positive in
          omega arith

      by : (o : Option (ℕ × ℕ)) → h.top.state.child ≡ o → IsWaited es k o
      by None e = λ some. subst (λ j. (u : Plain1 j) → u.top.state.child ≡ None → ⊥) some.1.1 (λ u. nobody some.0 some.1.0 u) h e
      by (Some c) e =
          let r = reached_top es 1 (λ _. burdens.continuation) (λ _. burdens.join) wf (λ _. 0) (λ _. burdens.join) (λ s. let z : burdens.join ≡ 0 + burdens.join = omega arith in z) k l h in
          let d = subst (λ o. ChildAt es 1 (λ _. 0) (λ _. burdens.continuation) (λ _. burdens.join) h.top.first k o) e r.child in
          let own_k = owner_is es 1 (λ _. burdens.continuation) (λ _. burdens.join) wf k h in
          let spec = join_spec es wf c.1 (spawns_opens (event_at es c.1) d.spawned) in
          let at : join es c.1 ≡ k = elim (cases_lt k (length es)) [
            | inl i ↦ (let u = least_le (waits_for es wf c.1) (suc (partner es c.1)) (length es) k d.before i (and_from _ _ (n i) (eq-eqb _ _ (own_k ∙ sym d.own))) in let w = d.waiting in omega arith)
            | inr i ↦ (let u = spec.upper in let w = d.waiting in omega arith)
          ] in
          (d.spawned, at, d.own ∙ sym own_k)
