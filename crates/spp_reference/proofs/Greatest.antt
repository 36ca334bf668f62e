-- Greatest weights of walks from the edges out of a position, and the first greatest path.
use Rattle.std.proofs.Common.{◌≡◌, ℕ, suc, ◌+◌, ◌^◌, ◌≤◌, ◌<◌, ◌↔◌, Bool, true, false, cond, Ordering, Less, Equal, Greater, refl, arith, sym, ◌∙◌, ap, ap₂, subst, ◌⊎◌, inl, inr, List, [], ◌∷◌, length, Option, Some, None, get_or, set, ◌-◌, replicate, get_or-set_same, get_or-set_other}
use Rattle.std.specs.Option.{option_map}
use Rattle.std.proofs.lemmas.Bool.{cases_lt}
use Rattle.std.proofs.lemmas.List.{length-set, length-replicate, get_or-replicate, get_or_past}
use Rattle.std.specs.Option.{option_cmp, option_partial_cmp}
use Rattle.std.specs.Ordering.{nat_cmp, ord_max, is_lt, is_le, partial_le, MatchOrdering}
use Rattle.std.proofs.lemmas.Option.{slice_get-get_or}
use Rattle.std.specs.Cmp.{ranked}
use Rattle.spp_maxplus.specs.State.{unburdened}
use Rattle.spp_event.specs.declared.records.Event.{Event}
use Rattle.spp_maxplus.specs.declared.state.Burdens.{Burdens}
use Rattle.spp_dag.specs.Trace.{event_at, weight}
use Rattle.spp_dag.specs.Dag.{Walk, AtMost, IsGreatest, IsPath, Before}
use Rattle.spp_dag.specs.Dag as dag
use Rattle.spp_dag.specs.Limits.{IsSmall, AreSmall}
use Rattle.spp_dag.proofs.Bounds.{edge_forward, walk_fits}
use Rattle.spp_dag.proofs.Profiles.{greatest_one}
use Rattle.spp_reference.specs.declared.dag.Edge.{Edge}
use Rattle.spp_reference.specs.declared.dag.Edges.{Edges}
use Rattle.spp_reference.specs.Dags.{edge, HasEdge, IsInOrder}
use Rattle.spp_reference.specs.Walks.{IsBest, Reaches, weight_along}
use Rattle.spp_reference.proofs.Edges.{same_edge}

-- of two weights, the greater; none where there is neither
abbrev pub IsGreater : Option ℕ → Option ℕ → Option ℕ → Type 0
IsGreater a b None = (a ≡ None) × (b ≡ None)
IsGreater a b (Some m) = ((a ≡ Some m) ⊎ (b ≡ Some m)) × ((t : ℕ) → a ≡ Some t → t ≤ m) × ((t : ℕ) → b ≡ Some t → t ≤ m)

greater_of : (x y : ℕ) (r : Ordering) → MatchOrdering r (y < x) (y ≡ x) (x < y) → IsGreater (Some x) (Some y) (cond (is_lt r) (Some x) (Some y))
greater_of x y Less l = (inl refl, (λ t e. let z : x ≡ t = cc in omega arith), (λ t e. let z : y ≡ t = cc in omega arith))
greater_of x y Equal l = (inr refl, (λ t e. let z : x ≡ t = cc in omega arith), (λ t e. let z : y ≡ t = cc in omega arith))
greater_of x y Greater l = (inr refl, (λ t e. let z : x ≡ t = cc in omega arith), (λ t e. let z : y ≡ t = cc in omega arith))

pub max_is : (a b : Option ℕ) → IsGreater a b (ord_max (option_cmp nat_cmp) a b)
max_is None None = (refl, refl)
max_is None (Some y) = (inr refl, (λ t e. cc), (λ t e. let z : y ≡ t = cc in omega arith))
max_is (Some x) None = (inl refl, (λ t e. let z : x ≡ t = cc in omega arith), (λ t e. cc))
max_is (Some x) (Some y) = greater_of x y (nat_cmp y x) (ranked y x (nat_cmp y x) refl)

-- whether b is at most a, as code tests it
abbrev pub at_most : Option ℕ → Option ℕ → Bool
at_most b a = partial_le (option_partial_cmp (λ (x y : ℕ). Some (nat_cmp x y))) b a

le_of : (x y : ℕ) (r : Ordering) → MatchOrdering r (y < x) (y ≡ x) (x < y) → is_le r ≡ true → y ≤ x
le_of x y Less l e = omega arith
le_of x y Equal l e = omega arith
le_of x y Greater l e = cc

lt_of : (x y : ℕ) (r : Ordering) → MatchOrdering r (y < x) (y ≡ x) (x < y) → is_le r ≡ false → x < y
lt_of x y Less l e = cc
lt_of x y Equal l e = cc
lt_of x y Greater l e = l

le_true : (a b : Option ℕ) → at_most b a ≡ true → (s : ℕ) → b ≡ Some s → (t : ℕ) × (a ≡ Some t) × (s ≤ t)
le_true None None h s e = cc
le_true None (Some y) h s e = cc
le_true (Some x) None h s e = cc
le_true (Some x) (Some y) h s e = let z : y ≡ s = cc in (x, refl, (let l = le_of x y (nat_cmp y x) (ranked y x (nat_cmp y x) refl) h in omega arith))

le_false : (a b : Option ℕ) → at_most b a ≡ false → (s : ℕ) × (b ≡ Some s) × ((t : ℕ) → a ≡ Some t → t < s)
le_false None None h = cc
le_false None (Some y) h = (y, refl, λ t e. cc)
le_false (Some x) None h = cc
le_false (Some x) (Some y) h = (y, refl, λ t e. let z : x ≡ t = cc in let l = lt_of x y (nat_cmp y x) (ranked y x (nat_cmp y x) refl) h in omega arith)

module _ (es : List Event) (b : Burdens) where
  pub walk_forward : (rest : List ℕ) (x y w : ℕ) → Walk es b x rest y w → x ≤ y
  walk_forward [] x y w t = omega (arith, t.0)
  walk_forward (u ∷ rest) x y w t =
      let s = (edge_forward es b (event_at es x) x u t.0 t.2).0 in
      let h = walk_forward rest u y t.1 t.3 in
      omega arith

  -- from the end there is the walk that stays
  pub best_at_end : (y : ℕ) → IsBest es b y y (Some (weight es y))
  best_at_end y = (([], (refl, refl)), λ rest v t. at rest v t)
    where
      at : (rest : List ℕ) (v : ℕ) → Walk es b y rest y v → v ≤ weight es y
      at [] v t = omega (arith, t.1)
      at (u ∷ rest) v t =
          let s = (edge_forward es b (event_at es y) y u t.0 t.2).0 in
          let h = walk_forward rest u y t.1 t.3 in
          absurd (omega arith)

  -- the path from the end stays there
  pub path_at_end : (y : ℕ) → IsPath es b y y []
  path_at_end y = (weight es y, (refl, refl), (best_at_end y).1, λ qs t. at qs t)
    where
      at : (qs : List ℕ) → Walk es b y qs y (weight es y) → (qs ≡ []) ⊎ Before [] qs
      at [] t = inl refl
      at (u ∷ qs) t = inr tt

  module _ (at end : ℕ) (best : List (Option ℕ)) (edges : Edges)
      (before : at < end)
      (known : (x : ℕ) → at < x → x ≤ end → IsBest es b x end (get_or best x None))
      (beyond : (x : ℕ) → end < x → get_or best x None ≡ None)
      (are : (v c : ℕ) → dag.Edge es b at v c ↔ HasEdge edges v c) where
    -- what goes along one edge and then on
    abbrev pub Along : Option Edge → Option ℕ → Type 0
    Along e None = (v c : ℕ) → e ≡ Some (edge v c) → (rest : List ℕ) (w : ℕ) → Walk es b v rest end w → ⊥
    Along e (Some t) = (v : ℕ) × (c : ℕ) × (w : ℕ) × (e ≡ Some (edge v c)) × (t ≡ c + w) × (v ≤ end) × IsGreatest es b v end w

    -- an edge leads forward
    abbrev Onward : Option Edge → Type 0
    Onward e = (v c : ℕ) → e ≡ Some (edge v c) → at < v

    onward : (v c : ℕ) → HasEdge edges v c → at < v
    onward v c h = (edge_forward es b (event_at es at) at v c ((are v c).1 h)).0

    along_at : (to c : ℕ) → at < to → (g : Option ℕ) → get_or best to None ≡ g → Along (Some (edge to c)) (option_map (λ w. c + w) g)
    along_at to c l None q = λ v d e rest w t.
        let s = same_edge to c v d e in
        let t' : Walk es b to rest end w = subst (λ x. Walk es b x rest end w) s.0 t in
        let m = walk_forward rest to end w t' in
        subst (λ o. IsBest es b to end o) q (known to l m) rest w t'
    along_at to c l (Some w) q = elim (cases_lt end to) [
      | inl m ↦ (let e : Some w ≡ None = sym q ∙ beyond to m in cc)
      | inr m ↦ (to, c, w, refl, refl, m, subst (λ o. IsBest es b to end o) q (known to l m))
    ]

    along_is : (e : Option Edge) → Onward e → Along e (weight_along e best)
    along_is None f = λ v c q. cc
    along_is (Some x) f = along_at x.to x.burden (f x.to x.burden refl) (get_or best x.to None) refl

    pub along_first : Along edges.first (weight_along edges.first best)
    along_first = along_is edges.first (λ v c q. onward v c (inl q))

    pub along_second : Along edges.second (weight_along edges.second best)
    along_second = along_is edges.second (λ v c q. onward v c (inr q))

    -- no walk along the edge weighs more
    beats : (e : Option Edge) (a : Option ℕ) → Along e a → (u c : ℕ) (rest : List ℕ) (tail : ℕ) → e ≡ Some (edge u c) → Walk es b u rest end tail → (s : ℕ) × (a ≡ Some s) × (c + tail ≤ s)
    beats e None al u c rest tail q t = absurd (al u c q rest tail t)
    beats e (Some s) al u c rest tail q t =
        let k = same_edge al.0 al.1 u c (sym al.3 ∙ q) in
        let m = al.6.1 rest tail (subst (λ x. Walk es b x rest end tail) k.0 t) in
        (s, refl, (let x = al.4 in let y = k.1 in omega arith))

    -- a walk begins with an edge
    pub steps : (rest : List ℕ) (w : ℕ) → Walk es b at rest end w
        → (u : ℕ) × (c : ℕ) × (tail : ℕ) × (more : List ℕ) × (rest ≡ u ∷ more) × HasEdge edges u c × Walk es b u more end tail × (w ≡ weight es at + (c + tail))
    steps [] w t = absurd (omega (arith, t.0))
    steps (u ∷ more) w t = (u, t.0, t.1, more, refl, (are u t.0).0 t.2, t.3, t.4)

    -- ---- the greatest weight

    pub best_step : (m : Option ℕ) → IsGreater (weight_along edges.first best) (weight_along edges.second best) m
        → IsBest es b at end (option_map (λ t. weight es at + t) m)
    best_step None g = λ rest w t.
        let s = steps rest w t in
        elim s.5 [
          | inl q ↦ (let k = beats edges.first _ along_first s.0 s.1 s.3 s.2 q s.6 in let e : Some k.0 ≡ None = sym k.1 ∙ g.0 in cc)
          | inr q ↦ (let k = beats edges.second _ along_second s.0 s.1 s.3 s.2 q s.6 in let e : Some k.0 ≡ None = sym k.1 ∙ g.1 in cc)
        ]
    best_step (Some t) g = (
      elim g.0 [
        | inl q ↦ (let al = subst (λ a. Along edges.first a) q along_first in (al.0 ∷ al.6.0.0, (al.1, al.2, (are al.0 al.1).1 (inl al.3), al.6.0.1, ap (λ k. weight es at + k) al.4)))
        | inr q ↦ (let al = subst (λ a. Along edges.second a) q along_second in (al.0 ∷ al.6.0.0, (al.1, al.2, (are al.0 al.1).1 (inr al.3), al.6.0.1, ap (λ k. weight es at + k) al.4)))
      ],
      λ rest w walk.
          let s = steps rest w walk in
          let l : s.1 + s.2 ≤ t = elim s.5 [
            | inl q ↦ (let k = beats edges.first _ along_first s.0 s.1 s.3 s.2 q s.6 in let n = g.1 k.0 k.1 in let o = k.2 in omega arith)
            | inr q ↦ (let k = beats edges.second _ along_second s.0 s.1 s.3 s.2 q s.6 in let n = g.2 k.0 k.1 in let o = k.2 in omega arith)
          ] in
          let e = s.7 in
          omega arith,
    )

    -- ---- the path

    -- the edge e, and what it takes for the path to go along it
    pub record Taken (e : Option Edge) (v c : ℕ) : Type 0 where
      pub is : e ≡ Some (edge v c)
      pub onward : at < v
      pub within : v ≤ end
      pub reaches : Reaches es b v end
      pub first : (rest : List ℕ) → IsPath es b v end rest → IsPath es b at end (v ∷ rest)

    -- the path goes along an edge where no walk weighs more, and none that weighs as much begins with a lesser position
    goes : (v c g : ℕ) → HasEdge edges v c → IsGreatest es b v end g
        → ((u d : ℕ) (more : List ℕ) (tail : ℕ) → HasEdge edges u d → Walk es b u more end tail
        → (d + tail ≤ c + g) × (d + tail ≡ c + g → (v < u) ⊎ ((v ≡ u) × (d ≡ c))))
        → (rest : List ℕ) → IsPath es b v end rest → IsPath es b at end (v ∷ rest)
    goes v c g h gr wins rest p =
        let same : g ≡ p.0 = greatest_one es b v end g p.0 gr ((rest, p.1), p.2) in (
          weight es at + (c + p.0),
          (c, p.0, (are v c).1 h, p.1, refl),
          (λ qs w t.
              let s = steps qs w t in
              let l = (wins s.0 s.1 s.3 s.2 s.5 s.6).0 in
              let e = s.7 in
              omega arith),
          (λ qs t.
              let s = steps qs (weight es at + (c + p.0)) t in
              let e : s.1 + s.2 ≡ c + g = (let x = s.7 in omega arith) in
              let o : (s.0 ∷ s.3 ≡ v ∷ rest) ⊎ Before (v ∷ rest) (s.0 ∷ s.3) = elim ((wins s.0 s.1 s.3 s.2 s.5 s.6).1 e) [
                | inl l ↦ inr (inl l)
                | inr k ↦
                    let f : s.2 ≡ p.0 = (let x = k.1 in omega arith) in
                    let walk : Walk es b v s.3 end p.0 = subst (λ x. Walk es b v s.3 end x) f (subst (λ x. Walk es b x s.3 end s.2) (sym k.0) s.6) in
                    elim (p.3 s.3 walk) [
                      | inl a ↦ inl (ap₂ (λ x y. x ∷ y) (sym k.0) a)
                      | inr a ↦ inr (inr (k.0, a))
                    ]
              ] in
              subst (λ (xs : List ℕ). (xs ≡ v ∷ rest) ⊎ Before (v ∷ rest) xs) (sym s.4) o),
        )

    pub takes_first : IsInOrder edges → (t : ℕ) → weight_along edges.first best ≡ Some t → ((s : ℕ) → weight_along edges.second best ≡ Some s → s ≤ t)
        → (v : ℕ) × (c : ℕ) × Taken edges.first v c
    takes_first order t q less =
        let al = subst (λ a. Along edges.first a) q along_first in
        let wins = λ (u d : ℕ) (more : List ℕ) (tail : ℕ) (h : HasEdge edges u d) (walk : Walk es b u more end tail).
        let r : (d + tail ≤ al.1 + al.2) × (d + tail ≡ al.1 + al.2 → (al.0 < u) ⊎ ((al.0 ≡ u) × (d ≡ al.1))) = elim h [
          | inl e ↦ (
            (let k = beats edges.first (Some t) al u d more tail e walk in let n : t ≡ k.0 = cc (k.1) in let m = k.2 in let z = al.4 in omega arith),
            (let k = same_edge al.0 al.1 u d (sym al.3 ∙ e) in λ _. inr (sym k.0, k.1)),
          )
          | inr e ↦ (
            (let k = beats edges.second _ along_second u d more tail e walk in let n = less k.0 k.1 in let m = k.2 in let z = al.4 in omega arith),
            λ _. inl (order (edge al.0 al.1) (edge u d) al.3 e),
          )
        ] in r in (
          al.0,
          al.1,
          record {
            is = al.3;
            onward = onward al.0 al.1 (inl al.3);
            within = al.5;
            reaches = (al.6.0.0, al.2, al.6.0.1);
            first = goes al.0 al.1 al.2 (inl al.3) al.6 wins;
          },
        )

    pub takes_second : (t : ℕ) → weight_along edges.second best ≡ Some t → ((s : ℕ) → weight_along edges.first best ≡ Some s → s < t)
        → (v : ℕ) × (c : ℕ) × Taken edges.second v c
    takes_second t q less =
        let al = subst (λ a. Along edges.second a) q along_second in
        let wins = λ (u d : ℕ) (more : List ℕ) (tail : ℕ) (h : HasEdge edges u d) (walk : Walk es b u more end tail).
        let r : (d + tail ≤ al.1 + al.2) × (d + tail ≡ al.1 + al.2 → (al.0 < u) ⊎ ((al.0 ≡ u) × (d ≡ al.1))) = elim h [
          | inl e ↦ (
              let k = beats edges.first _ along_first u d more tail e walk in
              let n = less k.0 k.1 in
              let m = k.2 in
              let z = al.4 in
              (omega arith, λ x. absurd (omega arith))
              )
          | inr e ↦ (
            (let k = beats edges.second (Some t) al u d more tail e walk in let n : t ≡ k.0 = cc (k.1) in let m = k.2 in let z = al.4 in omega arith),
            (let k = same_edge al.0 al.1 u d (sym al.3 ∙ e) in λ _. inr (sym k.0, k.1)),
          )
        ] in r in (
          al.0,
          al.1,
          record {
            is = al.3;
            onward = onward al.0 al.1 (inr al.3);
            within = al.5;
            reaches = (al.6.0.0, al.2, al.6.0.1);
            first = goes al.0 al.1 al.2 (inr al.3) al.6 wins;
          },
        )

    -- where the end is reached, one of the edges reaches it
    pub some_along : Reaches es b at end → ((t : ℕ) × (weight_along edges.first best ≡ Some t)) ⊎ ((t : ℕ) × (weight_along edges.second best ≡ Some t))
    some_along r =
        let s = steps r.0 r.1 r.2 in
        elim s.5 [
          | inl q ↦ (let k = beats edges.first _ along_first s.0 s.1 s.3 s.2 q s.6 in inl (k.0, k.1))
          | inr q ↦ (let k = beats edges.second _ along_second s.0 s.1 s.3 s.2 q s.6 in inr (k.0, k.1))
        ]

    pub next_first : IsInOrder edges → Reaches es b at end → at_most (weight_along edges.second best) (weight_along edges.first best) ≡ true
        → (v : ℕ) × (c : ℕ) × Taken edges.first v c
    next_first order r h =
        let top : (t : ℕ) × (weight_along edges.first best ≡ Some t) = elim (some_along r) [
          | inl k ↦ k
          | inr k ↦ (let l = le_true (weight_along edges.first best) (weight_along edges.second best) h k.0 k.1 in (l.0, l.1))
        ] in
        takes_first order top.0 top.1 (λ s e. let l = le_true (weight_along edges.first best) (weight_along edges.second best) h s e in let q : top.0 ≡ l.0 = cc (top.1, l.1) in let m = l.2 in omega arith)

    pub next_second : at_most (weight_along edges.second best) (weight_along edges.first best) ≡ false
        → (v : ℕ) × (c : ℕ) × Taken edges.second v c
    next_second h = let l = le_false (weight_along edges.first best) (weight_along edges.second best) h in takes_second l.0 l.1 l.2

pub default_is : (b : Burdens) → (b.continuation ≡ 0) × (b.join ≡ 0) → b ≡ unburdened
default_is b h = ap₂ (λ (x y : ℕ). let r : Burdens = record { continuation = x; join = y } in r) h.0 h.1

-- the code goes along an edge of the path
abbrev pub Goes : List Event → Burdens → ℕ → Option Edge → Type 0
Goes es b at taken = (v : ℕ) × (c : ℕ) × (taken ≡ Some (edge v c)) × (at < v) × (v ≤ length es) × Reaches es b v (length es)
    × ((rest : List ℕ) → IsPath es b v (length es) rest → IsPath es b at (length es) (v ∷ rest))

pub goes_to : (es : List Event) (b : Burdens) (at : ℕ) (taken : Option Edge) → Goes es b at taken → (e : Edge) → taken ≡ Some e
    → (at < e.to) × (e.to ≤ length es) × Reaches es b e.to (length es)
    × ((rest : List ℕ) → IsPath es b e.to (length es) rest → IsPath es b at (length es) (e.to ∷ rest))
goes_to es b at taken k e q =
    let f : edge k.0 k.1 ≡ e = cc (k.2, q) in
    subst (λ (v : ℕ). (at < v) × (v ≤ length es) × Reaches es b v (length es)
    × ((rest : List ℕ) → IsPath es b v (length es) rest → IsPath es b at (length es) (v ∷ rest)))
    (ap (λ (x : Edge). x.to) f) (k.3, k.4, k.5, k.6)

pub goes_somewhere : (es : List Event) (b : Burdens) (at : ℕ) (taken : Option Edge) → Goes es b at taken → taken ≡ None → ⊥
goes_somewhere es b at taken k q = let f : None ≡ Some (edge k.0 k.1) = sym q ∙ k.2 in cc

-- the edge that the code takes
pub next_edge : (es : List Event) (b : Burdens) (at : ℕ) (best : List (Option ℕ)) (edges : Edges) (first second : Option ℕ) (le : Bool) (taken : Option Edge)
    → at < length es → length best ≡ suc (length es)
    → ((x : ℕ) → x ≤ length es → IsBest es b x (length es) (get_or best x None)) → Reaches es b at (length es)
    → ((v c : ℕ) → dag.Edge es b at v c ↔ HasEdge edges v c) → IsInOrder edges
    → first ≡ weight_along edges.first best → second ≡ weight_along edges.second best → le ≡ at_most second first
    → ((le ≡ true) × (taken ≡ edges.first)) ⊎ ((le ≡ false) × (taken ≡ edges.second))
    → Goes es b at taken
next_edge es b at best edges first second le taken l n known r are order f s q branch =
    let beyond = λ (x : ℕ) (m : length es < x). get_or_past best x None (omega arith) in
    let known' = λ (x : ℕ) (m : at < x) (k : x ≤ length es). known x k in
    let test : le ≡ at_most (weight_along edges.second best) (weight_along edges.first best) = q ∙ ap₂ at_most s f in
    elim branch [
      | inl h ↦
          let t = next_first es b at (length es) best edges l known' beyond are order r (sym test ∙ h.0) in
          (t.0, t.1, h.1 ∙ t.2.is, t.2.onward, t.2.within, t.2.reaches, t.2.first)
      | inr h ↦
          let t = next_second es b at (length es) best edges l known' beyond are (sym test ∙ h.0) in
          (t.0, t.1, h.1 ∙ t.2.is, t.2.onward, t.2.within, t.2.reaches, t.2.first)
    ]

-- ---- the table

-- the entries from `from` on are the greatest weights of walks to `end`
pub record Filled (es : List Event) (b : Burdens) (end from : ℕ) (best : List (Option ℕ)) : Type 0 where
  pub count : length best ≡ suc end
  pub known : (x : ℕ) → from ≤ x → x ≤ end → IsBest es b x end (get_or best x None)
  pub small : (x w : ℕ) → get_or best x None ≡ Some w → w < 2 ^ 93

-- greatest weights fit
pub best_fits : (es : List Event) (b : Burdens) → IsSmall es → AreSmall b → (x y w : ℕ) → y ≤ length es → IsBest es b x y (Some w) → w < 2 ^ 93
best_fits es b small burdens x y w l h = walk_fits es small b burdens x y w h.0.0 l h.0.1

pub filled_more : (es : List Event) (b : Burdens) → IsSmall es → AreSmall b → (end from to at : ℕ) (best : List (Option ℕ)) (m : Option ℕ) → end ≤ length es
    → length best ≡ suc end → ((x w : ℕ) → get_or best x None ≡ Some w → w < 2 ^ 93) → ((x : ℕ) → to < x → x ≤ end → IsBest es b x end (get_or best x None))
    → from ≡ at → to ≡ at → at ≤ end → IsBest es b at end m → Filled es b end from (set best at m)
filled_more es b sm ar end from to at best m l n f k p q a h =
    record {
      count = length-set best at m ∙ n;
      known = λ x c d. elim (cases_lt at x) [
        | inl y ↦ subst (λ o. IsBest es b x end o) (sym (other x (omega arith))) (k x (omega arith) d)
        | inr y ↦ (let z : at ≡ x = omega arith in subst (λ i. IsBest es b i end (get_or (set best at m) i None)) z (subst (λ o. IsBest es b at end o) (sym same) h))
      ];
      small = λ x w e. elim (cases_lt at x) [
        | inl y ↦ f x w (sym (other x (omega arith)) ∙ e)
        | inr y ↦ elim (cases_lt x at) [
          | inl z ↦ f x w (sym (other x (omega arith)) ∙ e)
          | inr z ↦
              let i : x ≡ at = omega arith in
              let j : m ≡ Some w = sym same ∙ ap (λ i. get_or (set best at m) i None) (sym i) ∙ e in
              best_fits es b sm ar at end w l (subst (λ o. IsBest es b at end o) j h)
        ]
      ];
    }
  where
    same : get_or (set best at m) at None ≡ m
    same = get_or-set_same best at m None (omega arith)

    other : (x : ℕ) → (x ≡ at → ⊥) → get_or (set best at m) x None ≡ get_or best x None
    other x d = get_or-set_other best at x m None d

-- entries of a table of greatest weights fit
pub entries_fit : (es : List Event) (b : Burdens) → IsSmall es → AreSmall b → (end : ℕ) (best : List (Option ℕ)) → end ≤ length es → length best ≡ suc end
    → ((x : ℕ) → x ≤ end → IsBest es b x end (get_or best x None)) → (x w : ℕ) → get_or best x None ≡ Some w → w < 2 ^ 127
entries_fit es b sm ar end best l n known x w e = elim (cases_lt end x) [
  | inl m ↦ (let z : None ≡ Some w = sym (get_or_past best x None (omega arith)) ∙ e in cc)
  | inr m ↦ (let f = best_fits es b sm ar x end w l (subst (λ o. IsBest es b x end o) e (known x m)) in omega arith)
]

-- the table in the making: at first only the last entry
pub filled_first : (es : List Event) (b : Burdens) → IsSmall es → AreSmall b → (end from n : ℕ) (best : List (Option ℕ)) (w : ℕ) → end ≤ length es → from ≡ end
    → best ≡ replicate n None → n ≡ suc end → w ≡ weight es end → Filled es b end from (set best end (Some w))
filled_first es b sm ar end from n best w l p q m e =
    let count : length best ≡ suc end = ap length q ∙ length-replicate n None ∙ m in
    filled_more es b sm ar end from end end best (Some w) l count
    (λ x v f. let z : None ≡ Some v = sym (entry x) ∙ f in cc)
    (λ x c d. absurd (omega arith)) p refl (omega arith)
    (subst (λ v. IsBest es b end end (Some v)) (sym e) (best_at_end es b end))
  where
    entry : (x : ℕ) → get_or best x None ≡ None
    entry x = elim (cases_lt x n) [
      | inl y ↦ ap (λ (xs : List (Option ℕ)). get_or xs x None) q ∙ get_or-replicate n x None None y
      | inr y ↦ ap (λ (xs : List (Option ℕ)). get_or xs x None) q ∙ get_or_past (replicate n None) x None (let z = length-replicate n (let o : Option ℕ = None in o) in omega arith)
    ]

-- the next entry, from those after it
pub entry_is : (es : List Event) (b : Burdens) (end after : ℕ) (best : List (Option ℕ)) (edges : Edges) (at : ℕ) (first second past : Option ℕ) → at ≡ end - 1 - after → after < end
    → Filled es b end (end - after) best → ((v c : ℕ) → dag.Edge es b at v c ↔ HasEdge edges v c)
    → first ≡ weight_along edges.first best → second ≡ weight_along edges.second best → past ≡ ord_max (option_cmp nat_cmp) first second
    → IsBest es b at end (option_map (λ t. weight es at + t) past)
entry_is es b end after best edges at first second past q l f are s t m =
    let top : past ≡ ord_max (option_cmp nat_cmp) (weight_along edges.first best) (weight_along edges.second best) = m ∙ ap₂ (λ (x y : Option ℕ). ord_max (option_cmp nat_cmp) x y) s t in
    best_step es b at end best edges (omega arith) (λ x c d. f.known x (omega arith) d)
    (λ x c. get_or_past best x None (let n = f.count in omega arith)) are past
    (subst (λ o. IsGreater (weight_along edges.first best) (weight_along edges.second best) o) (sym top) (max_is (weight_along edges.first best) (weight_along edges.second best)))

pub entry_fits : (es : List Event) (b : Burdens) → IsSmall es → AreSmall b → (x y : ℕ) (past : Option ℕ) → y ≤ length es → IsBest es b x y (option_map (λ t. weight es x + t) past)
    → (w : ℕ) → past ≡ Some w → weight es x + w < 2 ^ 93
entry_fits es b sm ar x y past l h w q = best_fits es b sm ar x y (weight es x + w) l (subst (λ o. IsBest es b x y (option_map (λ t. weight es x + t) o)) q h)

-- what is read of the table is its entry
pub read_is : (best : List (Option ℕ)) (i : ℕ) (x : Option ℕ) → i < length best → x ≡ get_or best i x → get_or best i None ≡ x
read_is best i x l e =
    let p = slice_get-get_or best i None l in
    let q = slice_get-get_or best i x l in
    let r : Some (get_or best i None) ≡ Some (get_or best i x) = sym p ∙ q in
    let s : get_or best i None ≡ get_or best i x = cc (r) in
    s ∙ sym e
