-- All walks of a small run as a list, in dictionary order: the first one of greatest weight is the path.
use Rattle.std.proofs.Common.{◌≡◌, ℕ, zero, suc, ◌+◌, ◌≤◌, ◌<◌, Bool, true, false, refl, arith, sym, ◌∙◌, ap, subst, ◌⊎◌, inl, inr, List, [], ◌∷◌, length, ◌++◌, Option, Some, None, nat_lt, nat_eq}
use Rattle.std.proofs.lemmas.Bool.{both_ways, eqb-true, eq-eqb, ltb-true, ltb-false}
use Rattle.spp_event.specs.declared.records.Event.{Event}
use Rattle.spp_event.specs.declared.records.Event.TheVariants.{Strand, Call, Spawn, Ret, Sync}
use Rattle.spp_maxplus.specs.declared.state.Burdens.{Burdens}
use Rattle.spp_maxplus.specs.State.{unburdened}
use Rattle.spp_dag.specs.Trace.{event_at, weight, partner, owner, join, is_spawned, closing, IsWellFormed}
use Rattle.spp_dag.specs.Dag.{EdgeOf, EdgeBack, ReturnEdge, Walk, Before, IsGreatest, IsSpan, IsPath}
use Rattle.spp_dag.specs.Rows.{AreSpans}
use Rattle.spp_dag.proofs.Ties.{path_exists, closing_inside}
use Rattle.spp_dag.proofs.Bounds.{edge_forward, partner_after}

-- the edges out of u, with what each bears, the least target first
abbrev pub out_return : List Event → Burdens → ℕ → ℕ → List (ℕ × ℕ)
out_return es b u zero = []
out_return es b u (suc o) = elim (is_spawned es (suc o)) [ true ↦ (join es o, b.join) ∷ [] | false ↦ (suc u, 0) ∷ [] ]

abbrev pub out_of : List Event → Burdens → ℕ → Option Event → List (ℕ × ℕ)
out_of es b u None = []
out_of es b u (Some (Strand n)) = (suc u, 0) ∷ []
out_of es b u (Some (Call s f)) = (suc u, 0) ∷ []
out_of es b u (Some Sync) = (suc u, 0) ∷ []
out_of es b u (Some (Spawn s f)) = (suc u, 0) ∷ (suc (partner es u), b.continuation) ∷ []
out_of es b u (Some Ret) = out_return es b u (owner es u)

-- all walks of at most n steps from x to y, as positions after x and the weight, in dictionary order
abbrev pub extended : ℕ → List (List ℕ × ℕ) → ℕ → List (List ℕ × ℕ)
extended v [] w = []
extended v (t ∷ ts) w = (v ∷ t.0, w + t.1) ∷ extended v ts w

abbrev pub through_all : (ℕ → List (List ℕ × ℕ)) → ℕ → List (ℕ × ℕ) → List (List ℕ × ℕ)
through_all f w [] = []
through_all f w (e ∷ es) = extended e.0 (f e.0) (w + e.1) ++ through_all f w es

abbrev pub all_walks : List Event → Burdens → ℕ → ℕ → ℕ → List (List ℕ × ℕ)
all_walks es b y zero x = []
all_walks es b y (suc n) x =
    elim (nat_eq x y) [ true ↦ ([], weight es x) ∷ [] | false ↦ through_all (all_walks es b y n) (weight es x) (out_of es b x (event_at es x)) ]

-- the first one of greatest weight
abbrev pub best : List (List ℕ × ℕ) → List ℕ × ℕ → List ℕ × ℕ
best [] t = t
best (u ∷ us) t = elim (nat_lt t.1 u.1) [ true ↦ best us u | false ↦ best us t ]

abbrev pub first_best : List (List ℕ × ℕ) → List ℕ × ℕ
first_best [] = ([], 0)
first_best (t ∷ ts) = best ts t

abbrev pub greatest_walk : List Event → Burdens → ℕ → ℕ → List ℕ × ℕ
greatest_walk es b x y = first_best (all_walks es b y (suc (length es)) x)

-- the path, and the spans
abbrev pub path : List Event → Burdens → List ℕ
path es b = 0 ∷ (greatest_walk es b 0 (length es)).0

abbrev pub span : List Event → Burdens → ℕ
span es b = (greatest_walk es b 0 (length es)).1

abbrev pub span_of : List Event → ℕ → ℕ
span_of es f = (greatest_walk es unburdened f (closing es f)).1

-- ---- what is in a list of walks

abbrev In : List ℕ → ℕ → List (List ℕ × ℕ) → Type 0
In r w [] = ⊥
In r w (t ∷ ts) = ((r ≡ t.0) × (w ≡ t.1)) ⊎ In r w ts

abbrev EdgeIn : ℕ → ℕ → List (ℕ × ℕ) → Type 0
EdgeIn v c [] = ⊥
EdgeIn v c (e ∷ es) = ((v ≡ e.0) × (c ≡ e.1)) ⊎ EdgeIn v c es

in_left : (r : List ℕ) (w : ℕ) (xs ys : List (List ℕ × ℕ)) → In r w xs → In r w (xs ++ ys)
in_left r w [] ys h = absurd h
in_left r w (x ∷ xs) ys (inl h) = inl h
in_left r w (x ∷ xs) ys (inr h) = inr (in_left r w xs ys h)

in_right : (r : List ℕ) (w : ℕ) (xs ys : List (List ℕ × ℕ)) → In r w ys → In r w (xs ++ ys)
in_right r w [] ys h = h
in_right r w (x ∷ xs) ys h = inr (in_right r w xs ys h)

in_either : (r : List ℕ) (w : ℕ) (xs ys : List (List ℕ × ℕ)) → In r w (xs ++ ys) → In r w xs ⊎ In r w ys
in_either r w [] ys h = inr h
in_either r w (x ∷ xs) ys (inl h) = inl (inl h)
in_either r w (x ∷ xs) ys (inr h) = elim (in_either r w xs ys h) [ inl a ↦ inl (inr a) | inr a ↦ inr a ]

in_extended : (v c w : ℕ) (r : List ℕ) (ts : List (List ℕ × ℕ)) → In r w ts → In (v ∷ r) (c + w) (extended v ts c)
in_extended v c w r [] h = absurd h
in_extended v c w r (t ∷ ts) (inl h) = inl (ap (λ l. v ∷ l) h.0, ap (λ k. c + k) h.1)
in_extended v c w r (t ∷ ts) (inr h) = inr (in_extended v c w r ts h)

from_extended : (v c w : ℕ) (r : List ℕ) (ts : List (List ℕ × ℕ)) → In r w (extended v ts c) → (s : List ℕ) × (k : ℕ) × (r ≡ v ∷ s) × (w ≡ c + k) × In s k ts
from_extended v c w r [] h = absurd h
from_extended v c w r (t ∷ ts) (inl h) = (t.0, t.1, h.0, h.1, inl (refl, refl))
from_extended v c w r (t ∷ ts) (inr h) = let a = from_extended v c w r ts h in (a.0, a.1, a.2, a.3, inr a.4)

in_through : (f : ℕ → List (List ℕ × ℕ)) (a v c w : ℕ) (r : List ℕ) (es : List (ℕ × ℕ)) → EdgeIn v c es → In r w (f v) → In (v ∷ r) ((a + c) + w) (through_all f a es)
in_through f a v c w r [] e h = absurd e
in_through f a v c w r (x ∷ es) (inl e) h =
    in_left (v ∷ r) ((a + c) + w) (extended x.0 (f x.0) (a + x.1)) (through_all f a es)
    (subst (λ z. In (z ∷ r) ((a + c) + w) (extended x.0 (f x.0) (a + x.1))) (sym e.0)
    (subst (λ z. In (x.0 ∷ r) ((a + z) + w) (extended x.0 (f x.0) (a + x.1))) (sym e.1)
    (in_extended x.0 (a + x.1) w r (f x.0) (subst (λ z. In r w (f z)) e.0 h))))
in_through f a v c w r (x ∷ es) (inr e) h = in_right (v ∷ r) ((a + c) + w) (extended x.0 (f x.0) (a + x.1)) (through_all f a es) (in_through f a v c w r es e h)

from_through : (f : ℕ → List (List ℕ × ℕ)) (a w : ℕ) (r : List ℕ) (es : List (ℕ × ℕ)) → In r w (through_all f a es)
    → (v : ℕ) × (c : ℕ) × (s : List ℕ) × (k : ℕ) × EdgeIn v c es × (r ≡ v ∷ s) × (w ≡ (a + c) + k) × In s k (f v)
from_through f a w r [] h = absurd h
from_through f a w r (x ∷ es) h = elim (in_either r w (extended x.0 (f x.0) (a + x.1)) (through_all f a es) h) [
  | inl g ↦ (let b = from_extended x.0 (a + x.1) w r (f x.0) g in (x.0, x.1, b.0, b.1, inl (refl, refl), b.2, b.3, b.4))
  | inr g ↦ (let b = from_through f a w r es g in (b.0, b.1, b.2, b.3, inr b.4, b.5, b.6, b.7))
]

-- ---- order

abbrev AllAfter : List ℕ → List (List ℕ × ℕ) → Type 0
AllAfter r [] = Unit {0}
AllAfter r (t ∷ ts) = Before r t.0 × AllAfter r ts

abbrev Sorted : List (List ℕ × ℕ) → Type 0
Sorted [] = Unit {0}
Sorted (t ∷ ts) = AllAfter t.0 ts × Sorted ts

abbrev Above : ℕ → List (ℕ × ℕ) → Type 0
Above v [] = Unit {0}
Above v (e ∷ es) = (v < e.0) × Above v es

abbrev Rising : List (ℕ × ℕ) → Type 0
Rising [] = Unit {0}
Rising (e ∷ es) = Above e.0 es × Rising es

before_trans : (ps qs rs : List ℕ) → Before ps qs → Before qs rs → Before ps rs
before_trans [] [] rs a b = absurd a
before_trans [] (q ∷ qs) [] a b = absurd b
before_trans [] (q ∷ qs) (r ∷ rs) a b = tt
before_trans (p ∷ ps) [] rs a b = absurd a
before_trans (p ∷ ps) (q ∷ qs) [] a b = absurd b
before_trans (p ∷ ps) (q ∷ qs) (r ∷ rs) (inl a) (inl b) = inl (omega arith)
before_trans (p ∷ ps) (q ∷ qs) (r ∷ rs) (inl a) (inr b) = inl (let z = b.0 in omega arith)
before_trans (p ∷ ps) (q ∷ qs) (r ∷ rs) (inr a) (inl b) = inl (let z = a.0 in omega arith)
before_trans (p ∷ ps) (q ∷ qs) (r ∷ rs) (inr a) (inr b) = inr (a.0 ∙ b.0, before_trans ps qs rs a.1 b.1)

after_both : (r : List ℕ) (xs ys : List (List ℕ × ℕ)) → AllAfter r xs → AllAfter r ys → AllAfter r (xs ++ ys)
after_both r [] ys a b = b
after_both r (x ∷ xs) ys a b = (a.0, after_both r xs ys a.1 b)

after_extended : (v c : ℕ) (r : List ℕ) (ts : List (List ℕ × ℕ)) → AllAfter r ts → AllAfter (v ∷ r) (extended v ts c)
after_extended v c r [] h = tt
after_extended v c r (t ∷ ts) h = (inr (refl, h.0), after_extended v c r ts h.1)

after_other : (v u c : ℕ) (r : List ℕ) (ts : List (List ℕ × ℕ)) → v < u → AllAfter (v ∷ r) (extended u ts c)
after_other v u c r [] l = tt
after_other v u c r (t ∷ ts) l = (inl l, after_other v u c r ts l)

after_through : (f : ℕ → List (List ℕ × ℕ)) (a v : ℕ) (r : List ℕ) (es : List (ℕ × ℕ)) → Above v es → AllAfter (v ∷ r) (through_all f a es)
after_through f a v r [] h = tt
after_through f a v r (e ∷ es) h = after_both (v ∷ r) (extended e.0 (f e.0) (a + e.1)) (through_all f a es) (after_other v e.0 (a + e.1) r (f e.0) h.0) (after_through f a v r es h.1)

sorted_both : (v c : ℕ) (ts ys : List (List ℕ × ℕ)) → Sorted ts → Sorted ys → ((r : List ℕ) → AllAfter (v ∷ r) ys) → Sorted (extended v ts c ++ ys)
sorted_both v c [] ys s t h = t
sorted_both v c (x ∷ ts) ys s t h = (after_both (v ∷ x.0) (extended v ts c) ys (after_extended v c x.0 ts s.0) (h x.0), sorted_both v c ts ys s.1 t h)

sorted_through : (f : ℕ → List (List ℕ × ℕ)) (a : ℕ) (es : List (ℕ × ℕ)) → Rising es → ((v : ℕ) → Sorted (f v)) → Sorted (through_all f a es)
sorted_through f a [] r s = tt
sorted_through f a (e ∷ es) r s = sorted_both e.0 (a + e.1) (f e.0) (through_all f a es) (s e.0) (sorted_through f a es r.1 s) (λ q. after_through f a e.0 q es r.0)

-- ---- the list has all walks, in order

module _ (es : List Event) (b : Burdens) where
  back_in : (t : Bool) (o u v c : ℕ) → EdgeBack es b t o u v c → EdgeIn v c (elim t [ true ↦ (join es o, b.join) ∷ [] | false ↦ (suc u, 0) ∷ [] ])
  back_in true o u v c h = inl h
  back_in false o u v c h = inl h

  in_back : (t : Bool) (o u v c : ℕ) → EdgeIn v c (elim t [ true ↦ (join es o, b.join) ∷ [] | false ↦ (suc u, 0) ∷ [] ]) → EdgeBack es b t o u v c
  in_back true o u v c (inl h) = h
  in_back true o u v c (inr h) = absurd h
  in_back false o u v c (inl h) = h
  in_back false o u v c (inr h) = absurd h

  return_in : (f u v c : ℕ) → ReturnEdge es b f u v c → EdgeIn v c (out_return es b u f)
  return_in zero u v c h = absurd h
  return_in (suc o) u v c h = back_in (is_spawned es (suc o)) o u v c h

  in_return : (f u v c : ℕ) → EdgeIn v c (out_return es b u f) → ReturnEdge es b f u v c
  in_return zero u v c h = absurd h
  in_return (suc o) u v c h = in_back (is_spawned es (suc o)) o u v c h

  edge_in : (e : Option Event) (u v c : ℕ) → EdgeOf es b e u v c → EdgeIn v c (out_of es b u e)
  edge_in None u v c h = absurd h
  edge_in (Some (Strand n)) u v c h = inl h
  edge_in (Some (Call s f)) u v c h = inl h
  edge_in (Some (Spawn s f)) u v c (inl h) = inl h
  edge_in (Some (Spawn s f)) u v c (inr h) = inr (inl h)
  edge_in (Some Ret) u v c h = return_in (owner es u) u v c h
  edge_in (Some Sync) u v c h = inl h

  only : (v c x y : ℕ) → EdgeIn v c ((x, y) ∷ []) → (v ≡ x) × (c ≡ y)
  only v c x y (inl h) = h
  only v c x y (inr h) = absurd h

  in_edge : (e : Option Event) (u v c : ℕ) → EdgeIn v c (out_of es b u e) → EdgeOf es b e u v c
  in_edge None u v c h = absurd h
  in_edge (Some (Strand n)) u v c h = only v c (suc u) 0 h
  in_edge (Some (Call s f)) u v c h = only v c (suc u) 0 h
  in_edge (Some (Spawn s f)) u v c (inl h) = inl h
  in_edge (Some (Spawn s f)) u v c (inr h) = inr (only v c (suc (partner es u)) b.continuation h)
  in_edge (Some Ret) u v c h = in_return (owner es u) u v c h
  in_edge (Some Sync) u v c h = only v c (suc u) 0 h

  rising_back : (t : Bool) (o u : ℕ) → Rising (elim t [ true ↦ (join es o, b.join) ∷ [] | false ↦ (suc u, 0) ∷ [] ])
  rising_back true o u = (tt, tt)
  rising_back false o u = (tt, tt)

  rising_return : (f u : ℕ) → Rising (out_return es b u f)
  rising_return zero u = tt
  rising_return (suc o) u = rising_back (is_spawned es (suc o)) o u

  rising : (e : Option Event) (u : ℕ) → Rising (out_of es b u e)
  rising None u = tt
  rising (Some (Strand n)) u = (tt, tt)
  rising (Some (Call s f)) u = (tt, tt)
  rising (Some (Spawn s f)) u = (((let z = partner_after es b u in omega arith), tt), (tt, tt))
  rising (Some Ret) u = rising_return (owner es u) u
  rising (Some Sync) u = (tt, tt)

  walk_forward : (r : List ℕ) (x y w : ℕ) → Walk es b x r y w → x ≤ y
  walk_forward [] x y w t = omega (arith, t.0)
  walk_forward (u ∷ r) x y w t = let a = edge_forward es b (event_at es x) x u t.0 t.2 in let c = walk_forward r u y t.1 t.3 in omega (arith, a.0)

  module _ (y : ℕ) where
    abbrev Walks : ℕ → ℕ → List (List ℕ × ℕ)
    Walks n x = all_walks es b y n x

    sound : (n x w : ℕ) (r : List ℕ) → In r w (Walks n x) → Walk es b x r y w
    sound zero x w r h = absurd h
    sound (suc n) x w r h = by (λ v k q i. sound n v k q i) (nat_eq x y) refl h
      where
        by : ((v k : ℕ) (q : List ℕ) → In q k (all_walks es b y n v) → Walk es b v q y k) → (t : Bool) → nat_eq x y ≡ t → In r w (elim t [ true ↦ ([], weight es x) ∷ [] | false ↦ through_all (all_walks es b y n) (weight es x) (out_of es b x (event_at es x)) ]) → Walk es b x r y w
        by before true e (inl g) = subst (λ l. Walk es b x l y w) (sym g.0) (eqb-true x y e, g.1)
        by before true e (inr g) = absurd g
        by before false e g =
            let d = from_through (all_walks es b y n) (weight es x) w r (out_of es b x (event_at es x)) g in
            subst (λ l. Walk es b x l y w) (sym d.5)
            (d.1, d.3, in_edge (event_at es x) x d.0 d.1 d.4, before d.0 d.3 d.2 d.7, (let z = d.6 in omega arith))

    complete : (n x w : ℕ) (r : List ℕ) → y < x + n → Walk es b x r y w → In r w (Walks n x)
    complete zero x w r l t = absurd (let a = walk_forward r x y w t in omega arith)
    complete (suc n) x w [] l t = by (nat_eq x y) refl
      where
        by : (k : Bool) → nat_eq x y ≡ k → In [] w (elim k [ true ↦ ([], weight es x) ∷ [] | false ↦ through_all (all_walks es b y n) (weight es x) (out_of es b x (event_at es x)) ])
        by true e = inl (refl, t.1)
        by false e = absurd (both_ways (nat_eq x y) e (eq-eqb x y t.0))
    complete (suc n) x w (u ∷ r) l t = by (λ m. complete n u t.1 r m t.3) (nat_eq x y) refl
      where
        ahead : x < u
        ahead = (edge_forward es b (event_at es x) x u t.0 t.2).0

        by : (y < u + n → In r t.1 (all_walks es b y n u)) → (k : Bool) → nat_eq x y ≡ k → In (u ∷ r) w (elim k [ true ↦ ([], weight es x) ∷ [] | false ↦ through_all (all_walks es b y n) (weight es x) (out_of es b x (event_at es x)) ])
        by before true e = absurd (let z = eqb-true x y e in let a = walk_forward r u y t.1 t.3 in let c = ahead in omega arith)
        by before false e =
            let c = ahead in
            let i = in_through (all_walks es b y n) (weight es x) u t.0 t.1 r (out_of es b x (event_at es x)) (edge_in (event_at es x) x u t.0 t.2) (before (omega arith)) in
            subst (λ k. In (u ∷ r) k (through_all (all_walks es b y n) (weight es x) (out_of es b x (event_at es x)))) (let q : (weight es x + t.0) + t.1 ≡ w = omega (arith, t.4) in q) i

    sorted : (n x : ℕ) → Sorted (Walks n x)
    sorted zero x = tt
    sorted (suc n) x = by (λ v. sorted n v) (nat_eq x y)
      where
        by : ((v : ℕ) → Sorted (all_walks es b y n v)) → (k : Bool) → Sorted (elim k [ true ↦ ([], weight es x) ∷ [] | false ↦ through_all (all_walks es b y n) (weight es x) (out_of es b x (event_at es x)) ])
        by before true = (tt, tt)
        by before false = sorted_through (all_walks es b y n) (weight es x) (out_of es b x (event_at es x)) (rising (event_at es x) x) before

-- ---- the first of greatest weight

record Best (r : List ℕ × ℕ) (ts : List (List ℕ × ℕ)) : Type 0 where
  one : In r.0 r.1 ts
  most : (s : List ℕ) (k : ℕ) → In s k ts → k ≤ r.1
  first : Sorted ts → (s : List ℕ) → In s r.1 ts → (s ≡ r.0) ⊎ Before r.0 s

best_is : (ts : List (List ℕ × ℕ)) (t : List ℕ × ℕ) → Best (best ts t) (t ∷ ts)
best_is [] t = record {
  one = inl (refl, refl);
  most = λ s k h. elim h [ inl e ↦ (let z = e.1 in omega arith) | inr e ↦ absurd e ];
  first = λ o s h. elim h [ inl e ↦ inl e.0 | inr e ↦ absurd e ];
}
best_is (u ∷ us) t = by (best_is us u) (best_is us t) (nat_lt t.1 u.1) refl
  where
    by : Best (best us u) (u ∷ us) → Best (best us t) (t ∷ us) → (x : Bool) → nat_lt t.1 u.1 ≡ x → Best (elim x [ true ↦ best us u | false ↦ best us t ]) (t ∷ u ∷ us)
    by h other true e =
        let l = ltb-true t.1 u.1 e in
        let m : u.1 ≤ (best us u).1 = h.most u.0 u.1 (inl (refl, refl)) in
        record {
          one = inr h.one;
          most = λ s k i. elim i [ inl d ↦ (let z = d.1 in omega arith) | inr d ↦ h.most s k d ];
          first = λ o s i. elim i [ inl d ↦ absurd (let z = d.1 in omega arith) | inr d ↦ h.first o.1 s d ];
        }
    by other h false e =
        let l = ltb-false t.1 u.1 e in
        let m : t.1 ≤ (best us t).1 = h.most t.0 t.1 (inl (refl, refl)) in
        record {
          one = elim h.one [ inl d ↦ inl d | inr d ↦ inr (inr d) ];
          most = λ s k i. elim i [ inl d ↦ h.most s k (inl d) | inr d ↦ elim d [ inl g ↦ (let z = g.1 in omega arith) | inr g ↦ h.most s k (inr g) ] ];
          first = λ o s i.
              let old : Sorted (t ∷ us) = (o.0.1, o.1.1) in
              elim i [
                | inl d ↦ h.first old s (inl d)
                | inr d ↦ elim d [
                  | inl g ↦
                      let same : (best us t).1 ≡ t.1 = (let z = g.1 in omega arith) in
                      let later : Before t.0 s = subst (λ l. Before t.0 l) (sym g.0) o.0.0 in
                      elim (h.first old t.0 (inl (refl, same))) [
                        | inl q ↦ inr (subst (λ l. Before l s) q later)
                        | inr q ↦ inr (before_trans (best us t).0 t.0 s q later)
                      ]
                  | inr g ↦ h.first old s (inr g)
                ]
              ];
        }

first_best_is : (ts : List (List ℕ × ℕ)) (r : List ℕ) (w : ℕ) → In r w ts → Best (first_best ts) ts
first_best_is [] r w h = absurd h
first_best_is (t ∷ ts) r w h = best_is ts t

-- where there is a walk at all, the list gives the greatest weight and the path
pub listed : (es : List Event) (b : Burdens) (x y w : ℕ) (r : List ℕ) → y ≤ length es → Walk es b x r y w → IsGreatest es b x y (greatest_walk es b x y).1 × IsPath es b x y (greatest_walk es b x y).0
listed es b x y w r l t =
    let n : ℕ = suc (length es) in
    let best = first_best_is (all_walks es b y n x) r w (complete es b y n x w r (omega arith) t) in
    let g = greatest_walk es b x y in
    let walk = sound es b y n x g.1 g.0 best.one in
    let most = λ (s : List ℕ) (k : ℕ) (h : Walk es b x s y k). best.most s k (complete es b y n x k s (omega arith) h) in
    ((((g.0, walk), most)), (g.1, walk, most, λ s h. best.first (sorted es b y n x) s (complete es b y n x g.1 s (omega arith) h)))

-- of a well-formed trace it gives the spans and the path
pub listed_spans : (es : List Event) → IsWellFormed es → AreSpans es (span_of es)
listed_spans es wf f t =
    let p = (path_exists es wf unburdened f t).1 in
    (listed es unburdened f (closing es f) p.0 _ (closing_inside es wf 0 0 f t) p.1).0

pub listed_span : (es : List Event) → IsWellFormed es → (b : Burdens) → IsSpan es b (span es b)
listed_span es wf b =
    let p = (path_exists es wf b 0 refl).1 in
    (listed es b 0 (length es) p.0 _ (let z : length es ≤ length es = omega arith in z) p.1).0

pub listed_path : (es : List Event) → IsWellFormed es → (b : Burdens) → IsPath es b 0 (length es) (greatest_walk es b 0 (length es)).0
listed_path es wf b =
    let p = (path_exists es wf b 0 refl).1 in
    (listed es b 0 (length es) p.0 _ (let z : length es ≤ length es = omega arith in z) p.1).1
