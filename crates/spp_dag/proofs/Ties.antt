-- The tie rule as a weight: entering an earlier child is worth more than all later ones together.
use Rattle.std.proofs.Common.{◌≡◌, ℕ, zero, suc, ◌+◌, ◌-◌, ◌*◌, ◌^◌, ◌≤◌, ◌<◌, Bool, true, false, refl, arith, sym, ◌∙◌, ap, ap₂, subst, inl, inr, List, [], ◌∷◌, length, Option, Some, None, nat_eq, ◌&&◌, pow_mono, pow_pos, mul-add}
use Rattle.std.proofs.Math.Nat.{two-pow-succ, lt_of_mul-lt-mul_left, mul-suc}
use Rattle.std.proofs.lemmas.Bool.{cases_Bool, eq-eqb, ne_eqb, and_from}
use Rattle.spp_event.specs.declared.records.Event.{Event}
use Rattle.spp_event.specs.declared.records.Event.TheVariants.{Strand, Call, Spawn, Ret, Sync}
use Rattle.spp_maxplus.specs.declared.state.Burdens.{Burdens}
use Rattle.spp_dag.specs.Trace.{event_at, weight, opens, spawns, syncs, IsWellFormed, partner, owner, is_spawned, is_frame, closing}
use Rattle.spp_dag.specs.Dag.{Before, FirstEnters, Walk, IsPath}
use Rattle.spp_maxplus.specs.State.{close}
use Rattle.spp_dag.proofs.Depth.{closed}
use Rattle.spp_dag.proofs.Machine.{shape}
use Rattle.spp_dag.proofs.Owner.{owner_is}
use Rattle.spp_dag.proofs.Walks.{ReturnsTo, ReturnStep, StepOf, Trail}
use Rattle.spp_dag.proofs.Upper.{spawns_opens}
use Rattle.spp_dag.proofs.Span.{greatest, greatest_at, trail_of, walk_of}
use Rattle.spp_dag.proofs.Parting.{forward, trail_forward, one_enters, enters_before, before_not_both, before_not_same}

module _ (es : List Event) where
  -- more than all that entering children from x on can be worth
  pub room : ℕ → ℕ
  room x = 2 ^ (suc (length es) - x)

  pub room_halves : (x : ℕ) → x ≤ length es → room x ≡ room (suc x) + room (suc x)
  unfolding room
  room_halves x l = ap (λ k. 2 ^ k) (let q : suc (length es) - x ≡ suc (suc (length es) - suc x) = omega arith in q) ∙ two-pow-succ (suc (length es) - suc x)

  pub room_falls : (x y : ℕ) → x ≤ y → room y ≤ room x
  unfolding room
  room_falls x y l = pow_mono (let q : suc (length es) - y ≤ suc (length es) - x = omega arith in q)

  pub room_positive : (x : ℕ) → 0 < room x
  unfolding room
  room_positive x = pow_pos (suc (length es) - x)

  -- what entering the child spawned at s is worth
  abbrev pub prize : ℕ → ℕ
  prize s = room (suc s)

  abbrev pub prize_of_step : ℕ → ℕ → ℕ
  prize_of_step x u = elim (spawns (event_at es x) && nat_eq u (suc x)) [ true ↦ prize x | false ↦ 0 ]

  -- what a walk wins
  abbrev pub prizes : ℕ → List ℕ → ℕ
  prizes x [] = 0
  prizes x (u ∷ us) = prize_of_step x u + prizes u us

  abbrev pub none : ℕ → ℕ
  none s = 0

module _ (es : List Event) (m n : ℕ) where
  -- walks whose continuation edges bear m and whose return edges bear n, and such walks, scaled, that win prizes
  abbrev pub Plain : ℕ → List ℕ → ℕ → ℕ → Type 0
  Plain = Trail es 1 (none es) (λ _. m) (λ _. n)

  abbrev pub Won : ℕ → List ℕ → ℕ → ℕ → Type 0
  Won = Trail es (room es 0) (prize es) (λ _. room es 0 * m) (λ _. room es 0 * n)

  pub scaled : (c d p : ℕ) → c ≡ d → p ≡ 0 → room es 0 * c + p ≡ room es 0 * d
  scaled c d p q r = let k : room es 0 * c ≡ room es 0 * d = ap (λ x. room es 0 * x) q in omega arith

  pub scaled_zero : (c p v : ℕ) → c ≡ 0 → p ≡ v → room es 0 * c + p ≡ v
  scaled_zero c p v q r = let k : room es 0 * c ≡ room es 0 * 0 = ap (λ x. room es 0 * x) q in omega arith

  abbrev PlainTo : Bool → ℕ → ℕ → ℕ → ℕ → Type 0
  PlainTo = ReturnsTo es 1 (none es) (λ _. m) (λ _. n)

  abbrev WonTo : Bool → ℕ → ℕ → ℕ → ℕ → Type 0
  WonTo = ReturnsTo es (room es 0) (prize es) (λ _. room es 0 * m) (λ _. room es 0 * n)

  abbrev PlainBack : ℕ → ℕ → ℕ → ℕ → Type 0
  PlainBack = ReturnStep es 1 (none es) (λ _. m) (λ _. n)

  abbrev WonBack : ℕ → ℕ → ℕ → ℕ → Type 0
  WonBack = ReturnStep es (room es 0) (prize es) (λ _. room es 0 * m) (λ _. room es 0 * n)

  toll_back : (b : Bool) (o u v c p : ℕ) → p ≡ 0 → PlainTo b o u v c → WonTo b o u v (room es 0 * c + p)
  toll_back true o u v c p q s = (s.0, scaled c n p s.1 q)
  toll_back false o u v c p q s = (s.0, scaled_zero c p 0 s.1 q)

  pub toll_return : (f u v c p : ℕ) → p ≡ 0 → PlainBack f u v c → WonBack f u v (room es 0 * c + p)
  toll_return zero u v c p q s = s
  toll_return (suc o) u v c p q s = toll_back (is_spawned es (suc o)) o u v c p q s

  untoll_back : (b : Bool) (o u v k p : ℕ) → p ≡ 0 → WonTo b o u v k → (c : ℕ) × PlainTo b o u v c × (k ≡ room es 0 * c + p)
  untoll_back true o u v k p q s = (n, (s.0, refl), (let z = s.1 in omega arith))
  untoll_back false o u v k p q s = (0, (s.0, refl), (let z = s.1 in omega arith))

  pub untoll_return : (f u v k p : ℕ) → p ≡ 0 → WonBack f u v k → (c : ℕ) × PlainBack f u v c × (k ≡ room es 0 * c + p)
  untoll_return zero u v k p q s = absurd s
  untoll_return (suc o) u v k p q s = untoll_back (is_spawned es (suc o)) o u v k p q s

module _ (es : List Event) (wf : IsWellFormed es) (m n : ℕ) where
  no_prize : (x u : ℕ) → spawns (event_at es x) ≡ false → prize_of_step es x u ≡ 0
  no_prize x u n = rw (n, prize_of_step)

  wins : (x u : ℕ) → spawns (event_at es x) ≡ true → u ≡ suc x → prize_of_step es x u ≡ prize es x
  wins x u t e = let h : (spawns (event_at es x) && nat_eq u (suc x)) ≡ true = and_from _ _ t (eq-eqb _ _ e) in rw (h, prize_of_step)

  misses : (x u : ℕ) → (u ≡ suc x → ⊥) → prize_of_step es x u ≡ 0
  misses x u n = misses_of (spawns (event_at es x)) refl
    where
      misses_of : (b : Bool) → spawns (event_at es x) ≡ b → prize_of_step es x u ≡ 0
      misses_of false e = no_prize x u e
      misses_of true e = let h : (spawns (event_at es x) && nat_eq u (suc x)) ≡ false = ap₂ (λ a b. a && b) e (ne_eqb u (suc x) n) in rw (h, prize_of_step)

  abbrev PlainStep : Option Event → ℕ → ℕ → ℕ → Type 0
  PlainStep e x u c = StepOf es 1 (none es) (λ _. m) (λ _. n) e x u c

  abbrev WonStep : Option Event → ℕ → ℕ → ℕ → Type 0
  WonStep e x u c = StepOf es (room es 0) (prize es) (λ _. room es 0 * m) (λ _. room es 0 * n) e x u c

  skips : (x u : ℕ) → opens (event_at es x) ≡ true → u ≡ suc (partner es x) → prize_of_step es x u ≡ 0
  skips x u t e = let z = (closed es wf x t).after in misses x u (λ q. omega arith)

  to_won_step : (e : Option Event) (x u c : ℕ) → event_at es x ≡ e → PlainStep e x u c → WonStep e x u (room es 0 * c + prize_of_step es x u)
  to_won_step None x u c q s = absurd s
  to_won_step (Some (Strand k)) x u c q s = (s.0, scaled_zero es m n c (prize_of_step es x u) 0 s.1 (no_prize x u (ap spawns q)))
  to_won_step (Some (Call a f)) x u c q s = (s.0, scaled_zero es m n c (prize_of_step es x u) 0 s.1 (no_prize x u (ap spawns q)))
  to_won_step (Some (Spawn a f)) x u c q (inl s) = inl (s.0, scaled_zero es m n c (prize_of_step es x u) (prize es x) s.1 (wins x u (ap spawns q) s.0))
  to_won_step (Some (Spawn a f)) x u c q (inr s) = inr (s.0, scaled es m n c m (prize_of_step es x u) s.1 (skips x u (ap opens q) s.0))
  to_won_step (Some Ret) x u c q s = toll_return es m n (owner es x) x u c (prize_of_step es x u) (no_prize x u (ap spawns q)) s
  to_won_step (Some Sync) x u c q s = (s.0, scaled_zero es m n c (prize_of_step es x u) 0 s.1 (no_prize x u (ap spawns q)))

  from_won_step : (e : Option Event) (x u k : ℕ) → event_at es x ≡ e → WonStep e x u k → (c : ℕ) × PlainStep e x u c × (k ≡ room es 0 * c + prize_of_step es x u)
  from_won_step None x u k q s = absurd s
  from_won_step (Some (Strand j)) x u k q s = (0, (s.0, refl), (let a = no_prize x u (ap spawns q) in let z = s.1 in omega arith))
  from_won_step (Some (Call a f)) x u k q s = (0, (s.0, refl), (let a = no_prize x u (ap spawns q) in let z = s.1 in omega arith))
  from_won_step (Some (Spawn a f)) x u k q (inl s) = (0, inl (s.0, refl), (let a = wins x u (ap spawns q) s.0 in let z = s.1 in omega arith))
  from_won_step (Some (Spawn a f)) x u k q (inr s) = (m, inr (s.0, refl), (let a = skips x u (ap opens q) s.0 in let z = s.1 in omega arith))
  from_won_step (Some Ret) x u k q s = untoll_return es m n (owner es x) x u k (prize_of_step es x u) (no_prize x u (ap spawns q)) s
  from_won_step (Some Sync) x u k q s = (0, (s.0, refl), (let a = no_prize x u (ap spawns q) in let z = s.1 in omega arith))

  pub to_won : (x y w : ℕ) (ps : List ℕ) → Plain es m n x ps y w → Won es m n x ps y (room es 0 * w + prizes es x ps)
  to_won x y w [] t = (t.0, (let e : w ≡ weight es x = omega (arith, t.1) in let f : room es 0 * w ≡ room es 0 * weight es x = ap (λ k. room es 0 * k) e in omega arith))
  to_won x y w (u ∷ ps) t =
      let s = to_won_step (event_at es x) x u t.0 refl t.2 in
      let r = to_won u y t.1 ps t.3 in
      let e : w ≡ weight es x + (t.0 + t.1) = omega (arith, t.4) in
      let f : room es 0 * w ≡ room es 0 * weight es x + room es 0 * (t.0 + t.1) = ap (λ k. room es 0 * k) e ∙ mul-add (room es 0) (weight es x) (t.0 + t.1) in
      let g = mul-add (room es 0) t.0 t.1 in
      (room es 0 * t.0 + prize_of_step es x u, room es 0 * t.1 + prizes es u ps, s, r, omega arith)

  pub from_won : (x y v : ℕ) (ps : List ℕ) → Won es m n x ps y v → (w : ℕ) × Plain es m n x ps y w × (v ≡ room es 0 * w + prizes es x ps)
  from_won x y v [] t = (weight es x, (t.0, (let z : weight es x ≡ 1 * weight es x = omega arith in z)), (let e = t.1 in omega arith))
  from_won x y v (u ∷ ps) t =
      let s = from_won_step (event_at es x) x u t.0 refl t.2 in
      let r = from_won u y t.1 ps t.3 in
      let f = mul-add (room es 0) (weight es x) (s.0 + r.0) in
      let g = mul-add (room es 0) s.0 r.0 in
      (weight es x + (s.0 + r.0), (s.0, r.0, s.1, r.1, omega arith), (let e = t.4 in let g = r.2 in let h = s.2 in omega arith))

  -- a step ends before the end
  prize_le : (x u : ℕ) → prize_of_step es x u ≤ prize es x
  prize_le x u = elim (cases_Bool (spawns (event_at es x) && nat_eq u (suc x))) [
    | inl e ↦ (let h : prize_of_step es x u ≡ prize es x = rw (e, prize_of_step) in omega arith)
    | inr e ↦ (let h : prize_of_step es x u ≡ 0 = rw (e, prize_of_step) in omega arith)
  ]

  -- all that a walk from x wins is less than the room there
  pub prizes_lt : (x y w : ℕ) (ps : List ℕ) → y ≤ length es → Plain es m n x ps y w → prizes es x ps < room es x
  prizes_lt x y w [] l t = room_positive es x
  prizes_lt x y w (u ∷ ps) l t =
      let a = forward es wf 1 (none es) (λ _. m) (λ _. n) x u t.0 t.2 in
      let b = trail_forward es wf 1 (none es) (λ _. m) (λ _. n) u y t.1 ps t.3 in
      let c = prizes_lt u y t.1 ps l t.3 in
      let d = room_falls es (suc x) u a in
      let e = room_halves es x (omega arith) in
      let f = prize_le x u in
      omega arith

  -- who enters first wins more
  pub enters_wins : (x y v w : ℕ) (ps qs : List ℕ) → y ≤ length es → Plain es m n x ps y v → Plain es m n x qs y w → FirstEnters es x ps qs → prizes es x qs < prizes es x ps
  enters_wins x y v w [] qs l s t h = absurd h
  enters_wins x y v w (p ∷ ps) [] l s t h = absurd h
  enters_wins x y v w (p ∷ ps) (q ∷ qs) l s t (inl h) =
      let d = closed es wf x (spawns_opens (event_at es x) h.0) in
      let z = d.after in
      let ms = misses x q (λ e. omega (arith, h.2)) in
      let wn = wins x p h.0 h.1 in
      let c = prizes_lt q y t.1 qs l t.3 in
      let r = room_falls es (suc x) q (omega (arith, h.2)) in
      omega arith
  enters_wins x y v w (p ∷ ps) (q ∷ qs) l s t (inr h) =
      let r = enters_wins q y s.1 t.1 ps qs l (subst (λ k. Plain es m n k ps y s.1) h.0 s.3) t.3 (subst (λ k. FirstEnters es k ps qs) h.0 h.1) in
      let e : prize_of_step es x p ≡ prize_of_step es x q = ap (prize_of_step es x) h.0 in
      let f : prizes es p ps ≡ prizes es q ps = ap (λ k. prizes es k ps) h.0 in
      omega arith

  pub closing_inside : (f : ℕ) → is_frame es f ≡ true → closing es f ≤ length es
  closing_inside zero t = omega arith
  closing_inside (suc o) t = let z = (closed es wf o t).within in omega arith

module _ (es : List Event) (wf : IsWellFormed es) (burdens : Burdens) where
  -- a walk that wins most through a frame is the first greatest one
  pub winner_is_path : (f y : ℕ) → y ≤ length es → (rest : List ℕ) (w : ℕ) → Won es burdens.continuation burdens.join f rest y w
      → ((qs : List ℕ) (v : ℕ) → Won es burdens.continuation burdens.join f qs y v → v ≤ w) → IsPath es burdens f y rest
  winner_is_path f y l rest w s most =
      let p = from_won es wf burdens.continuation burdens.join f y w rest s in
      let bound = prizes_lt es wf burdens.continuation burdens.join f y p.0 rest l p.1 in
      let whole = room_falls es 0 f (omega arith) in (
        p.0,
        walk_of es burdens f y p.0 rest p.1,
        (λ qs v q.
            let c = trail_of es burdens f y v qs q in
            let mm = most qs (room es 0 * v + prizes es f qs) (to_won es wf burdens.continuation burdens.join f y v qs c) in
            let k : room es 0 * suc p.0 ≡ room es 0 * p.0 + room es 0 = mul-suc (room es 0) p.0 in
            let e : room es 0 * v < room es 0 * suc p.0 = omega (arith, p.2) in
            let g : v < suc p.0 = lt_of_mul-lt-mul_left (room es 0) e in
            omega arith),
        (λ qs q.
            let c = trail_of es burdens f y p.0 qs q in
            let mm = most qs (room es 0 * p.0 + prizes es f qs) (to_won es wf burdens.continuation burdens.join f y p.0 qs c) in
            elim (one_enters es wf 1 (none es) (λ _. burdens.continuation) (λ _. burdens.join) f y p.0 p.0 qs rest c p.1) [
              | inl e ↦ inl e
              | inr e ↦ elim e [
                | inl a ↦ absurd (let b = enters_wins es wf burdens.continuation burdens.join f y p.0 p.0 qs rest l c p.1 a in omega (arith, p.2))
                | inr a ↦ inr (enters_before es wf 1 (none es) (λ _. burdens.continuation) (λ _. burdens.join) f rest qs a)
              ]
            ]),
      )

  -- there is a first greatest walk through each frame
  pub path_exists : (f : ℕ) → is_frame es f ≡ true → (rest : List ℕ) × IsPath es burdens f (closing es f) rest
  path_exists f t =
      let h = shape es (room es 0) (λ _. room es 0 * burdens.continuation) (λ s. prize es s + room es 0 * burdens.join) wf (closing es f) (closing_inside es wf 0 0 f t) in
      let g = greatest es (room es 0) (λ _. room es 0 * burdens.continuation) (λ s. prize es s + room es 0 * burdens.join) wf (prize es) (λ _. room es 0 * burdens.join) (λ s. refl) f t h in
      (g.0.0, winner_is_path f (closing es f) (closing_inside es wf 0 0 f t) g.0.0 (close h.top.state) g.0.1 g.1)

  -- and to each place where a frame waits
  pub path_exists_to : (k : ℕ) → k ≤ length es → (k < length es → syncs (event_at es k) ≡ true) → (rest : List ℕ) × IsPath es burdens (owner es k) k rest
  path_exists_to k l n =
      let h = shape es (room es 0) (λ _. room es 0 * burdens.continuation) (λ s. prize es s + room es 0 * burdens.join) wf k l in
      let g = greatest_at es (room es 0) (λ _. room es 0 * burdens.continuation) (λ s. prize es s + room es 0 * burdens.join) wf (prize es) (λ _. room es 0 * burdens.join) (λ s. refl) k l n h in
      let own : owner es k ≡ h.top.first = owner_is es (room es 0) (λ _. room es 0 * burdens.continuation) (λ s. prize es s + room es 0 * burdens.join) wf k h in
      subst (λ (f : ℕ). (rest : List ℕ) × IsPath es burdens f k rest) (sym own) (g.0.0, winner_is_path h.top.first k l g.0.0 (close h.top.state) g.0.1 g.1)

-- the law: of two walks with the same ends, the one that comes first in dictionary order enters a child where the other
-- goes on
pub first_enters : (es : List Event) → IsWellFormed es → (burdens : Burdens) (x y v w : ℕ) (ps qs : List ℕ) → Walk es burdens x ps y v → Walk es burdens x qs y w → Before ps qs → FirstEnters es x ps qs
first_enters es wf burdens x y v w ps qs s t b =
    elim (one_enters es wf 1 (λ _. 0) (λ _. burdens.continuation) (λ _. burdens.join) x y v w ps qs (trail_of es burdens x y v ps s) (trail_of es burdens x y w qs t)) [
      | inl e ↦ absurd (before_not_same qs (subst (λ k. Before k qs) e b))
      | inr e ↦ elim e [
        | inl a ↦ a
        | inr a ↦ absurd (before_not_both ps qs b (enters_before es wf 1 (λ _. 0) (λ _. burdens.continuation) (λ _. burdens.join) x qs ps a))
      ]
    ]

-- the path is one
pub path_unique : (es : List Event) (burdens : Burdens) (x y : ℕ) (ps qs : List ℕ) → IsPath es burdens x y ps → IsPath es burdens x y qs → ps ≡ qs
path_unique es burdens x y ps qs a b =
    let e : a.0 ≡ b.0 = (let c = a.2 qs b.0 b.1 in let d = b.2 ps a.0 a.1 in omega arith) in
    elim (a.3 qs (subst (λ w. Walk es burdens x qs y w) (sym e) b.1)) [
      | inl h ↦ sym h
      | inr h ↦ elim (b.3 ps (subst (λ w. Walk es burdens x ps y w) e a.1)) [
        | inl k ↦ k
        | inr k ↦ absurd (before_not_both ps qs h k)
      ]
    ]
