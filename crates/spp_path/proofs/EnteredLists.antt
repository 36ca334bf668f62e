-- A rising list of the spawns of children that the path enters, gone over position by position: what is left of it before
-- a position are those from there on.
use Rattle.std.proofs.Common.{◌≡◌, ℕ, zero, suc, ◌<◌, ◌≤◌, ◌↔◌, true, false, cond, refl, arith, sym, ap, subst, inl, inr, List, [], ◌∷◌}
use Rattle.std.specs.Prelude.{Contains, slice_index_or}
use Rattle.std.proofs.lemmas.Bool.{cases_eq, both_ways, eq-eqb, eqb-true, ne_eqb}
use Rattle.std.proofs.lemmas.List.Elements.{Contains-append_right, Contains-append_cases}
use Rattle.spp_event.specs.declared.records.Event.{Event}
use Rattle.spp_maxplus.specs.declared.state.Burdens.{Burdens}
use Rattle.spp_dag.specs.Trace.{event_at, spawns}
use Rattle.spp_dag.specs.ChoiceLists.{AreRising, IsWithin}
use Rattle.spp_path.specs.Entered.{IsEntered, AreEnteredIn, is_next, left_after}

none_in : (x : ℕ) → Contains [] x → ⊥
none_in x c = let l : c.0 < 0 = c.1 in omega arith

one_in : (x y : ℕ) → Contains (y ∷ []) x → y ≡ x
one_in x y c = by c.0 c.1 c.2
  where
    by : (k : ℕ) → k < 1 → slice_index_or (y ∷ []) k x ≡ x → y ≡ x
    by zero l e = e
    by (suc k) l e = absurd (omega arith)

head_in : (x : ℕ) (xs : List ℕ) → Contains (x ∷ xs) x
head_in x xs = (0, omega arith, refl)

-- the head is the least
above_head : (x : ℕ) (xs : List ℕ) → AreRising (x ∷ xs) → (y : ℕ) → Contains xs y → x < y
above_head x [] r y c = absurd (none_in y c)
above_head x (z ∷ zs) r y c = elim (Contains-append_cases (z ∷ []) zs y c) [
  | inl a ↦ let e = one_in y z a in let l : x < z = r.0 in omega arith
  | inr a ↦ let m = above_head z zs r.1 y a in let l : x < z = r.0 in omega arith
]

rising_tail : (x : ℕ) (xs : List ℕ) → AreRising (x ∷ xs) → AreRising xs
rising_tail x [] r = tt
rising_tail x (y ∷ ys) r = r.1

module _ (es : List Event) (bd : Burdens) (end : ℕ) where
  -- past a position that is no such spawn all are left
  pub entered_past : (i : ℕ) (xs : List ℕ) → (IsEntered es bd i → ⊥) → AreEnteredIn es bd i end xs → AreEnteredIn es bd (suc i) end xs
  entered_past i xs n h = record { rise = h.rise; are = λ s. (λ m. forth s ((h.are s).0 m), λ q. (h.are s).1 (q.0, ((let l : suc i ≤ s = q.1.0 in omega arith), q.1.1))) }
    where
      forth : (s : ℕ) → IsEntered es bd s × IsWithin i end s → IsEntered es bd s × IsWithin (suc i) end s
      forth s q = elim (cases_eq i s) [
        | inl e ↦ absurd (n (subst (λ k. IsEntered es bd k) (sym e) q.0))
        | inr d ↦ (q.0, ((let l : i ≤ s = q.1.0 in omega arith), q.1.1))
      ]

  -- where it spawns nothing it is none
  pub past_other : (i : ℕ) (xs : List ℕ) → spawns (event_at es i) ≡ false → AreEnteredIn es bd i end xs → AreEnteredIn es bd (suc i) end xs
  past_other i xs q h = entered_past i xs (λ e. both_ways _ q e.0) h

  -- the position is one exactly where it is the next
  pub next_is : (i : ℕ) (xs : List ℕ) → i < end → AreEnteredIn es bd i end xs → (is_next i xs ≡ true) ↔ IsEntered es bd i
  next_is i [] l h = ((λ e. cc), λ e. absurd (none_in i ((h.are i).1 (e, ((let z : i ≤ i = omega arith in z), l)))))
  next_is i (x ∷ xs) l h = (
    λ e. subst (λ k. IsEntered es bd k) (eqb-true x i e) ((h.are x).0 (head_in x xs)).0,
    λ e. eq-eqb x i (here ((h.are i).1 (e, ((let z : i ≤ i = omega arith in z), l)))),
  )
    where
      least : i ≤ x
      least = ((h.are x).0 (head_in x xs)).1.0

      here : Contains (x ∷ xs) i → x ≡ i
      here c = elim (Contains-append_cases (x ∷ []) xs i c) [
        | inl a ↦ one_in i x a
        | inr a ↦ let m = above_head x xs h.rise i a in absurd (let z = least in omega arith)
      ]

  -- without the next, those from the next position on are left
  tail_left : (i : ℕ) (xs : List ℕ) → AreEnteredIn es bd i end (i ∷ xs) → AreEnteredIn es bd (suc i) end xs
  tail_left i xs h = record { rise = rising_tail i xs h.rise; are = λ s. (forth s, back s) }
    where
      forth : (s : ℕ) → Contains xs s → IsEntered es bd s × IsWithin (suc i) end s
      forth s c =
          let q = (h.are s).0 (Contains-append_right (i ∷ []) xs s c) in
          let m = above_head i xs h.rise s c in
          (q.0, ((let z : suc i ≤ s = omega arith in z), q.1.1))

      back : (s : ℕ) → IsEntered es bd s × IsWithin (suc i) end s → Contains xs s
      back s q =
          let l : suc i ≤ s = q.1.0 in
          elim (Contains-append_cases (i ∷ []) xs s ((h.are s).1 (q.0, ((let z : i ≤ s = omega arith in z), q.1.1)))) [
            | inl a ↦ absurd (let e = one_in s i a in omega arith)
            | inr a ↦ a
          ]

  -- what is left past the position
  pub left_is : (i : ℕ) (xs : List ℕ) → i < end → AreEnteredIn es bd i end xs → AreEnteredIn es bd (suc i) end (left_after i xs)
  left_is i [] l h = entered_past i [] (λ e. none_in i ((h.are i).1 (e, ((let z : i ≤ i = omega arith in z), l)))) h
  left_is i (x ∷ xs) l h = elim (cases_eq x i) [
    | inl e ↦
        subst (λ (ys : List ℕ). AreEnteredIn es bd (suc i) end ys) (ap (λ b. cond b xs (x ∷ xs)) (sym (eq-eqb x i e)))
        (tail_left i xs (subst (λ k. AreEnteredIn es bd i end (k ∷ xs)) e h))
    | inr n ↦
        subst (λ (ys : List ℕ). AreEnteredIn es bd (suc i) end ys) (ap (λ b. cond b xs (x ∷ xs)) (sym (ne_eqb x i n)))
        (entered_past i (x ∷ xs) (λ e. n (eqb-true x i ((next_is i (x ∷ xs) l h).1 e))) h)
  ]
