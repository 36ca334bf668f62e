-- The frames on the stack are those that hold the position, and what marks a frame is seen on it.
use Rattle.std.proofs.Common.{◌≡◌, ℕ, zero, suc, ◌≤◌, ◌<◌, Bool, true, false, not, ◌&&◌, ◌||◌, refl, arith, sym, ◌∙◌, ap, subst, inl, inr, List, [], ◌∷◌, length, nat_le, nat_lt, nat_eq}
use Rattle.std.proofs.lemmas.Bool.{cases_eq, both_ways, and_parts, and_from, or_cases, or_left, or_right, le-leb, leb-true, ltb-true, lt-ltb, false_from_ne_true}
use Rattle.spp_event.specs.declared.records.Event.{Event}
use Rattle.spp_dag.specs.Ranges.{none_below}
use Rattle.spp_dag.specs.Trace.{event_at, opens, returns, partner, is_frame, closing, IsWellFormed}
use Rattle.spp_dag.specs.Rows.{encloses, entered_by, function_of, same_site, is_top_site, is_outermost}
use Rattle.spp_dag.proofs.Depth.{inside_opens, closed, opens_not_returns}
use Rattle.spp_dag.proofs.Machine.{Frame, stack, Shape, shape}
use Rattle.spp_dag.proofs.Owner.{above}
use Rattle.spp_dag.proofs.Crossing.{nested}
use Rattle.spp_dag.proofs.Sums.{none-true, none_from}

-- the test passes at the first position of one of the frames
abbrev pub any_first : (ℕ → Bool) → List Frame → Bool
any_first q [] = false
any_first q (f ∷ fs) = q f.first || any_first q fs

module _ (es : List Event) (wf : IsWellFormed es) where
  -- the stack and its shape, for the weights as they are and no burdens
  abbrev pub frames_at : ℕ → List Frame
  frames_at = stack es 1 (λ _. 0) (λ _. 0)

  abbrev pub ShapeAt : ℕ → Type 0
  ShapeAt = Shape es 1 (λ _. 0) (λ _. 0)

  abbrev pub shape_at : (p : ℕ) → p ≤ length es → ShapeAt p
  shape_at = shape es 1 (λ _. 0) (λ _. 0) wf

  -- the frame f holds the position p
  record Holds (p f : ℕ) : Type 0 where
    frame : is_frame es f ≡ true
    from : f ≤ p
    to : p ≤ closing es f

  top_holds : (p : ℕ) → p ≤ length es → (h : ShapeAt p) → Holds p h.top.first
  top_holds p l h = elim h.case [
    | inl r ↦ subst (λ f. Holds p f) (sym r.first) (record { frame = refl; from = omega arith; to = l })
    | inr w ↦ subst (λ f. Holds p f) (sym w.1.first) (record { frame = w.1.opened; from = w.1.after; to = w.1.within })
  ]

  -- what holds the opening of a frame holds the positions in it
  holds_within : (p o f : ℕ) → opens (event_at es o) ≡ true → o < p → p ≤ partner es o → p ≤ length es → Holds o f → Holds p f
  holds_within p o zero t a b l h = record { frame = refl; from = omega arith; to = l }
  holds_within p o (suc s) t a b l h =
      let x : suc s ≤ o = h.from in
      let y : o ≤ partner es s = h.to in
      let n = nested es wf s o h.frame t x y in
      record { frame = h.frame; from = omega arith; to = omega arith }

  holds_upto : (p : ℕ) (h : ShapeAt p) (f : ℕ) → Holds p f → f ≤ h.top.first
  holds_upto p h zero g = omega arith
  holds_upto p h (suc s) g = above es 1 (λ _. 0) (λ _. 0) wf p h s g.frame g.from g.to

  -- each frame on the stack holds the position
  listed_holds : (q : ℕ → Bool) (n p : ℕ) → p < n → p ≤ length es → any_first q (frames_at p) ≡ true → (f : ℕ) × Holds p f × (q f ≡ true)
  listed_holds q zero p a l t = absurd (omega arith)
  listed_holds q (suc n) p a l t =
      let h = shape_at p l in
      elim (or_cases (q h.top.first) (any_first q h.rest) (subst (λ fs. any_first q fs ≡ true) h.is t)) [
        | inl x ↦ (h.top.first, top_holds p l h, x)
        | inr x ↦ elim h.case [
          | inl r ↦ absurd (both_ways (any_first q h.rest) (ap (λ fs. any_first q fs) r.alone) x)
          | inr w ↦
              let after : w.0 < p = w.1.after in
              let r = listed_holds q n w.0 (omega arith) (omega arith) (subst (λ fs. any_first q fs ≡ true) w.1.below x) in
              (r.0, holds_within p w.0 r.0 w.1.opened w.1.after w.1.within l r.1, r.2)
        ]
      ]

  -- and each that holds it is there
  holds_listed : (q : ℕ → Bool) (n p f : ℕ) → p < n → p ≤ length es → Holds p f → q f ≡ true → any_first q (frames_at p) ≡ true
  holds_listed q zero p f a l g t = absurd (omega arith)
  holds_listed q (suc n) p f a l g t =
      let h = shape_at p l in
      let u : f ≤ h.top.first = holds_upto p h f g in
      subst (λ fs. any_first q fs ≡ true) (sym h.is) (elim (cases_eq f h.top.first) [
        | inl e ↦ or_left (q h.top.first) (any_first q h.rest) (subst (λ k. q k ≡ true) e t)
        | inr d ↦ or_right (q h.top.first) (any_first q h.rest) (elim h.case [
          | inl r ↦ absurd (d (let z : h.top.first ≡ 0 = r.first in omega arith))
          | inr w ↦
              let after : w.0 < p = w.1.after in
              let first : h.top.first ≡ suc w.0 = w.1.first in
              let to : p ≤ closing es f = g.to in
              let below : f ≤ w.0 = omega (arith, d) in
              subst (λ fs. any_first q fs ≡ true) (sym w.1.below)
              (holds_listed q n w.0 f (omega arith) (omega arith) (record { frame = g.frame; from = below; to = omega arith }) t)
        ])
      ])

  -- a frame encloses the one opened at i where it holds i
  encloses_holds : (i f : ℕ) → encloses es f (suc i) ≡ true → Holds i f
  encloses_holds i f e =
      let a = and_parts (is_frame es f) (nat_lt f (suc i) && nat_le (suc i) (closing es f)) e in
      let b = and_parts (nat_lt f (suc i)) (nat_le (suc i) (closing es f)) a.1 in
      let x = ltb-true f (suc i) b.0 in
      let y = leb-true (suc i) (closing es f) b.1 in
      record { frame = a.0; from = omega arith; to = omega arith }

  goes_on : (i f : ℕ) → opens (event_at es i) ≡ true → Holds i f → i < closing es f
  goes_on i zero t h = inside_opens es i t
  goes_on i (suc s) t h =
      let c = closed es wf s h.frame in
      let y : i ≤ partner es s = h.to in
      let apart : partner es s ≡ i → ⊥ = λ q. both_ways (returns (event_at es i)) (opens_not_returns (event_at es i) t) (subst (λ x. returns (event_at es x) ≡ true) q c.return) in
      omega (arith, apart)

  holds_encloses : (i f : ℕ) → opens (event_at es i) ≡ true → Holds i f → encloses es f (suc i) ≡ true
  holds_encloses i f t h =
      let x : f ≤ i = h.from in
      and_from (is_frame es f) (nat_lt f (suc i) && nat_le (suc i) (closing es f)) h.frame
      (and_from (nat_lt f (suc i)) (nat_le (suc i) (closing es f)) (lt-ltb f (suc i) (omega arith)) (le-leb (suc i) (closing es f) (goes_on i f t h)))

  none_listed : (q : ℕ → Bool) (i : ℕ) → opens (event_at es i) ≡ true → none_below (λ f. encloses es f (suc i) && q f) (suc i) ≡ not (any_first q (frames_at i))
  none_listed q i t = by (any_first q (frames_at i)) refl
    where
      l : i ≤ length es
      l = let z = inside_opens es i t in omega arith

      by : (b : Bool) → any_first q (frames_at i) ≡ b → none_below (λ f. encloses es f (suc i) && q f) (suc i) ≡ not (any_first q (frames_at i))
      by true e =
          let r = listed_holds q (suc i) i (omega arith) l e in
          let x : r.0 ≤ i = r.1.from in
          false_from_ne_true (none_below (λ f. encloses es f (suc i) && q f) (suc i)) (λ n.
          both_ways (encloses es r.0 (suc i) && q r.0) (none-true (λ f. encloses es f (suc i) && q f) (suc i) n r.0 (omega arith))
          (and_from (encloses es r.0 (suc i)) (q r.0) (holds_encloses i r.0 t r.1) r.2))
          ∙ sym (ap not e)
      by false e =
          none_from (λ f. encloses es f (suc i) && q f) (suc i) (λ f m. false_from_ne_true (encloses es f (suc i) && q f) (λ n.
          let both = and_parts (encloses es f (suc i)) (q f) n in
          both_ways (any_first q (frames_at i)) e (holds_listed q (suc i) i f (omega arith) l (encloses_holds i f both.0) both.1)))
          ∙ sym (ap not e)

  -- the marks of the frame opened at i
  pub top_site_is : (i : ℕ) → opens (event_at es i) ≡ true
      → is_top_site es (suc i) ≡ not (any_first (λ f. same_site (entered_by es f) (entered_by es (suc i))) (frames_at i))
  top_site_is i t = none_listed (λ f. same_site (entered_by es f) (entered_by es (suc i))) i t

  -- whether the innermost frame is outermost of its function
  pub outermost_is : (root i : ℕ) (h : ShapeAt i)
      → is_outermost es root h.top.first ≡ not (any_first (λ f. nat_eq (function_of es root f) (function_of es root h.top.first)) h.rest)
  outermost_is root i h = elim h.case [
    | inl r ↦
        subst (λ fs. is_outermost es root h.top.first ≡ not (any_first (λ f. nat_eq (function_of es root f) (function_of es root h.top.first)) fs)) (sym r.alone)
        (ap (λ g. is_outermost es root g) r.first)
    | inr w ↦
        subst (λ fs. is_outermost es root h.top.first ≡ not (any_first (λ f. nat_eq (function_of es root f) (function_of es root h.top.first)) fs)) (sym w.1.below)
        (subst (λ g. is_outermost es root g ≡ not (any_first (λ f. nat_eq (function_of es root f) (function_of es root g)) (frames_at w.0))) (sym w.1.first)
        (none_listed (λ f. nat_eq (function_of es root f) (function_of es root (suc w.0))) w.0 w.1.opened))
  ]
