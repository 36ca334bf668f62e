-- Depth, partners and what lies within a frame, in a well-formed trace.
use Rattle.std.specs.List.{count_by}
use Rattle.std.specs.Option.{option_map}
use Rattle.std.proofs.lemmas.List.{take_all, length-map}
use Rattle.std.proofs.lemmas.List.Sums.{sum_by-cons}
use Rattle.spp_event.specs.Recordings.{Record}
use Rattle.spp_frame.specs.Nesting.{opens_frame, closes_frame, wrong}
use Rattle.std.specs.Prelude.{slice_get}
use Rattle.std.proofs.Common.{[], ◌∷◌, ◌+◌, ◌-◌, cond, ap, ap₂, take, Ok, ◌≡◌, ℕ, zero, suc, ◌≤◌, ◌<◌, Bool, true, false, refl, arith, sym, ◌∙◌, subst, ◌⊎◌, inl, inr, List, length, Option, Some, None, nat_eq, ◌&&◌}
use Rattle.std.proofs.lemmas.Bool.{cond-true, cond-false, cases_lt, both_ways, cases_Bool, and_parts, and_from, eqb-true, eq-eqb}
use Rattle.std.proofs.lemmas.Option.{slice_get-map, slice_get_within, slice_get_cases, slice_get_past}
use Rattle.spp_event.specs.declared.records.Event.{Event}
use Rattle.spp_event.specs.declared.records.Event.TheVariants.{Strand, Call, Spawn, Ret, Sync}
use Rattle.spp_dag.proofs.Ranges.{count_below}
use Rattle.spp_dag.specs.Trace.{records, event_at, opens, returns, depth, IsWellFormed, partner}
use Rattle.spp_dag.proofs.Ranges.{count_below-true, count_below-false, IsLeast, least_from_spec, least_le}

pub opens_not_returns : (e : Option Event) → opens e ≡ true → returns e ≡ false
opens_not_returns None h = refl
opens_not_returns (Some (Strand n)) h = refl
opens_not_returns (Some (Call s f)) h = refl
opens_not_returns (Some (Spawn s f)) h = refl
opens_not_returns (Some Ret) h = cc
opens_not_returns (Some Sync) h = refl

pub returns_not_opens : (e : Option Event) → returns e ≡ true → opens e ≡ false
returns_not_opens None h = refl
returns_not_opens (Some (Strand n)) h = refl
returns_not_opens (Some (Call s f)) h = cc
returns_not_opens (Some (Spawn s f)) h = cc
returns_not_opens (Some Ret) h = refl
returns_not_opens (Some Sync) h = refl

-- where there is an event, the position is not the end
pub inside : (es : List Event) (i : ℕ) (e : Event) → event_at es i ≡ Some e → i < length es
inside es i e h = slice_get_within es i e h

pub slice_get_no : (es : List Event) (i : ℕ) → i < length es → event_at es i ≡ None → ⊥
slice_get_no es i l h = elim (slice_get_cases es i).1 [
  | inl x ↦ let q : Some x.0 ≡ None = sym x.2 ∙ h in cc
  | inr y ↦ absurd (let z = y.0 in omega arith)
]

pub inside_opens : (es : List Event) (i : ℕ) → opens (event_at es i) ≡ true → i < length es
inside_opens es i h = elim (cases_lt i (length es)) [
  | inl l ↦ l
  | inr g ↦ let q = subst (λ e. opens e ≡ true) (slice_get_past es i g) h in cc
]

pub inside_returns : (es : List Event) (i : ℕ) → returns (event_at es i) ≡ true → i < length es
inside_returns es i h = elim (cases_lt i (length es)) [
  | inl l ↦ l
  | inr g ↦ let q = subst (λ e. returns e ≡ true) (slice_get_past es i g) h in cc
]

-- ---- the depth is that of the records

one_more : (p : ℕ → Bool) (n : ℕ) → count_below p (suc n) ≡ count_below p n + cond (p n) 1 0
one_more p n = elim (cases_Bool (p n)) [
  | inl t ↦
      let a : count_below p (suc n) ≡ suc (count_below p n) = count_below-true p n t in
      let b : cond (p n) 1 0 ≡ 1 = cond-true {A = ℕ} (p n) 1 0 t in
      omega (arith, a, b)
  | inr t ↦
      let a : count_below p (suc n) ≡ count_below p n = count_below-false p n t in
      let b : cond (p n) 1 0 ≡ 0 = cond-false {A = ℕ} (p n) 1 0 t in
      omega (arith, a, b)
]

first_and_rest : (p : ℕ → Bool) (n : ℕ) → count_below p (suc n) ≡ cond (p 0) 1 0 + count_below (λ k. p (suc k)) n
first_and_rest p zero = let a = one_more p 0 in omega arith
first_and_rest p (suc n) =
    let a = one_more p (suc n) in
    let b = first_and_rest p n in
    let c = one_more (λ k. p (suc k)) n in
    omega arith

-- the records that pass among the first i, where an event passes as its record does
counted : (p : Record → Bool) (q : Option Event → Bool) → q None ≡ false → ((e : Event) → q (Some e) ≡ p (Ok e))
    → (es : List Event) (i : ℕ) → count_by p (take i (records es)) ≡ count_below (λ k. q (event_at es k)) i
counted p q none same es zero = refl
counted p q none same [] (suc i) =
    let a : count_below (λ k. q (event_at [] k)) (suc i) ≡ count_below (λ k. q (event_at [] k)) i = count_below-false (λ k. q (event_at [] k)) i (ap q (slice_get_past [] i (omega arith)) ∙ none) in
    let b : count_by p (take i (records [])) ≡ count_below (λ k. q (event_at [] k)) i = counted p q none same [] i in
    let d : count_by p (take i (records [])) ≡ count_by p [] = ap (λ (l : List Record). count_by p l) (take_all i [] (omega arith)) in
    sym d ∙ b ∙ sym a
counted p q none same (x ∷ es) (suc i) =
    let a : count_below (λ k. q (event_at (x ∷ es) k)) (suc i) ≡ cond (q (Some x)) 1 0 + count_below (λ k. q (event_at es k)) i = first_and_rest (λ k. q (event_at (x ∷ es) k)) i in
    let b : count_by p (take i (records es)) ≡ count_below (λ k. q (event_at es k)) i = counted p q none same es i in
    let c : count_by p (take (suc i) (records (x ∷ es))) ≡ cond (p (Ok x)) 1 0 + count_by p (take i (records es)) = sum_by-cons (λ (r : Record). cond (p r) 1 0) (Ok x) (take i (records es)) in
    c ∙ ap₂ (λ (m n : ℕ). m + n) (ap (λ b. cond b 1 0) (sym (same x))) b ∙ sym a

opens_as : (e : Event) → opens (Some e) ≡ opens_frame (Ok e)
opens_as (Strand n) = refl
opens_as (Call s f) = refl
opens_as (Spawn s f) = refl
opens_as Ret = refl
opens_as Sync = refl

returns_as : (e : Event) → returns (Some e) ≡ closes_frame (Ok e)
returns_as (Strand n) = refl
returns_as (Call s f) = refl
returns_as (Spawn s f) = refl
returns_as Ret = refl
returns_as Sync = refl

-- the opens less the returns before i
pub depth_counts : (es : List Event) (i : ℕ) → depth es i ≡ count_below (λ k. opens (event_at es k)) i - count_below (λ k. returns (event_at es k)) i
depth_counts es i =
    let a : count_by opens_frame (take i (records es)) ≡ count_below (λ k. opens (event_at es k)) i = counted opens_frame opens refl opens_as es i in
    let b : count_by closes_frame (take i (records es)) ≡ count_below (λ k. returns (event_at es k)) i = counted closes_frame returns refl returns_as es i in
    omega arith

pub record_is : (es : List Event) (i : ℕ) (o : Option Event) → event_at es i ≡ o → slice_get (records es) i ≡ option_map (λ (e : Event). Ok e) o
record_is es i o e = slice_get-map (λ (e : Event). Ok e) es i ∙ ap (λ (x : Option Event). option_map (λ (e : Event). Ok e) x) e

right_return : (d : ℕ) → wrong (Some (Ok Ret)) d ≡ None → 0 < d
right_return zero e = cc
right_return (suc d) e = omega arith

right_end : (d : ℕ) → wrong None d ≡ None → d ≡ 0
right_end zero e = refl
right_end (suc d) e = cc

pub is_return : (e : Option Event) → returns e ≡ true → e ≡ Some Ret
is_return None h = cc
is_return (Some (Strand n)) h = cc
is_return (Some (Call s f)) h = cc
is_return (Some (Spawn s f)) h = cc
is_return (Some Ret) h = refl
is_return (Some Sync) h = cc

-- a return stands where more than the root is open
pub open_at_return : (es : List Event) → IsWellFormed es → (i : ℕ) → returns (event_at es i) ≡ true → 0 < depth es i
open_at_return es wf i t =
    let n : length (records es) ≡ length es = length-map es (λ (e : Event). Ok e) in
    let l = inside_returns es i t in
    let r : slice_get (records es) i ≡ Some (Ok Ret) = record_is es i (Some Ret) (is_return (event_at es i) t) in
    right_return (depth es i) (ap (λ (o : Option Record). wrong o (depth es i)) (sym r) ∙ wf i (omega arith))

-- only the root is open at the end
pub closed_at_end : (es : List Event) → IsWellFormed es → depth es (length es) ≡ 0
closed_at_end es wf =
    let n : length (records es) ≡ length es = length-map es (λ (e : Event). Ok e) in
    let r : slice_get (records es) (length es) ≡ None = slice_get_past (records es) (length es) (omega arith) in
    right_end (depth es (length es)) (ap (λ (o : Option Record). wrong o (depth es (length es))) (sym r) ∙ wf (length es) (omega arith))

abbrev pub closes : List Event → ℕ → ℕ → Bool
closes es i j = returns (event_at es j) && nat_eq (depth es (suc j)) (depth es i)

pub partner_spec : (es : List Event) (i : ℕ) → i < length es → IsLeast (closes es i) (suc i) (length es) (partner es i)
partner_spec es i h = least_from_spec (closes es i) (suc i) (length es) h

module _ (es : List Event) (wf : IsWellFormed es) where
  pub balanced : (i : ℕ) → count_below (λ k. returns (event_at es k)) i ≤ count_below (λ k. opens (event_at es k)) i
  balanced zero = omega arith
  balanced (suc i) =
      let o : ℕ → Bool = λ k. opens (event_at es k) in
      let r : ℕ → Bool = λ k. returns (event_at es k) in
      let h = balanced i in
      elim (cases_Bool (r i)) [
        | inl t ↦
            let room : 0 < depth es i = open_at_return es wf i t in
            let counts = depth_counts es i in
            let a = count_below-true r i t in
            let b = count_below-false o i (returns_not_opens (event_at es i) t) in
            omega arith
        | inr n ↦
            let a = count_below-false r i n in
            elim (cases_Bool (o i)) [
              | inl t ↦ let b = count_below-true o i t in omega arith
              | inr m ↦ let b = count_below-false o i m in omega arith
            ]
      ]

  pub depth-opens : (i : ℕ) → opens (event_at es i) ≡ true → depth es (suc i) ≡ suc (depth es i)
  depth-opens i t =
      let counts = depth_counts es i in
      let later = depth_counts es (suc i) in
      let a = count_below-true (λ k. opens (event_at es k)) i t in
      let b = count_below-false (λ k. returns (event_at es k)) i (opens_not_returns (event_at es i) t) in
      omega (arith, balanced i)

  pub depth-returns : (i : ℕ) → returns (event_at es i) ≡ true → suc (depth es (suc i)) ≡ depth es i
  depth-returns i t =
      let room : 0 < depth es i = open_at_return es wf i t in
      let counts = depth_counts es i in
      let later = depth_counts es (suc i) in
      let a = count_below-false (λ k. opens (event_at es k)) i (returns_not_opens (event_at es i) t) in
      let b = count_below-true (λ k. returns (event_at es k)) i t in
      omega (arith, balanced i)

  pub depth-same : (i : ℕ) → opens (event_at es i) ≡ false → returns (event_at es i) ≡ false → depth es (suc i) ≡ depth es i
  depth-same i n m =
      let counts = depth_counts es i in
      let later = depth_counts es (suc i) in
      let a = count_below-false (λ k. opens (event_at es k)) i n in
      let b = count_below-false (λ k. returns (event_at es k)) i m in
      omega arith

  -- one event lowers the depth by at most one, and only a return does
  pub depth_falls : (i : ℕ) → depth es i ≤ depth es (suc i) ⊎ ((returns (event_at es i) ≡ true) × (depth es i ≡ suc (depth es (suc i))))
  depth_falls i = elim (cases_Bool (returns (event_at es i))) [
    | inl t ↦ inr (t, sym (depth-returns i t))
    | inr n ↦ elim (cases_Bool (opens (event_at es i))) [
      | inl t ↦ let a = depth-opens i t in inl (omega arith)
      | inr m ↦ let a = depth-same i m n in inl (omega arith)
    ]
  ]

  -- within a frame it is deeper than outside
  pub deeper : (o k : ℕ) → opens (event_at es o) ≡ true → o < k → k ≤ partner es o → depth es o < depth es k
  deeper o zero t a b = absurd (omega arith)
  deeper o (suc k) t a b =
      elim (cases_lt o k) [
        | inl l ↦
            let h : depth es o < depth es k = deeper o k t l (omega arith) in
            let spec = partner_spec es o (inside_opens es o t) in
            elim (depth_falls k) [
              | inl up ↦ omega arith
              | inr down ↦
                  elim (cases_lt (depth es o) (depth es (suc k))) [
                    | inl d ↦ d
                    | inr e ↦
                        let same : nat_eq (depth es (suc k)) (depth es o) ≡ true = eq-eqb (depth es (suc k)) (depth es o) (let q : depth es (suc k) ≡ depth es o = omega (arith, down.1) in q) in
                        absurd (both_ways (closes es o k) (spec.before k l (omega arith)) (and_from _ _ down.0 same))
                  ]
            ]
        | inr g ↦
            let q : o ≡ k = omega arith in
            let d = depth-opens o t in
            subst (λ x. depth es o < depth es (suc x)) q (let r : depth es o < depth es (suc o) = omega arith in r)
      ]

  pub record Closed (o : ℕ) : Type 0 where
    pub after : o < partner es o
    pub within : partner es o < length es
    pub return : returns (event_at es (partner es o)) ≡ true
    pub depth_after : depth es (suc (partner es o)) ≡ depth es o
    pub depth_at : depth es (partner es o) ≡ suc (depth es o)

  pub closed : (o : ℕ) → opens (event_at es o) ≡ true → Closed o
  closed o t =
      let spec = partner_spec es o (inside_opens es o t) in
      let lower : suc o ≤ partner es o = spec.lower in
      let within : partner es o < length es = elim (cases_lt (partner es o) (length es)) [
        | inl l ↦ l
        | inr g ↦
            let q : partner es o ≡ length es = omega (arith, spec.upper) in
            let d = deeper o (partner es o) t lower (let z : partner es o ≤ partner es o = omega arith in z) in
            let e = subst (λ x. depth es o < depth es x) q d in
            absurd (omega (arith, closed_at_end es wf))
      ] in
      let both = and_parts _ _ (spec.passes within) in
      let after = eqb-true _ _ both.1 in
      let down = depth-returns (partner es o) both.0 in
      record {
        after = lower;
        within = within;
        return = both.0;
        depth_after = after;
        depth_at = omega arith;
      }

  -- a return in a frame, at the depth just inside it, closes it
  pub partner_at : (o k : ℕ) → opens (event_at es o) ≡ true → o < k → k ≤ partner es o → returns (event_at es k) ≡ true → depth es k ≡ suc (depth es o) → partner es o ≡ k
  partner_at o k t a b r d =
      let down = depth-returns k r in
      let same : nat_eq (depth es (suc k)) (depth es o) ≡ true = eq-eqb _ _ (let q : depth es (suc k) ≡ depth es o = omega arith in q) in
      let c = least_le (closes es o) (suc o) (length es) k a (inside_returns es k r) (and_from _ _ r same) in
      omega arith
