-- Lists that grow by one item at a time.
use Rattle.std.proofs.Common.{◌≡◌, ℕ, true, zero, suc, ◌+◌, ◌<◌, ◌^◌, List, [], ◌∷◌, ◌++◌, length, slice_get, get_or, take, map, Some, Ok, Err, refl, sym, ap, subst, ◌∙◌, arith, inl, inr}
use Rattle.std.proofs.lemmas.Bool.{cases_lt, both_ways}
use Rattle.std.proofs.lemmas.Option.{slice_get_past, get_or_from_slice_get}
use Rattle.std.proofs.lemmas.List.{take_more, map-append, get_or_append_left}
use Rattle.spp_event.specs.declared.records.Event.{Event}
use Rattle.spp_event.specs.declared.records.EventFault.TheVariants.{Truncated}
use Rattle.spp_event.specs.Records.{IsEventOf}
use Rattle.spp_event.specs.Recordings.{Record, record_at}
use Rattle.spp_maxplus.specs.State.{unburdened}
use Rattle.spp_dag.specs.Trace.{weight, weight_of, event_at, is_frame, closing, opens}
use Rattle.spp_dag.specs.Dag.{IsGreatest}
use Rattle.spp_dag.specs.Rows.{AreSpans}
use Rattle.spp_dag.proofs.EventsOfRecords.{weight_small}
use Rattle.spp_reference.specs.Dags.{Lists}

push_old : {X : Type 0} (xs ys : List X) (i : ℕ) → i < length xs → slice_get (xs ++ ys) i ≡ slice_get xs i
push_old [] ys i l = absurd (omega arith)
push_old (x ∷ xs) ys zero l = refl
push_old (x ∷ xs) ys (suc i) l = push_old xs ys i (omega arith)

push_new : {X : Type 0} (xs : List X) (y : X) → slice_get (xs ++ y ∷ []) (length xs) ≡ Some y
push_new [] y = refl
push_new (x ∷ xs) y = push_new xs y

pub push_length : {X : Type 0} (xs : List X) (y : X) → length (xs ++ y ∷ []) ≡ length xs + 1
push_length [] y = refl
push_length (x ∷ xs) y = let h = push_length xs y in omega arith

pub lists_none : {X : Type 0} (f : ℕ → X) → Lists 0 f []
lists_none f = (refl, λ i l. absurd (omega arith))

-- one more item
pub lists_more : {X : Type 0} (n : ℕ) (f : ℕ → X) (xs : List X) (y : X) → Lists n f xs → y ≡ f n → Lists (n + 1) f (xs ++ y ∷ [])
lists_more n f xs y h e =
    let len : length (xs ++ y ∷ []) ≡ n + 1 = push_length xs y ∙ ap (λ k. k + 1) h.0 in (
      len,
      λ i l. elim (cases_lt i n) [
        | inl m ↦ push_old xs (y ∷ []) i (omega (arith, h.0)) ∙ h.1 i m
        | inr m ↦ let q : length xs ≡ i = omega (arith, h.0) in let r : n ≡ i = omega arith in
            subst (λ k. slice_get (xs ++ y ∷ []) k ≡ Some (f i)) q (push_new xs y ∙ ap (λ z. Some z) (e ∙ ap f r))
      ],
    )

-- one record more is an event
pub event_more : (rs : List Record) (n : ℕ) (es : List Event) (e : Event) → n < length rs → record_at rs n ≡ Ok e → take n rs ≡ map (λ x. Ok x) es → take (n + 1) rs ≡ map (λ x. Ok x) (es ++ e ∷ [])
event_more rs n es e lt is so_far =
    take_more rs n (Err Truncated) lt
    ∙ ap (λ (r : Record). take n rs ++ r ∷ []) is
    ∙ ap (λ (l : List Record). l ++ Ok e ∷ []) so_far
    ∙ sym (map-append (λ x. Ok x) es (e ∷ []))

-- the strands stay small
pub weights_more : (sites funcs : ℕ) (es : List Event) (e : Event) → ((k : ℕ) → weight es k < 2 ^ 64) → IsEventOf sites funcs e → (k : ℕ) → weight (es ++ e ∷ []) k < 2 ^ 64
weights_more sites funcs es e h i k = elim (cases_lt k (length es)) [
  | inl l ↦ subst (λ x. weight_of x < 2 ^ 64) (sym (push_old es (e ∷ []) k l)) (h k)
  | inr g ↦ elim (cases_lt (length es) k) [
    | inl m ↦ subst (λ x. weight_of x < 2 ^ 64) (sym (slice_get_past (es ++ e ∷ []) k (omega (arith, push_length es e)))) (omega arith)
    | inr m ↦ (let q : length es ≡ k = omega arith in
        subst (λ x. weight_of x < 2 ^ 64) (sym (push_new es e) ∙ ap (slice_get (es ++ e ∷ [])) q) (weight_small sites funcs e i))
  ]
]

pub no_weights : (k : ℕ) → weight [] k < 2 ^ 64
no_weights zero = omega arith
no_weights (suc k) = omega arith

-- the spans of the first frames, and one more
pub spans_more : (es : List Event) (xs : List ℕ) (w n : ℕ) → length xs ≡ n
    → ((f : ℕ) → f < n → is_frame es f ≡ true → IsGreatest es unburdened f (closing es f) (get_or xs f 0))
    → (is_frame es n ≡ true → IsGreatest es unburdened n (closing es n) w)
    → (f : ℕ) → f < n + 1 → is_frame es f ≡ true → IsGreatest es unburdened f (closing es f) (get_or (xs ++ w ∷ []) f 0)
spans_more es xs w n e h k f l i = elim (cases_lt f n) [
  | inl m ↦ subst (λ v. IsGreatest es unburdened f (closing es f) v) (sym (get_or_append_left xs (w ∷ []) 0 f (omega (arith, e)))) (h f m i)
  | inr m ↦ (let q : n ≡ f = omega arith in
      let r : get_or (xs ++ w ∷ []) f 0 ≡ w = get_or_from_slice_get (xs ++ w ∷ []) f w 0 (ap (slice_get (xs ++ w ∷ [])) (sym q ∙ sym e) ∙ push_new xs w) in
      subst (λ v. IsGreatest es unburdened f (closing es f) v) (sym r)
      (subst (λ g. IsGreatest es unburdened g (closing es g) w) q (k (subst (λ g. is_frame es g ≡ true) (sym q) i))))
]

-- no frame begins behind the end
pub spans_all : (es : List Event) (xs : List ℕ) (n : ℕ) → n ≡ suc (length es)
    → ((f : ℕ) → f < n → is_frame es f ≡ true → IsGreatest es unburdened f (closing es f) (get_or xs f 0)) → AreSpans es (λ f. get_or xs f 0)
spans_all es xs n e h zero i = h zero (omega arith) i
spans_all es xs n e h (suc o) i = elim (cases_lt o (length es)) [
  | inl m ↦ h (suc o) (omega arith) i
  | inr m ↦ absurd (both_ways (opens (event_at es o)) (ap opens (slice_get_past es o m)) i)
]
