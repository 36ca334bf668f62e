-- The events that the records of a trace spell.
use Rattle.std.proofs.Common.{◌≡◌, ℕ, zero, suc, ◌<◌, ◌≤◌, ◌^◌, List, [], ◌∷◌, length, map, Option, Some, None, Ok, Err, IfOk, refl, sym, ap, subst, ◌∙◌, arith}
use Rattle.std.specs.Option.{option_map}
use Rattle.std.specs.List.{slice_get}
use Rattle.std.proofs.lemmas.List.{length-map}
use Rattle.std.proofs.lemmas.Option.{slice_get-map, slice_get-get_or}
use Rattle.spp_event.specs.declared.records.Event.{Event}
use Rattle.spp_event.specs.declared.records.Event.TheVariants.{Strand, Call, Spawn, Ret, Sync}
use Rattle.spp_event.specs.declared.records.EventFault.{EventFault}
use Rattle.spp_event.specs.declared.records.EventFault.TheVariants.{Truncated}
use Rattle.spp_event.specs.Records.{IsEventOf}
use Rattle.spp_event.specs.Recordings.{Record, Recording, AreEventsOf, record_at}
use Rattle.spp_frame.specs.Nesting as nesting
use Rattle.spp_frame.specs.Nesting.{AreEvents}
use Rattle.spp_frame.proofs.Laws.{well_formed_are_events}
use Rattle.spp_dag.specs.Trace.{records, event_at, weight, weight_of}
use Rattle.spp_dag.specs.Limits.{IsSmall}

-- records spell one list of events
pub same_events : (es fs : List Event) → map {A = Event} {B = Record} (λ e. Ok e) es ≡ map (λ e. Ok e) fs → es ≡ fs
same_events [] [] h = refl
same_events [] (f ∷ fs) h = absurd (cc)
same_events (e ∷ es) [] h = absurd (cc)
same_events (e ∷ es) (f ∷ fs) h =
    let first : ◌≡◌ {A = Record} (Ok e) (Ok f) = cc in
    let rest : map {A = Event} {B = Record} (λ e. Ok e) es ≡ map (λ e. Ok e) fs = cc in
    let same : es ≡ fs = same_events es fs rest in
    let head : e ≡ f = cc in
    cc

pub event_is : (rs : List Record) (es : List Event) (i : ℕ) (e : Event) → AreEvents rs es → i < length rs → record_at rs i ≡ Ok e → event_at es i ≡ Some e
event_is rs es i e are l said =
    by (slice_get es i) refl
    (sym (slice_get-map (λ (x : Event). Ok x) es i) ∙ ap (λ (x : List Record). slice_get x i) (sym are) ∙ slice_get-get_or rs i (Err Truncated) l ∙ ap (λ (x : Record). Some x) said)
  where
    by : (o : Option Event) → slice_get es i ≡ o → option_map (λ (x : Event). let r : Record = Ok x in r) (slice_get es i) ≡ Some (Ok e) → slice_get es i ≡ Some e
    by None q h = absurd (let z : None ≡ Some (Ok e) = ap (λ (o : Option Event). option_map (λ (x : Event). let r : Record = Ok x in r) o) (sym q) ∙ h in cc)
    by (Some x) q h =
        let z : Some (Ok x) ≡ Some (Ok e) = ap (λ (o : Option Event). option_map (λ (y : Event). let r : Record = Ok y in r) o) (sym q) ∙ h in
        let w : x ≡ e = cc in
        q ∙ ap (λ (y : Event). Some y) w

no_fault : (rs : List Record) (es : List Event) (i : ℕ) (f : EventFault) → AreEvents rs es → i < length rs → record_at rs i ≡ Err f → ⊥
no_fault rs es i f are l said =
    by (slice_get es i)
    (sym (slice_get-map (λ (x : Event). Ok x) es i) ∙ ap (λ (x : List Record). slice_get x i) (sym are) ∙ slice_get-get_or rs i (Err Truncated) l ∙ ap (λ (x : Record). Some x) said)
  where
    by : (o : Option Event) → option_map (λ (x : Event). let r : Record = Ok x in r) o ≡ Some (Err f) → ⊥
    by None h = absurd cc
    by (Some x) h = absurd cc

pub no_fault_in : (trace : Recording) (i : ℕ) (f : EventFault) → nesting.IsWellFormed trace.records → i < length trace.records → record_at trace.records i ≡ Err f → ⊥
no_fault_in trace i f wf l said = let es = well_formed_are_events trace.records wf in no_fault trace.records es.0 i f es.1 l said

-- strands are numbers of 64 bits
pub weight_small : (sites funcs : ℕ) (e : Event) → IsEventOf sites funcs e → weight_of (Some e) < 2 ^ 64
weight_small sites funcs (Strand n) h = h
weight_small sites funcs (Call s f) h = omega arith
weight_small sites funcs (Spawn s f) h = omega arith
weight_small sites funcs Ret h = omega arith
weight_small sites funcs Sync h = omega arith

weights_small : (sites funcs : ℕ) (es : List Event) (k : ℕ) → (k < length es → IfOk (record_at (records es) k) (IsEventOf sites funcs))
    → weight es k < 2 ^ 64
weights_small sites funcs [] zero h = omega arith
weights_small sites funcs [] (suc k) h = omega arith
weights_small sites funcs (e ∷ es) zero h = weight_small sites funcs e (h (omega arith))
weights_small sites funcs (e ∷ es) (suc k) h = weights_small sites funcs es k (λ l. h (omega arith))

pub known_small : (rs : List Record) (sites funcs : ℕ) (es : List Event) → length rs ≤ 2 ^ 28 → rs ≡ records es
    → AreEventsOf sites funcs rs → IsSmall es
known_small rs sites funcs es few are h =
    let long : length rs ≡ length (records es) = ap (λ (l : List Record). length l) are in
    let same : length (records es) ≡ length es = length-map es (λ e. Ok e) in
    record {
      events = omega arith;
      strands = λ k. weights_small sites funcs es k (λ l. subst (λ x. IfOk (record_at x k) (IsEventOf sites funcs)) are (h k (omega arith)));
    }
