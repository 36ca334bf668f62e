-- Events that are counted.
use Rattle.std.proofs.Common.{◌≡◌, ℕ, suc, ◌+◌, ◌≤◌, ◌<◌, Bool, true, false, cond, ◌&&◌, not, List, length, Option, Some, Ok, Err, IsOk, refl, sym, ap, subst, ◌∙◌, arith}
use Rattle.std.proofs.lemmas.List.{length-map}
use Rattle.spp_event.specs.declared.records.Event.{Event}
use Rattle.spp_event.specs.Recordings.{Record, Recording, record_at}
use Rattle.spp_frame.specs.Nesting.{AreEvents, IsWellFormed}
use Rattle.spp_dag.specs.Trace.{event_at, records}
use Rattle.spp_dag.proofs.EventsOfRecords.{no_fault_in}
use Rattle.spp_advice.specs.declared.counting.SiteCounts.{SiteCounts}
use Rattle.spp_advice.specs.Counts.{calls_by, spawns_by, counts_before, with_event, AreFew}

-- a record of a well-formed trace is an event
pub is_read : (trace : Recording) → IsWellFormed trace.records → (i : ℕ) → i < length trace.records → IsOk (record_at trace.records i)
is_read trace wf i lt = by (record_at trace.records i) refl
  where
    by : (r : Record) → record_at trace.records i ≡ r → IsOk r
    by (Ok e) is = refl
    by (Err f) is = absurd (no_fault_in trace i f wf lt is)

-- one event more
pub counted_more : (es : List Event) (on : ℕ → Bool) (site i : ℕ) (e : Event) → event_at es i ≡ Some e
    → with_event e (on i) (on (suc i)) site (counts_before es on site i) ≡ counts_before es on site (suc i)
counted_more es on site i e is = ap with_some (sym is)
  where
    with_some : Option Event → SiteCounts
    with_some o = record {
      calls = (counts_before es on site i).calls + cond (calls_by site o) 1 0;
      spawns = (counts_before es on site i).spawns + cond (spawns_by site o) 1 0;
      past = (counts_before es on site i).past + cond (spawns_by site o && (on i && not (on (suc i)))) 1 0;
      into = (counts_before es on site i).into + cond (spawns_by site o && (on i && on (suc i))) 1 0;
    }

cond_few : (b : Bool) → cond b 1 0 ≤ 1
cond_few true = omega arith
cond_few false = omega arith

pub few_more : (e : Event) (here next : Bool) (site n : ℕ) (c : SiteCounts) → AreFew n c → AreFew (n + 1) (with_event e here next site c)
few_more e here next site n c h = record {
  calls = (let x = h.calls in let y = cond_few (calls_by site (Some e)) in omega arith);
  spawns = (let x = h.spawns in let y = cond_few (spawns_by site (Some e)) in omega arith);
  past = (let x = h.past in let y = cond_few (spawns_by site (Some e) && (here && not next)) in omega arith);
  into = (let x = h.into in let y = cond_few (spawns_by site (Some e) && (here && next)) in omega arith);
}

pub counted_next : (es : List Event) (on : ℕ → Bool) (site i j : ℕ) (e : Event) (here next : Bool) (old new : SiteCounts) → j ≡ suc i → here ≡ on i → next ≡ on j → event_at es i ≡ Some e
    → new ≡ with_event e here next site old → old ≡ counts_before es on site i → new ≡ counts_before es on site j
counted_next es on site i j e here next old new step a b at is was =
    is
    ∙ ap (λ (x : SiteCounts). with_event e here next site x) was
    ∙ ap (λ (x : Bool). with_event e x next site (counts_before es on site i)) a
    ∙ ap (λ (x : Bool). with_event e (on i) x site (counts_before es on site i)) (b ∙ ap on step)
    ∙ counted_more es on site i e at
    ∙ ap (counts_before es on site) (sym step)

pub few_next : (n m : ℕ) (e : Event) (here next : Bool) (site : ℕ) (old new : SiteCounts) → m ≡ n + 1 → new ≡ with_event e here next site old → AreFew n old → AreFew m new
few_next n m e here next site old new step is few =
    subst (λ (k : ℕ). AreFew k new) (sym step) (subst (λ (x : SiteCounts). AreFew (n + 1) x) (sym is) (few_more e here next site n old few))

pub long : (rs : List Record) (es : List Event) (n m : ℕ) → n ≤ m → m ≤ n → m ≡ length rs → AreEvents rs es → n ≡ length es
long rs es n m a b c are = let l : length rs ≡ length (records es) = ap (λ (x : List Record). length x) are in let k = length-map es (λ e. let r : Record = Ok e in r) in omega (arith, a, b, c, l, k)

pub marks_long : (rs : List Record) (es : List Event) (marks : List ℕ) → length marks ≡ length rs → AreEvents rs es → length marks ≡ length es
marks_long rs es marks e are = long rs es (length marks) (length marks) (omega arith) (omega arith) e are
