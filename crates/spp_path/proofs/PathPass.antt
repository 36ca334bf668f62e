-- The pass over a trace that is known to be well-formed: before each event it has the rows so far, and the weights of the
-- open frames.
use Rattle.std.proofs.Common.{◌≡◌, ℕ, suc, ◌<◌, ◌≤◌, ◌^◌, false, List, length, Some, Ok, refl, sym, ap, subst, ◌∙◌, arith}
use Rattle.std.proofs.lemmas.List.{length-map}
use Rattle.spp_event.specs.declared.records.Event.{Event}
use Rattle.spp_event.specs.declared.records.Event.TheVariants.{Strand, Call, Spawn, Ret, Sync}
use Rattle.spp_event.specs.Recordings.{Record, Recording, AreEventsOf}
use Rattle.spp_frame.specs.Nesting as nesting
use Rattle.spp_frame.specs.Nesting.{AreEvents}
use Rattle.spp_frame.proofs.Laws.{well_formed_are_events}
use Rattle.spp_maxplus.specs.declared.state.Burdens.{Burdens}
use Rattle.spp_maxplus.specs.State.{unburdened}
use Rattle.spp_dag.specs.Trace.{spawns, IsWellFormed}
use Rattle.spp_dag.specs.Dag.{IsPath}
use Rattle.spp_dag.specs.Limits.{IsSmall}
use Rattle.spp_dag.specs.Rows.{AreSpans}
use Rattle.spp_dag.proofs.EventsOfRecords.{event_is, known_small}
use Rattle.spp_dag.proofs.Profiles.{spans_law}
use Rattle.spp_dag.proofs.Ties.{path_exists}
use Rattle.spp_path.specs.declared.rows.EnteredFrame.{EnteredFrame}
use Rattle.spp_path.specs.declared.spans.OpenSpan.{OpenSpan}
use Rattle.spp_path.specs.Entered.{AreEnteredIn, is_next, left_after}
use Rattle.spp_path.specs.Spans as lean
use Rattle.spp_path.specs.Spans.{CanRun, OnBelow}
use Rattle.spp_path.specs.Trails.{CanSkip}
use Rattle.spp_path.specs.Rows.{Told, leave_told, OnTop, CanAdd, CanReturn, IsReturned, IsRead}
use Rattle.spp_path.proofs.OpenWeights.{Standing, standing_next, after_event, top_close, ClosesIn, closing_is, can_run, can_return as can_return_span, close_fits}
use Rattle.spp_path.proofs.Running.{entered_on}
use Rattle.spp_path.proofs.EnteredLists.{past_other, next_is, left_is}
use Rattle.spp_path.proofs.Sites.{trace_enters}
use Rattle.spp_path.proofs.Events.{StrandDone, SyncDone, CallDone, SpawnDone, HasFirst}
use Rattle.spp_path.proofs.Summed.{Summed, strand_next, sync_next, call_next, spawn_next, return_next}
use Rattle.spp_path.proofs.Summing.{can_add, can_skip, has_first, can_return}

-- before the event at i the pass, which began at `from`, has t, for each path of which P is so; the machine bears the
-- burdens `eb`
abbrev pub Kept : Recording → Burdens → ℕ → (List Event → Burdens → Type 0) → ℕ → Told → Type 0
Kept trace eb from P i t = (es : List Event) → AreEvents trace.records es → (wf : IsWellFormed es) (span : ℕ → ℕ) (fs : AreSpans es span)
    (bd : Burdens) → P es bd → (rest : List ℕ) (path : IsPath es bd 0 (length es) rest)
    → Summed es wf trace.root eb span fs bd rest path from i t

-- and the weights of the open frames
abbrev pub Weighed : Recording → Burdens → ℕ → List OpenSpan → Type 0
Weighed trace eb i s = (es : List Event) → AreEvents trace.records es → Standing es trace.root eb i s

-- and these spawns of entered children are left, of those before `end`
abbrev pub Left : Recording → (List Event → Burdens → Type 0) → ℕ → ℕ → List ℕ → Type 0
Left trace P end i xs = (es : List Event) → AreEvents trace.records es → (bd : Burdens) → P es bd → AreEnteredIn es bd i end xs

-- it is so of the path under these burdens
abbrev pub IsRight : Recording → (List Event → Burdens → Type 0) → Burdens → Type 0
IsRight trace P bd = (es : List Event) → AreEvents trace.records es → P es bd

-- ---- the trace

-- what a reader says of the trace
pub record Known (trace : Recording) : Type 0 where
  pub formed : nesting.IsWellFormed trace.records
  pub short : length trace.records ≤ 268435456
  pub few : length trace.sites ≤ 65536
  pub events : AreEventsOf (length trace.sites) (length trace.funcs) trace.records

-- the events of a well-formed trace, the spans of its frames, and its path under some burdens
pub record Given (trace : Recording) (bd : Burdens) : Type 0 where
  pub es : List Event
  pub are : AreEvents trace.records es
  pub wf : IsWellFormed es
  pub small : IsSmall es
  pub span : ℕ → ℕ
  pub fs : AreSpans es span
  pub rest : List ℕ
  pub path : IsPath es bd 0 (length es) rest

pub given : (trace : Recording) (bd : Burdens) → Known trace → Given trace bd
given trace bd known =
    let r = well_formed_are_events trace.records known.formed in
    let w : IsWellFormed r.0 = subst (λ (x : List Record). nesting.IsWellFormed x) r.1 known.formed in
    let s = (spans_law r.0 w).0 in
    let p = path_exists r.0 w bd 0 refl in
    record {
      es = r.0;
      are = r.1;
      wf = w;
      small = known_small trace.records (length trace.sites) (length trace.funcs) r.0 known.short r.1 known.events;
      span = s.0;
      fs = s.1;
      rest = p.0;
      path = p.1;
    }

pub events_len : (trace : Recording) (es : List Event) → AreEvents trace.records es → length trace.records ≡ length es
events_len trace es are = ap (λ (x : List Record). length x) are ∙ length-map es (λ e. Ok e)

module _ (trace : Recording) (known : Known trace) (eb : Burdens) (i : ℕ) where
  -- ---- the weights

  module _ (s : List OpenSpan) (at : Weighed trace eb i s) where
    u : Given trace unburdened
    u = given trace unburdened known

    pub ready_run : (n : ℕ) → i < length trace.records → IsRead trace i (Strand n) → lean.OnTop (CanRun n) s
    ready_run n l r =
        let m = events_len trace u.es u.are in
        can_run u.es u.wf trace.root eb i n s (omega arith) u.small r.1 (at u.es u.are)

    pub ready_close : i < length trace.records → IsRead trace i Ret → (v : ℕ) → v ≡ top_close s → OnBelow (lean.CanReturn v) s
    ready_close l r v is =
        subst (λ n. OnBelow (lean.CanReturn n) s) (sym is)
        (can_return_span u.es u.wf trace.root eb i s u.small (event_is trace.records u.es i Ret u.are l r.0) (at u.es u.are))

    -- the weights after an event
    pub next_weighed : (e : Event) (new : List OpenSpan) → i < length trace.records → IsRead trace i e → new ≡ after_event e s → Weighed trace eb (suc i) new
    next_weighed e new l r same es are =
        let w : IsWellFormed es = subst (λ (x : List Record). nesting.IsWellFormed x) are known.formed in
        standing_next es w trace.root eb i e s new (event_is trace.records es i e are l r.0) (at es are) same

  -- ---- the rows

  module _ (from : ℕ) (begun : from ≤ i) (P : List Event → Burdens → Type 0) (b : Burdens) (right : IsRight trace P b) (t : Told) (at : Kept trace eb from P i t) where
    abbrev g : Given trace b
    g = given trace b known

    here : Summed g.es g.wf trace.root eb g.span g.fs b g.rest g.path from i t
    here = at g.es g.are g.wf g.span g.fs b (right g.es g.are) g.rest g.path

    pub ready_add : (n : ℕ) → i < length trace.records → IsRead trace i (Strand n) → CanAdd n t
    ready_add n l r = can_add g.es g.wf trace.root eb g.span g.fs b g.rest g.path from i n (let z = known.short in omega arith) r.1 t here

    pub ready_skip : i < length trace.records → CanSkip t.trail
    ready_skip l = can_skip g.es g.wf trace.root eb g.span g.fs b g.rest g.path from i (let z = known.short in omega arith) t here

    -- the innermost entered frame
    abbrev first_in : (f : EnteredFrame) × HasFirst f t
    first_in = has_first g.es g.wf trace.root eb g.span g.fs b g.rest g.path from i t here

    on_top : (Q : EnteredFrame → Type 0) → Q first_in.0 → OnTop Q t.frames
    on_top Q h = subst (OnTop Q) (sym first_in.1.1) h

    from_top : (Q : EnteredFrame → Type 0) → OnTop Q t.frames → Q first_in.0
    from_top Q h = subst (OnTop Q) first_in.1.1 h

    pub next_strand : (n : ℕ) (new : Told) → i < length trace.records → IsRead trace i (Strand n) → StrandDone n t new → Kept trace eb from P (suc i) new
    next_strand n new l r d es are wf span fs bd entered rest path =
        strand_next es wf trace.root eb span fs bd rest path from i begun n (event_is trace.records es i (Strand n) are l r.0) r.1 t new (at es are wf span fs bd entered rest path) d

    pub next_sync : (new : Told) → i < length trace.records → IsRead trace i Sync → SyncDone t new → Kept trace eb from P (suc i) new
    next_sync new l r d es are wf span fs bd entered rest path =
        sync_next es wf trace.root eb span fs bd rest path from i begun (event_is trace.records es i Sync are l r.0) t new (at es are wf span fs bd entered rest path) d

    pub next_call : (site func : ℕ) (new : Told) → i < length trace.records → IsRead trace i (Call site func) → CallDone site func t new → Kept trace eb from P (suc i) new
    next_call site func new l r d es are wf span fs bd entered rest path =
        call_next es wf trace.root eb span fs bd rest path from i begun site func (event_is trace.records es i (Call site func) are l r.0) t new (at es are wf span fs bd entered rest path) d

    pub next_spawn : (site func : ℕ) (new : Told) → i < length trace.records → IsRead trace i (Spawn site func)
        → (end : ℕ) (xs : List ℕ) → i < end → Left trace P end i xs
        → SpawnDone (is_next i xs) site func t new → Kept trace eb from P (suc i) new
    next_spawn site func new l r end xs inside left d es are wf span fs bd entered rest path =
        let is = event_is trace.records es i (Spawn site func) are l r.0 in
        let a = next_is es bd end i xs inside (left es are bd entered) in
        let o = entered_on es wf bd rest path i (ap spawns is) in
        spawn_next es wf trace.root eb span fs bd rest path from i begun (is_next i xs) site func is
        (λ e. o.0 (a.0 e), λ on. a.1 (o.1 on)) t new (at es are wf span fs bd entered rest path) d

    -- ---- with the weights

    module _ (o : List OpenSpan) (weighed : Weighed trace eb i o) (v : ℕ) (is_top : v ≡ top_close o) where
      closes : (es : List Event) → AreEvents trace.records es → (wf : IsWellFormed es) → i ≤ length es → ClosesIn es trace.root eb i v
      closes es are wf l f fs w e = closing_is es wf trace.root eb i o l (weighed es are) f fs w e ∙ sym is_top

      light : i ≤ length g.es → v < 2 ^ 92
      light l = let z = close_fits g.es g.wf trace.root eb i o l g.small (weighed g.es g.are) in omega arith

      pub ready_return : i < length trace.records → IsRead trace i Ret → t.trail.skipped ≡ 0 → OnTop (λ f. CanReturn f v t) t.frames
      ready_return l r z =
          let n = events_len trace g.es g.are in
          let upto : i ≤ length g.es = omega arith in
          on_top (λ f. CanReturn f v t)
          (can_return g.es g.wf trace.root eb g.span g.fs b g.rest g.path from (trace_enters 65536 (length trace.sites) (length trace.funcs) known.few trace.records known.events g.es g.are)
          i begun (event_is trace.records g.es i Ret g.are l r.0) (let y = known.short in omega arith) v (closes g.es g.are g.wf upto) (light upto) first_in.0 t first_in.1 here z)

      pub next_return : (new : Told) → i < length trace.records → IsRead trace i Ret
          → (t.trail.skipped ≡ 0 → OnTop (λ f. IsReturned f v t new) t.frames) × (0 < t.trail.skipped → new ≡ leave_told t) → Kept trace eb from P (suc i) new
      next_return new l r d es are wf span fs bd entered rest path =
          let can = ready_return l r in
          let n = events_len trace es are in
          let m = events_len trace g.es g.are in
          return_next es wf trace.root eb span fs bd rest path from i begun (event_is trace.records es i Ret are l r.0) (let y = known.short in omega arith) v (closes es are wf (omega arith)) (light (omega arith))
          first_in.0 t new first_in.1 (at es are wf span fs bd entered rest path)
          (λ z. (from_top (λ f. CanReturn f v t) (can z)).deep) (λ z. from_top (λ f. IsReturned f v t new) (d.0 z), d.1)

-- ---- the spawns that are left

module _ (trace : Recording) (P : List Event → Burdens → Type 0) (end i : ℕ) (xs : List ℕ) (left : Left trace P end i xs) where
  pub next_left : (e : Event) → i < length trace.records → IsRead trace i e → spawns (Some e) ≡ false → Left trace P end (suc i) xs
  next_left e l r n es are bd p = past_other es bd end i xs (ap spawns (event_is trace.records es i e are l r.0) ∙ n) (left es are bd p)

  pub next_taken : i < end → Left trace P end (suc i) (left_after i xs)
  next_taken l es are bd p = left_is es bd end i xs l (left es are bd p)
