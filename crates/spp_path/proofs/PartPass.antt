-- The pass over a part of a trace that is known to be well-formed: before each event it has, with the frames outside, the
-- rows of the path so far, and the weights of the open frames.
use Rattle.std.proofs.Common.{◌≡◌, ℕ, suc, ◌+◌, ◌<◌, ◌≤◌, List, [], ◌∷◌, ◌++◌, length, Option, Result, Ok, Err, IfOk, refl, sym, ap, subst, ◌∙◌, arith}
use Rattle.spp_event.specs.declared.records.Event.{Event}
use Rattle.spp_event.specs.declared.records.Event.TheVariants.{Strand, Call, Spawn, Ret, Sync}
use Rattle.std.specs.Prelude.{IsOk}
use Rattle.spp_event.specs.Records.{IsEventOf}
use Rattle.spp_event.specs.Recordings.{Record, Recording, InLimits, AreEventsOf, record_at}
use Rattle.spp_frame.specs.Nesting as nesting
use Rattle.spp_frame.specs.Nesting.{AreEvents}
use Rattle.spp_maxplus.specs.declared.state.Burdens.{Burdens}
use Rattle.spp_dag.specs.declared.stack.EntryFrame.{EntryFrame}
use Rattle.spp_dag.specs.Limits.{IsSmall}
use Rattle.spp_dag.specs.Choices.{IsEntry}
use Rattle.spp_dag.proofs.EventsOfRecords.{known_small, no_fault_in, same_events}
use Rattle.spp_stack.specs.Chain.{StackOf, HasFrames}
use Rattle.spp_path.specs.declared.rows.EnteredFrame.{EnteredFrame}
use Rattle.spp_path.specs.declared.spans.OpenSpan.{OpenSpan}
use Rattle.spp_path.specs.declared.trail.Trail.{Trail}
use Rattle.spp_path.specs.Entered.{is_next}
use Rattle.spp_path.specs.Flags.{AreFlags, flags_of}
use Rattle.spp_path.specs.Outside.{HasEntry, entered_span, entered_spans, path_frames, IsBegun, IsOutside, IsReached}
use Rattle.spp_path.specs.Parts.{GoesIn}
use Rattle.spp_path.specs.Rows.{Told, OnTop, IsOpen, CanAdd, CanReturn, IsRead}
use Rattle.spp_path.specs.Trails.{CanSkip}
use Rattle.spp_path.specs.Spans as lean
use Rattle.spp_path.specs.Spans.{HasOpen, CanRun, OnBelow}
use Rattle.spp_path.proofs.Beginning.{with_outside, begun_summed}
use Rattle.spp_path.proofs.Events.{StrandDone, SyncDone, CallDone, SpawnDone}
use Rattle.spp_path.proofs.Lifted.{strand_lifted, call_lifted, spawn_lifted, sync_lifted, Returned, return_lifted, can_add_below, can_return_below, top_same, event_lifted, can_run_below, can_close_below}
use Rattle.spp_path.proofs.OpenWeights.{after_event, top_close}
use Rattle.spp_path.proofs.PathPass.{Kept, Weighed, Left, IsRight, Known, events_len, ready_run, ready_close, next_weighed, ready_add, ready_skip, ready_return, next_strand, next_sync, next_call, next_spawn, next_return}
use Rattle.spp_path.proofs.Reaching.{frames_one}

-- before the event at i these frames are outside, and with them the pass has the rows so far
pub record RowsAt (trace : Recording) (eb : Burdens) (from : ℕ) (P : List Event → Burdens → Type 0) (i : ℕ) (outside : Option StackOf) (t : Told) : Type 0 where
  pub hs : List EntryFrame
  pub are : IsOutside outside hs
  pub some : IsOpen t
  pub kept : Kept trace eb from P i (with_outside (path_frames hs) t)

-- and these, with which it has the weights
pub record SpansAt (trace : Recording) (eb : Burdens) (i : ℕ) (outside : Option StackOf) (s : List OpenSpan) : Type 0 where
  pub gs : List EntryFrame
  pub are : IsOutside outside gs
  pub some : HasOpen s
  pub weighed : Weighed trace eb i (s ++ entered_spans gs)

-- so goes the path
abbrev pub Goes : ℕ → ℕ → StackOf → StackOf → Trail → List ℕ → List Event → Burdens → Type 0
Goes first end all live trail spawns es bd = GoesIn es bd first end all live trail spawns

-- ---- the beginning

pub known_in : (trace : Recording) (eb : Burdens) (first : ℕ) (all : StackOf) → HasEntry trace eb first all → InLimits trace → AreEventsOf (length trace.sites) (length trace.funcs) trace.records → Known trace
known_in trace eb first all stands limits events = record {
  formed = subst (λ (rs : List Record). nesting.IsWellFormed rs) (sym stands.1) stands.2;
  short = limits.events;
  few = limits.sites;
  events = events;
}

-- where a part is told to begin at n
pub read_at : (trace : Recording) (first n k : ℕ) (e : Event) → n ≡ first → record_at trace.records (first + k) ≡ Ok e
    → IsEventOf (length trace.sites) (length trace.funcs) e → IsRead trace (n + k) e
read_at trace first n k e same is within = (subst (λ (m : ℕ). record_at trace.records (m + k) ≡ Ok e) (sym same) is, within)

-- each record of it is an event
pub some_read : (trace : Recording) → Known trace → (i : ℕ) → i < length trace.records → IsOk (record_at trace.records i)
some_read trace known i lt = by (record_at trace.records i) refl
  where
    by : (r : Record) → record_at trace.records i ≡ r → IsOk r
    by (Err f) e = absurd (no_fault_in trace i f known.formed lt e)
    by (Ok x) e = refl

pub ok_more : {X E : Type 0} (P Q : X → Type 0) (r : Result X E) → ((x : X) → P x → Q x) → IfOk r P → IfOk r Q
ok_more P Q (Ok x) more h = more x h
ok_more P Q (Err e) more h = tt

module _ (trace : Recording) (known : Known trace) (eb : Burdens) (first : ℕ) (within : first ≤ length trace.records) (all : StackOf) (stands : HasEntry trace eb first all) where
  same_es : (es : List Event) → AreEvents trace.records es → stands.0 ≡ es
  same_es es are = same_events stands.0 es (sym stands.1 ∙ are)

  pub entry_of : (es : List Event) → AreEvents trace.records es → IsEntry es eb trace.root first stands.3.0 all.work
  entry_of es are = subst (λ (x : List Event). IsEntry x eb trace.root first stands.3.0 all.work) (same_es es are) stands.3.1

  pub begun_spans : (outside : Option StackOf) (s : List OpenSpan) → ((f : EntryFrame) (fs : List EntryFrame) → HasFrames all (f ∷ fs) → s ≡ entered_span f ∷ [])
      → ((f : EntryFrame) (fs : List EntryFrame) → HasFrames all (f ∷ fs) → IsOutside outside fs) → SpansAt trace eb first outside s
  begun_spans outside s begins out = by stands.3.0 stands.3.2 entry_of
    where
      by : (fs : List EntryFrame) → HasFrames all fs → ((es : List Event) → AreEvents trace.records es → IsEntry es eb trace.root first fs all.work) → SpansAt trace eb first outside s
      by [] h e = absurd h
      by (f ∷ fs) h e = record {
        gs = fs;
        are = out f fs h;
        some = subst HasOpen (sym (begins f fs h)) tt;
        weighed = λ es are. record { frames = f ∷ fs; work = all.work; entry = e es are; are = ap (λ (l : List OpenSpan). l ++ entered_spans fs) (begins f fs h) };
      }

  module _ (end : ℕ) (live : StackOf) (trail : Trail) (spawns : List ℕ) where
    abbrev Going : List Event → Burdens → Type 0
    Going = Goes first end all live trail spawns

    pub begun_with : (f : EntryFrame) (fs : List EntryFrame) → HasFrames live (f ∷ fs) → (t : Told) → IsBegun f fs live.work trail t → Kept trace eb first Going first (with_outside (path_frames fs) t)
    begun_with f fs h t b es are wf span sp bd p rest path =
        begun_summed es wf small trace.root eb span sp bd rest path first upto p.outs f fs trail.running live.work t entry
        (subst (λ (l : List EntryFrame). AreFlags es bd first (p.outs ++ l) (flags_of p.outs trail.running l)) one p.flags)
        (subst (λ (r : Trail). IsBegun f fs live.work r t) (λ j. record { skipped = p.skipped j; running = trail.running }) b)
      where
        small : IsSmall es
        small = known_small trace.records (length trace.sites) (length trace.funcs) es known.short are known.events

        upto : first ≤ length es
        upto = let n = events_len trace es are in omega arith

        one : p.ks ≡ f ∷ fs
        one = frames_one live p.ks (f ∷ fs) p.entered h

        frames : stands.3.0 ≡ p.outs ++ f ∷ fs
        frames = frames_one all stands.3.0 (p.outs ++ p.ks) stands.3.2 p.frames ∙ ap (λ (l : List EntryFrame). p.outs ++ l) one

        entry : IsEntry es eb trace.root first (p.outs ++ f ∷ fs) live.work
        entry =
            subst (λ (l : List EntryFrame). IsEntry es eb trace.root first l live.work) frames
            (subst (λ (n : ℕ). IsEntry es eb trace.root first stands.3.0 n) (sym p.work) (entry_of es are))

    pub begun_rows : (b : Burdens) → IsRight trace Going b → (outside : Option StackOf) (t : Told)
        → ((f : EntryFrame) (fs : List EntryFrame) → HasFrames live (f ∷ fs) → IsBegun f fs live.work trail t)
        → ((f : EntryFrame) (fs : List EntryFrame) → HasFrames live (f ∷ fs) → IsOutside outside fs) → RowsAt trace eb first Going first outside t
    begun_rows b right outside t begins out = let p = right stands.0 stands.1 in by p.ks p.entered
      where
        by : (ks : List EntryFrame) → HasFrames live ks → RowsAt trace eb first Going first outside t
        by [] h = absurd h
        by (f ∷ fs) h = record {
          hs = fs;
          are = out f fs h;
          some = subst (OnTop (λ f. Unit {0})) (sym (begins f fs h).frames) tt;
          kept = begun_with f fs h t (begins f fs h);
        }

-- ---- the weights

two_of : (P : OpenSpan → Type 0) (s : List OpenSpan) → OnBelow P s → 1 < length s
two_of P [] h = absurd h
two_of P (f ∷ []) h = absurd h
two_of P (f ∷ g ∷ s) h = omega arith

module _ (trace : Recording) (known : Known trace) (eb : Burdens) (i : ℕ) (lt : i < length trace.records) (outside : Option StackOf) (s : List OpenSpan) (at : SpansAt trace eb i outside s) where
  abbrev gs : List OpenSpan
  gs = entered_spans at.gs

  pub spans_run : (n : ℕ) → IsRead trace i (Strand n) → lean.OnTop (CanRun n) s
  spans_run n r = can_run_below gs n s at.some (ready_run trace known eb i (s ++ gs) at.weighed n lt r)

  pub spans_next : (e : Event) (new : List OpenSpan) → IsRead trace i e → (e ≡ Ret → 1 < length s) → new ≡ after_event e s → SpansAt trace eb (suc i) outside new
  spans_next e new r two same =
      let l = event_lifted gs e s at.some two in
      record {
        gs = at.gs;
        are = at.are;
        some = subst HasOpen (sym same) l.0;
        weighed = next_weighed trace known eb i (s ++ gs) at.weighed e (new ++ gs) lt r (ap (λ (x : List OpenSpan). x ++ gs) same ∙ l.1);
      }

  -- before a return two have been come to
  pub record SpansReady (left : Option StackOf) (new : List OpenSpan) : Type 0 where
    pub here : SpansAt trace eb i left new
    pub two : 1 < length new

  some_of : (new : List OpenSpan) → 1 < length new → HasOpen new
  some_of [] l = absurd (omega arith)
  some_of (f ∷ fs) l = tt

  pub spans_reached : IsRead trace i Ret → (left : Option StackOf) (new : List OpenSpan) → ((fs : List EntryFrame) → IsOutside outside fs → IsReached OpenSpan entered_spans s new fs left) → SpansReady left new
  spans_reached r left new reached =
      let w = reached at.gs at.are in
      let two = w.two (two_of (lean.CanReturn (top_close (s ++ gs))) (s ++ gs) (ready_close trace known eb i (s ++ gs) at.weighed lt r (top_close (s ++ gs)) refl)) in
      record {
        here = record { gs = w.outside; are = w.are; some = some_of new two; weighed = subst (λ (x : List OpenSpan). Weighed trace eb i x) (sym w.frames) at.weighed };
        two = two;
      }

  pub spans_close : IsRead trace i Ret → 1 < length s → (v : ℕ) → v ≡ top_close s → OnBelow (lean.CanReturn v) s
  spans_close r two v is = can_close_below gs v s two (ready_close trace known eb i (s ++ gs) at.weighed lt r v (is ∙ sym (top_same gs s at.some)))

-- ---- the rows

module _ (trace : Recording) (known : Known trace) (eb : Burdens) (from : ℕ) (P : List Event → Burdens → Type 0) (b : Burdens) (right : IsRight trace P b) (i : ℕ) (begun : from ≤ i) (lt : i < length trace.records)
    (outside : Option StackOf) (t : Told) (at : RowsAt trace eb from P i outside t) where
  abbrev hs : List EnteredFrame
  hs = path_frames at.hs

  abbrev whole : Told
  whole = with_outside hs t

  pub rows_add : (n : ℕ) → IsRead trace i (Strand n) → CanAdd n t
  rows_add n r = can_add_below hs n t at.some (ready_add trace known eb i from begun P b right whole at.kept n lt r)

  pub rows_skip : CanSkip t.trail
  rows_skip = ready_skip trace known eb i from begun P b right whole at.kept lt

  next : (new : Told) → IsOpen new → Kept trace eb from P (suc i) (with_outside hs new) → RowsAt trace eb from P (suc i) outside new
  next new some kept = record { hs = at.hs; are = at.are; some = some; kept = kept }

  pub rows_strand : (n : ℕ) (new : Told) → IsRead trace i (Strand n) → StrandDone n t new → RowsAt trace eb from P (suc i) outside new
  rows_strand n new r d =
      let l = strand_lifted hs n t new at.some d in
      next new l.0 (next_strand trace known eb i from begun P b right whole at.kept n (with_outside hs new) lt r l.1)

  pub rows_sync : (new : Told) → IsRead trace i Sync → SyncDone t new → RowsAt trace eb from P (suc i) outside new
  rows_sync new r d =
      let l = sync_lifted hs t new at.some d in
      next new l.0 (next_sync trace known eb i from begun P b right whole at.kept (with_outside hs new) lt r l.1)

  pub rows_call : (site func : ℕ) (new : Told) → IsRead trace i (Call site func) → CallDone site func t new → RowsAt trace eb from P (suc i) outside new
  rows_call site func new r d =
      let l = call_lifted hs site func t new at.some d in
      next new l.0 (next_call trace known eb i from begun P b right whole at.kept site func (with_outside hs new) lt r l.1)

  pub rows_spawn : (site func : ℕ) (new : Told) → IsRead trace i (Spawn site func) → (end : ℕ) (xs : List ℕ) → i < end → Left trace P end i xs
      → SpawnDone (is_next i xs) site func t new → RowsAt trace eb from P (suc i) outside new
  rows_spawn site func new r end xs inside left d =
      let l = spawn_lifted hs (is_next i xs) site func t new at.some d in
      next new l.0 (next_spawn trace known eb i from begun P b right whole at.kept site func (with_outside hs new) lt r end xs inside left l.1)

  -- ---- a return, where the weights of all open frames are known

  module _ (o : List OpenSpan) (weighed : Weighed trace eb i o) (r : IsRead trace i Ret) where
    deep_of : (v : ℕ) (frames : List EnteredFrame) → OnTop (λ f. CanReturn f v whole) frames → 1 < length whole.frames
    deep_of v [] h = absurd h
    deep_of v (f ∷ fs) h = h.deep

    two_frames : t.trail.skipped ≡ 0 → 1 < length (t.frames ++ hs)
    two_frames z = deep_of (top_close o) whole.frames (ready_return trace known eb i from begun P b right whole at.kept o weighed (top_close o) refl lt r z)

    pub record RowsReady (left : Option StackOf) (new : Told) : Type 0 where
      pub here : RowsAt trace eb from P i left new
      pub two : new.trail.skipped ≡ 0 → 1 < length new.frames

    more_open : (old new : List EnteredFrame) → OnTop (λ f. Unit {0}) old → length old ≤ length new → OnTop (λ f. Unit {0}) new
    more_open [] new h l = absurd h
    more_open (f ∷ fs) [] h l = absurd (omega arith)
    more_open (f ∷ fs) (g ∷ rest) h l = tt

    pub rows_reached : (left : Option StackOf) (new : Told) → ((fs : List EntryFrame) → IsOutside outside fs → IsReached EnteredFrame path_frames t.frames new.frames fs left)
        → new ≡ record t { frames = new.frames } → RowsReady left new
    rows_reached left new reached others =
        let w = reached at.hs at.are in
        let same : with_outside (path_frames w.outside) new ≡ whole =
        ap (λ (x : Told). let y : Told = record x { frames = new.frames ++ path_frames w.outside } in y) others ∙ ap (λ (l : List EnteredFrame). let y : Told = record t { frames = l } in y) w.frames in
        record {
          here = record {
            hs = w.outside;
            are = w.are;
            some = more_open t.frames new.frames at.some w.more;
            kept = subst (λ (x : Told). Kept trace eb from P i x) (sym same) at.kept;
          };
          two = λ z. w.two (two_frames (sym (ap (λ (x : Told). x.trail.skipped) others) ∙ z));
        }

    pub rows_can_return : (t.trail.skipped ≡ 0 → 1 < length t.frames) → (v : ℕ) → v ≡ top_close o → t.trail.skipped ≡ 0 → OnTop (λ f. CanReturn f v t) t.frames
    rows_can_return two v is z = can_return_below hs v t (two z) (ready_return trace known eb i from begun P b right whole at.kept o weighed v is lt r z)

    pub rows_return : (t.trail.skipped ≡ 0 → 1 < length t.frames) → (v : ℕ) → v ≡ top_close o → (new : Told) → Returned hs v t new → RowsAt trace eb from P (suc i) outside new
    rows_return two v is new d =
        let l = return_lifted hs v t new at.some two d in
        next new l.0 (next_return trace known eb i from begun P b right whole at.kept o weighed v is (with_outside hs new) lt r l.1)
