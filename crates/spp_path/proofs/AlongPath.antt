-- A pass over a part along a path: what each call of the pass needs, and what stands after each event. The weights of the
-- open frames don't depend on the path, so two paths share them.
use Rattle.std.proofs.Common.{◌≡◌, ℕ, suc, ◌+◌, ◌<◌, ◌≤◌, List, [], ◌∷◌, ◌++◌, length, Option, refl, sym, ap, subst, ◌∙◌, arith}
use Rattle.std.specs.Prelude.{IsOk}
use Rattle.spp_event.specs.declared.records.Event.{Event}
use Rattle.spp_event.specs.declared.records.Event.TheVariants.{Strand, Call, Spawn, Ret, Sync}
use Rattle.spp_event.specs.Recordings.{InLimits, AreEventsOf, record_at}
use Rattle.spp_frame.specs.Nesting.{AreEvents}
use Rattle.spp_cut.specs.Parts.{PartOf}
use Rattle.spp_maxplus.specs.declared.state.Burdens.{Burdens}
use Rattle.spp_maxplus.specs.Weights.{close}
use Rattle.spp_dag.specs.declared.stack.EntryFrame.{EntryFrame}
use Rattle.spp_site.specs.Table.{Sums}
use Rattle.spp_stack.specs.Chain.{StackOf, HasFrames}
use Rattle.spp_path.specs.declared.rows.EnteredFrame.{EnteredFrame}
use Rattle.spp_path.specs.declared.settled.LiveFrame.{LiveFrame}
use Rattle.spp_path.specs.declared.spans.OpenSpan.{OpenSpan}
use Rattle.spp_path.specs.declared.trail.Trail.{Trail}
use Rattle.spp_path.specs.Entered.{is_next, left_after}
use Rattle.spp_path.specs.Outside.{HasEntry, entered_span, entered_spans, path_frames, IsBegun, IsOutside, IsReached, AreBelow, FitsOpen, IsSuspended}
use Rattle.spp_path.specs.Parts.{IsPathShare}
use Rattle.spp_path.specs.Rows.{Told, OnTop, IsOpen, CanAdd, CanReturn, IsReturned, IsRead, leave_told}
use Rattle.spp_path.specs.Spans as lean
use Rattle.spp_path.specs.Spans.{HasOpen, CanRun, OnBelow, return_spans}
use Rattle.spp_path.specs.Trails.{CanSkip}
use Rattle.spp_path.proofs.Ending.{can_suspend, are_sites, suspended}
use Rattle.spp_path.proofs.Events.{StrandDone, SyncDone, CallDone, SpawnDone}
use Rattle.spp_path.proofs.Lifted.{top_same}
use Rattle.spp_path.proofs.OpenWeights.{after_event, top_close}
use Rattle.spp_path.proofs.PartPass.{RowsAt, SpansAt, RowsReady, Goes, known_in, some_read, begun_spans, begun_rows, spans_run, spans_next, spans_reached, spans_close, rows_add, rows_skip, rows_strand, rows_sync, rows_call, rows_spawn, rows_reached, rows_can_return, rows_return}
use Rattle.spp_path.proofs.PathPass.{Left, IsRight, Known, next_left, next_taken}
use Rattle.spp_path.proofs.Tops.{top_is}

-- what is known of the part and of the frames that are open where it begins
pub record Reads (part : PartOf) (all : StackOf) : Type 0 where
  pub stands : (burdens : Burdens) × HasEntry part.trace burdens part.first all
  pub limits : InLimits part.trace
  pub events : AreEventsOf (length part.trace.sites) (length part.trace.funcs) part.trace.records
  pub within : part.first + part.count ≤ length part.trace.records

-- the event at i is one of the part
pub record IsIn (part : PartOf) (i : ℕ) : Type 0 where
  pub from : part.first ≤ i
  pub inside : i < part.first + part.count

-- before the event at i the pass has the weights of the open frames
pub record SpansSoFar (part : PartOf) (all : StackOf) (i : ℕ) (outside : Option StackOf) (s : List OpenSpan) : Type 0 where
  pub at : (eb : Burdens) → HasEntry part.trace eb part.first all → SpansAt part.trace eb i outside s

-- and the rows of the path that goes so, with the spawns that are left of those whose children it enters
pub record PathSoFar (part : PartOf) (all : StackOf) (P : List Event → Burdens → Type 0) (i : ℕ) (outside : Option StackOf) (t : Told) (xs : List ℕ) : Type 0 where
  pub rows : (eb : Burdens) → HasEntry part.trace eb part.first all → RowsAt part.trace eb part.first P i outside t
  pub left : Left part.trace P (part.first + part.count) i xs

-- so goes the path in the part
abbrev pub Way : PartOf → StackOf → StackOf → Trail → List ℕ → List Event → Burdens → Type 0
Way part all live trail spawns = Goes part.first (part.first + part.count) all live trail spawns

-- and so where it enters that frame as the innermost
abbrev pub trail_of : LiveFrame → Trail
trail_of live = record { skipped = live.skipped; running = live.running }

-- the event of the part with the number k, where the part begins at n
pub in_part : (part : PartOf) (n k : ℕ) → n ≡ part.first → k < part.count → IsIn part (n + k)
in_part part n k is lt = record { from = omega arith; inside = omega arith }

-- a return of the innermost frame, which isn't the root
abbrev pub ReturnDone : ℕ → Told → Told → Type 0
ReturnDone v old new = (old.trail.skipped ≡ 0 → OnTop (λ f. IsReturned f v old new) old.frames) × (0 < old.trail.skipped → new ≡ leave_told old)

-- the same, told in other words
pub spans_told : {part : PartOf} {all : StackOf} {i : ℕ} {outside : Option StackOf} {s : List OpenSpan} → SpansSoFar part all i outside s
    → {j : ℕ} {o : Option StackOf} {r : List OpenSpan} → i ≡ j → o ≡ outside → r ≡ s → SpansSoFar part all j o r
spans_told {part} {all} {i} {outside} {s} w {j} {o} {r} i_is o_is is =
    subst (λ (n : ℕ). SpansSoFar part all n o r) i_is
    (subst (λ (p : Option StackOf). SpansSoFar part all i p r) (sym o_is) (subst (λ (x : List OpenSpan). SpansSoFar part all i outside x) (sym is) w))

pub path_told : {part : PartOf} {all : StackOf} {P : List Event → Burdens → Type 0} {i : ℕ} {outside : Option StackOf} {t : Told} {xs : List ℕ} → PathSoFar part all P i outside t xs
    → {j : ℕ} {o : Option StackOf} {u : Told} {ys : List ℕ} → i ≡ j → o ≡ outside → u ≡ t → ys ≡ xs → PathSoFar part all P j o u ys
path_told {part} {all} {P} {i} {outside} {t} {xs} p {j} {o} {u} {ys} i_is o_is is left_is =
    subst (λ (n : ℕ). PathSoFar part all P n o u ys) i_is
    (subst (λ (q : Option StackOf). PathSoFar part all P i q u ys) (sym o_is)
    (subst (λ (x : Told). PathSoFar part all P i outside x ys) (sym is) (subst (λ (zs : List ℕ). PathSoFar part all P i outside t zs) (sym left_is) p)))

module _ {part : PartOf} {all : StackOf} (r : Reads part all) where
  pub known : Known part.trace
  known = known_in part.trace r.stands.0 part.first all r.stands.1 r.limits r.events

  begins : part.first ≤ length part.trace.records
  begins = let w = r.within in omega arith

  abbrev end : ℕ
  end = part.first + part.count

  -- ---- the beginning

  pub spans_begun : (outside : Option StackOf) (s : List OpenSpan) → ((f : EntryFrame) (fs : List EntryFrame) → HasFrames all (f ∷ fs) → s ≡ entered_span f ∷ [])
      → ((f : EntryFrame) (fs : List EntryFrame) → HasFrames all (f ∷ fs) → IsOutside outside fs) → SpansSoFar part all part.first outside s
  spans_begun outside s begun out = record { at = λ eb stands. begun_spans part.trace known eb part.first begins all stands outside s begun out }

  pub path_begun : (live : StackOf) (trail : Trail) (spawns : List ℕ) → (b : Burdens) × IsRight part.trace (Way part all live trail spawns) b → (outside : Option StackOf) (t : Told)
      → ((f : EntryFrame) (fs : List EntryFrame) → HasFrames live (f ∷ fs) → IsBegun f fs live.work trail t)
      → ((f : EntryFrame) (fs : List EntryFrame) → HasFrames live (f ∷ fs) → IsOutside outside fs) → PathSoFar part all (Way part all live trail spawns) part.first outside t spawns
  path_begun live trail spawns goes outside t begun out = record {
    rows = λ eb stands. begun_rows part.trace known eb part.first begins all stands end live trail spawns goes.0 goes.1 outside t begun out;
    left = λ es are bd p. p.spawns_are;
  }

  -- ---- an event

  pub some_event : (k : ℕ) → k < part.count → IsOk (record_at part.trace.records (part.first + k))
  some_event k lt = let w = r.within in some_read part.trace known (part.first + k) (omega arith)

  module _ {i : ℕ} (d : IsIn part i) where
    lt : i < length part.trace.records
    lt = let w = r.within in let z = d.inside in omega arith

    module _ {outside : Option StackOf} {s : List OpenSpan} (w : SpansSoFar part all i outside s) where
      here : SpansAt part.trace r.stands.0 i outside s
      here = w.at r.stands.0 r.stands.1

      pub has_open : HasOpen s
      has_open = here.some

      pub can_run : (n : ℕ) → IsRead part.trace i (Strand n) → lean.OnTop (CanRun n) s
      can_run n e = spans_run part.trace known r.stands.0 i lt outside s here n e

      pub spans_on : (e : Event) (new : List OpenSpan) → IsRead part.trace i e → (e ≡ Ret → 1 < length s) → new ≡ after_event e s → SpansSoFar part all (suc i) outside new
      spans_on e new read two same = record { at = λ eb stands. spans_next part.trace known eb i lt outside s (w.at eb stands) e new read two same }

    module _ {P : List Event → Burdens → Type 0} {outside : Option StackOf} {t : Told} {xs : List ℕ} (p : PathSoFar part all P i outside t xs) (goes : (b : Burdens) × IsRight part.trace P b) where
      rows_here : RowsAt part.trace r.stands.0 part.first P i outside t
      rows_here = p.rows r.stands.0 r.stands.1

      pub is_open : IsOpen t
      is_open = rows_here.some

      pub can_count : (n : ℕ) → IsRead part.trace i (Strand n) → CanAdd n t
      can_count n e = rows_add part.trace known r.stands.0 part.first P goes.0 goes.1 i d.from lt outside t rows_here n e

      pub has_room : CanSkip t.trail
      has_room = rows_skip part.trace known r.stands.0 part.first P goes.0 goes.1 i d.from lt outside t rows_here

      pub strand_on : (n : ℕ) (new : Told) → IsRead part.trace i (Strand n) → StrandDone n t new → PathSoFar part all P (suc i) outside new xs
      strand_on n new e done = record {
        rows = λ eb stands. rows_strand part.trace known eb part.first P goes.0 goes.1 i d.from lt outside t (p.rows eb stands) n new e done;
        left = next_left part.trace P end i xs p.left (Strand n) lt e refl;
      }

      pub sync_on : (new : Told) → IsRead part.trace i Sync → SyncDone t new → PathSoFar part all P (suc i) outside new xs
      sync_on new e done = record {
        rows = λ eb stands. rows_sync part.trace known eb part.first P goes.0 goes.1 i d.from lt outside t (p.rows eb stands) new e done;
        left = next_left part.trace P end i xs p.left Sync lt e refl;
      }

      pub call_on : (site func : ℕ) (new : Told) → IsRead part.trace i (Call site func) → CallDone site func t new → PathSoFar part all P (suc i) outside new xs
      call_on site func new e done = record {
        rows = λ eb stands. rows_call part.trace known eb part.first P goes.0 goes.1 i d.from lt outside t (p.rows eb stands) site func new e done;
        left = next_left part.trace P end i xs p.left (Call site func) lt e refl;
      }

      pub spawn_on : (site func : ℕ) (new : Told) → IsRead part.trace i (Spawn site func) → SpawnDone (is_next i xs) site func t new → PathSoFar part all P (suc i) outside new (left_after i xs)
      spawn_on site func new e done = record {
        rows = λ eb stands. rows_spawn part.trace known eb part.first P goes.0 goes.1 i d.from lt outside t (p.rows eb stands) site func new e end xs d.inside p.left done;
        left = next_taken part.trace P end i xs p.left d.inside;
      }

    -- ---- a return: first the pass comes to frames outside, of all open ones and of those that the path enters

    module _ {outside : Option StackOf} {s : List OpenSpan} (w : SpansSoFar part all i outside s) (ret : IsRead part.trace i Ret) (left : Option StackOf) (come : List OpenSpan)
        (reached : (fs : List EntryFrame) → IsOutside outside fs → IsReached OpenSpan entered_spans s come fs left) where
      spans_come : SpansSoFar part all i left come
      spans_come = record { at = λ eb stands. (spans_reached part.trace known eb i lt outside s (w.at eb stands) ret left come reached).here }

      two : 1 < length come
      two = (spans_reached part.trace known r.stands.0 i lt outside s (w.at r.stands.0 r.stands.1) ret left come reached).two

      pub open_then : HasOpen come
      open_then = has_open spans_come

      module _ (v : ℕ) (closes : lean.OnTop (λ f. v ≡ close f.weights) come) where
        is : v ≡ top_close come
        is = top_is v come closes

        pub spans_can_return : OnBelow (lean.CanReturn v) come
        spans_can_return = spans_close part.trace known r.stands.0 i lt left come (spans_come.at r.stands.0 r.stands.1) ret two v is

        pub spans_return : (new : List OpenSpan) → new ≡ return_spans v come → SpansSoFar part all (suc i) left new
        spans_return new same = spans_on spans_come Ret new ret (λ _. two) (same ∙ ap (λ (n : ℕ). return_spans n come) is)

        module _ {P : List Event → Burdens → Type 0} {out : Option StackOf} {t : Told} {xs : List ℕ} (p : PathSoFar part all P i out t xs) (goes : (b : Burdens) × IsRight part.trace P b)
            (to : Option StackOf) (u : Told) (frames : (fs : List EntryFrame) → IsOutside out fs → IsReached EnteredFrame path_frames t.frames u.frames fs to) (others : u ≡ record t { frames = u.frames }) where
          -- for the burdens that the machine bears: all open frames, the rows after it has come there, and the closing weight
          abbrev frames_of : (eb : Burdens) → HasEntry part.trace eb part.first all → List OpenSpan
          frames_of eb stands = come ++ entered_spans (spans_come.at eb stands).gs

          ready : (eb : Burdens) (stands : HasEntry part.trace eb part.first all)
              → RowsReady part.trace known eb part.first P goes.0 goes.1 i d.from lt out t (p.rows eb stands) (frames_of eb stands) (spans_come.at eb stands).weighed ret to u
          ready eb stands =
              rows_reached part.trace known eb part.first P goes.0 goes.1 i d.from lt out t (p.rows eb stands) (frames_of eb stands) (spans_come.at eb stands).weighed ret to u frames others

          is_all : (eb : Burdens) (stands : HasEntry part.trace eb part.first all) → v ≡ top_close (frames_of eb stands)
          is_all eb stands = is ∙ sym (top_same (entered_spans (spans_come.at eb stands).gs) come (spans_come.at eb stands).some)

          pub can_return : u.trail.skipped ≡ 0 → OnTop (λ f. CanReturn f v u) u.frames
          can_return =
              let eb = r.stands.0 in
              let stands = r.stands.1 in
              let now = ready eb stands in
              rows_can_return part.trace known eb part.first P goes.0 goes.1 i d.from lt to u now.here (frames_of eb stands) (spans_come.at eb stands).weighed ret now.two v (is_all eb stands)

          pub return_on : (new : Told) → ReturnDone v u new → PathSoFar part all P (suc i) to new xs
          return_on new done = record {
            rows = λ eb stands.
                let now = ready eb stands in
                rows_return part.trace known eb part.first P goes.0 goes.1 i d.from lt to u now.here (frames_of eb stands) (spans_come.at eb stands).weighed ret now.two v (is_all eb stands) new done;
            left = next_left part.trace P end i xs p.left Ret lt ret refl;
          }

  -- ---- the end

  module _ {P : List Event → Burdens → Type 0} {i : ℕ} {outside : Option StackOf} {t : Told} {xs : List ℕ} (p : PathSoFar part all P i outside t xs) (goes : (b : Burdens) × IsRight part.trace P b) (last : i ≡ end) where
    upto : i ≤ length part.trace.records
    upto = let w = r.within in omega arith

    rows_there : RowsAt part.trace r.stands.0 part.first P i outside t
    rows_there = p.rows r.stands.0 r.stands.1

    pub fits_open : FitsOpen t
    fits_open = can_suspend part.trace known r.stands.0 part.first P goes.0 goes.1 i upto outside t rows_there

    pub sites_below : AreBelow 65536 t.frames
    sites_below = are_sites part.trace known r.stands.0 part.first P goes.0 goes.1 i upto outside t rows_there

    pub share_is : (q : Sums) → IsSuspended t q → (bd : Burdens) → IsRight part.trace P bd → (es : List Event) → AreEvents part.trace.records es
        → IsPathShare es bd part.trace.root part.first end q
    share_is q h bd right es are =
        subst (λ (n : ℕ). IsPathShare es bd part.trace.root part.first n q) last
        (suspended part.trace known r.stands.0 part.first P goes.0 goes.1 i upto outside t rows_there q h bd right es are)
