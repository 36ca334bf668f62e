-- Where a path stays away from a part, its share of the part has no rows: before each event the pass would have no more
-- than the frames that were open.
use Rattle.std.proofs.Common.{◌≡◌, ℕ, zero, suc, ◌+◌, ◌-◌, ◌<◌, ◌≤◌, Bool, false, true, not, ◌&&◌, nat_eq, List, [], ◌∷◌, length, Option, Ok, Err, IfOk, refl, sym, ap, subst, ◌∙◌, arith}
use Rattle.std.proofs.lemmas.Bool.{ne_eqb}
use Rattle.spp_event.specs.declared.records.Event.{Event}
use Rattle.spp_event.specs.declared.records.Event.TheVariants.{Strand, Call, Spawn, Ret, Sync}
use Rattle.spp_event.specs.Records.{IsEventOf}
use Rattle.spp_event.specs.Recordings.{Record, record_at}
use Rattle.spp_frame.specs.Nesting as nesting
use Rattle.spp_frame.specs.Nesting.{AreEvents}
use Rattle.spp_cut.specs.Parts.{PartOf}
use Rattle.spp_maxplus.specs.declared.state.Burdens.{Burdens}
use Rattle.spp_dag.specs.declared.row.Row.{Row}
use Rattle.spp_dag.specs.declared.stack.EntryFrame.{EntryFrame}
use Rattle.spp_dag.specs.Trace.{IsWellFormed}
use Rattle.spp_dag.specs.Shares.{plus, zero_row}
use Rattle.spp_dag.specs.Steps.{same_key, has_site, has_func}
use Rattle.spp_dag.proofs.EventsOfRecords.{no_fault_in}
use Rattle.spp_dag.proofs.Profiles.{spans_law}
use Rattle.spp_dag.proofs.Ties.{path_exists}
use Rattle.spp_site.specs.Table.{empty}
use Rattle.spp_site.specs.Profiles.{key_row}
use Rattle.spp_site.proofs.Rows.{plus-zero}
use Rattle.spp_site.proofs.RowSums.{none_owed}
use Rattle.spp_stack.specs.Chain.{StackOf, HasFrames}
use Rattle.spp_path.specs.declared.spans.OpenSpan.{OpenSpan}
use Rattle.spp_path.specs.declared.trail.Trail.{Trail}
use Rattle.spp_path.specs.Beside.{open_after, open_at, StaysBeside}
use Rattle.spp_path.specs.Entered.{is_next, left_after}
use Rattle.spp_path.specs.Outside.{HasEntry, path_frame, path_frames, entered_spans, frame_key, local_rows}
use Rattle.spp_path.specs.Parts.{GoesOn, IsPathShare}
use Rattle.spp_path.specs.Rows.{Told, IsRead}
use Rattle.spp_path.proofs.Beginning.{with_outside}
use Rattle.spp_path.proofs.Ending.{rows_are}
use Rattle.spp_path.proofs.OpenWeights.{after_event, top_close}
use Rattle.spp_path.proofs.PartPass.{Goes, entry_of, begun_with}
use Rattle.spp_path.proofs.PathPass.{Kept, Weighed, Left, Known, next_weighed, next_taken, next_strand, next_sync, next_call, next_spawn, next_return}

module _ (part : PartOf) (known : Known part.trace) (within : part.first + part.count ≤ length part.trace.records) (eb : Burdens) (all : StackOf) (stands : HasEntry part.trace eb part.first all)
    (live : StackOf) (trail : Trail) (spawns : List ℕ) (bd : Burdens) (goes : GoesOn part bd all live trail spawns) where
  abbrev first : ℕ
  first = part.first

  abbrev end : ℕ
  end = part.first + part.count

  abbrev G : List Event → Burdens → Type 0
  G = Goes first end all live trail spawns

  begins : first ≤ length part.trace.records
  begins = omega (arith, within)

  module _ (f : EntryFrame) (fs : List EntryFrame) (entered : HasFrames live (f ∷ fs)) where
    -- what the pass would have, of the innermost entered frame alone, where n frames are open within it
    abbrev stood : ℕ → ℕ → Told
    stood n work = record {
      frames = path_frame f (not (has_func fs f.func)) ∷ [];
      trail = record { skipped = n; running = trail.running };
      open_sites = has_site (f ∷ fs);
      open_funcs = has_func (f ∷ fs);
      work = work;
      table = empty;
    }

    abbrev whole : ℕ → ℕ → Told
    whole n work = with_outside (path_frames fs) (stood n work)

    -- it has that before the event at i, with the weights of all open frames and the spawns that are left
    record Stood (i n : ℕ) : Type 0 where
      work : ℕ
      spans : List OpenSpan
      left : List ℕ
      kept : Kept part.trace eb first G i (whole n work)
      weighed : Weighed part.trace eb i spans
      left_are : Left part.trace G end i left

    start : Stood first trail.skipped
    start = record {
      work = live.work;
      spans = entered_spans stands.3.0;
      left = spawns;
      kept =
          begun_with part.trace known eb first begins all stands end live trail spawns f fs entered (stood trail.skipped live.work)
          (record { frames = refl; trail_is = refl; open_sites = λ x. refl; open_funcs = λ x. refl; work = refl; table = refl });
      weighed = λ es are. record { frames = stands.3.0; work = all.work; entry = entry_of part.trace known eb first begins all stands es are; are = refl };
      left_are = λ es are b p. p.spawns_are;
    }

    module _ (i n : ℕ) (from : first ≤ i) (inside : i < end) (some : 0 < n) (here : Stood i n) where
      lt : i < length part.trace.records
      lt = omega (arith, inside, within)

      beside : (b : Bool) → (nat_eq n 0 && b) ≡ false
      beside b = ap (λ (x : Bool). x && b) (ne_eqb n 0 (λ e. omega (arith, some)))

      never : {X : Type 0} (b : Bool) → (nat_eq n 0 && b) ≡ true → X
      never b e = let x : false ≡ true = sym (beside b) ∙ e in absurd cc

      after : (e : Event) → IsRead part.trace i e → (w : ℕ) × Kept part.trace eb first G (suc i) (whole (open_after (Ok e) n) w)
      after (Strand count) r = (
        here.work + count,
        next_strand part.trace known eb i first from G bd goes (whole n here.work) here.kept count (whole n (here.work + count)) lt r ((λ x. never trail.running x), λ x. refl),
      )
      after (Call site func) r = (
        here.work,
        next_call part.trace known eb i first from G bd goes (whole n here.work) here.kept site func (whole (n + 1) here.work) lt r ((λ x. never trail.running x), λ x. refl),
      )
      after (Spawn site func) r = (
        here.work,
        next_spawn part.trace known eb i first from G bd goes (whole n here.work) here.kept site func (whole (n + 1) here.work) lt r end here.left inside here.left_are
            ((λ x. never (is_next i here.left) x), λ x. refl),
      )
      after Ret r = (
        here.work,
        next_return part.trace known eb i first from G bd goes (whole n here.work) here.kept here.spans here.weighed (top_close here.spans) refl (whole (n - 1) here.work) lt r
            ((λ z. absurd (omega (arith, some, z))), λ x. refl),
      )
      after Sync r = (
        here.work,
        next_sync part.trace known eb i first from G bd goes (whole n here.work) here.kept (whole n here.work) lt r ((λ z. absurd (omega (arith, some, z))), λ x. refl),
      )

      step : (e : Event) → IsRead part.trace i e → Stood (suc i) (open_after (Ok e) n)
      step e r = record {
        work = (after e r).0;
        spans = after_event e here.spans;
        left = left_after i here.left;
        kept = (after e r).1;
        weighed = next_weighed part.trace known eb i here.spans here.weighed e (after_event e here.spans) lt r refl;
        left_are = next_taken part.trace G end i here.left here.left_are inside;
      }

      next : Stood (suc i) (open_after (record_at part.trace.records i) n)
      next = by (record_at part.trace.records i) refl
        where
          by : (r : Record) → record_at part.trace.records i ≡ r → Stood (suc i) (open_after r n)
          by (Ok e) same = step e (same, subst (λ (r : Record). IfOk r (IsEventOf (length part.trace.sites) (length part.trace.funcs))) same (known.events i lt))
          by (Err fault) same = absurd (no_fault_in part.trace i fault known.formed lt same)

    module _ (stays : StaysBeside part trail.skipped) where
      stood_at : (k : ℕ) → k ≤ part.count → Stood (first + k) (open_at part trail.skipped k)
      stood_at zero l = subst (λ (i : ℕ). Stood i trail.skipped) (let z : first ≡ first + 0 = omega arith in z) start
      stood_at (suc k) l =
          subst (λ (i : ℕ). Stood i (open_at part trail.skipped (suc k))) (let z : suc (first + k) ≡ first + suc k = omega arith in z)
          (next (first + k) (open_at part trail.skipped k) (omega arith) (omega arith) (stays k (omega arith)) (stood_at k (omega arith)))

      none_owed_yet : (key : Option ℕ) → plus (key_row empty key) (local_rows (path_frame f (not (has_func fs f.func)) ∷ []) key) ≡ key_row empty key
      none_owed_yet key =
          ap (λ (r : Row). plus (key_row empty key) r) (none_owed (same_key (frame_key (path_frame f (not (has_func fs f.func)))) key) zero_row) ∙ plus-zero (key_row empty key)

      share_is : (es : List Event) → AreEvents part.trace.records es → IsPathShare es bd part.trace.root first end empty
      share_is es are =
          let wf : IsWellFormed es = subst (λ (rs : List Record). nesting.IsWellFormed rs) are known.formed in
          let sp = (spans_law es wf).0 in
          let q = path_exists es wf bd 0 refl in
          let last = stood_at part.count (omega arith) in
          let t : Told = stood (open_at part trail.skipped part.count) last.work in (
            sp.0,
            sp.1,
            (
              q.0,
              q.1,
              λ key. sym (none_owed_yet key) ∙ rows_are es wf part.trace.root eb sp.0 sp.1 bd q.0 q.1 first end fs t (last.kept es are wf sp.0 sp.1 bd (goes es are) q.0 q.1) key,
            ),
          )

  pub beside_share : StaysBeside part trail.skipped → (es : List Event) → AreEvents part.trace.records es → IsPathShare es bd part.trace.root part.first (part.first + part.count) empty
  beside_share stays es are = let p = goes es are in by p.ks p.entered
    where
      by : (ks : List EntryFrame) → HasFrames live ks → IsPathShare es bd part.trace.root first end empty
      by [] h = absurd h
      by (f ∷ fs) h = share_is f fs h stays es are
