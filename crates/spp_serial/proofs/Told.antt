-- What is told of a run that has been read to its end.
use Rattle.std.proofs.Common.{◌≡◌, ℕ, ◌≤◌, Bool, List, [], ◌∷◌, length, map, Option, None, refl, sym, ap, ap₂, subst, ◌∙◌, arith}
use Rattle.spp_event.specs.declared.records.Event.{Event}
use Rattle.spp_event.specs.Recordings.{Record, Recording, AreEventsOf}
use Rattle.spp_frame.specs.Nesting as nesting
use Rattle.spp_frame.specs.Nesting.{AreEvents}
use Rattle.spp_maxplus.specs.declared.state.Burdens.{Burdens}
use Rattle.spp_dag.specs.declared.row.Row.{Row}
use Rattle.spp_dag.specs.Trace.{IsWellFormed}
use Rattle.spp_dag.specs.Dag.{IsPath}
use Rattle.spp_dag.specs.Rows.{AreSpans, row, contains}
use Rattle.spp_dag.specs.Limits.{IsSmallRow}
use Rattle.spp_dag.specs.Choices.{IsEntry}
use Rattle.spp_dag.proofs.Bounds.{rows_fit}
use Rattle.spp_dag.proofs.EventsOfRecords.{known_small}
use Rattle.spp_dag.proofs.Profiles.{spans_law}
use Rattle.spp_dag.proofs.Ties.{path_exists}
use Rattle.spp_site.specs.Rows.{Fits}
use Rattle.spp_site.specs.Table.{Sums}
use Rattle.spp_site.specs.Profiles.{key_row, IsPathTable}
use Rattle.spp_ways.specs.Ways.{Ways, rows_at, closed_rows, way_on, burdens_on, HasWays}
use Rattle.spp_ways.specs.OpenWays.{on_path, bare_row, root_rows}
use Rattle.spp_ways.proofs.Rows.{ways_give_rows}
use Rattle.spp_pass.specs.declared.counted_frame.CountedFrame.{CountedFrame}
use Rattle.spp_pass.specs.declared.counting.Ended.{Ended}
use Rattle.spp_pass.specs.Passes.{Seen, IsEnded}
use Rattle.spp_pass.proofs.Bounded.{entries}
use Rattle.spp_pass.proofs.Projected.{counted, AllNeat}
use Rattle.spp_pass.proofs.Passed.{IsTold, is_told, events_len}
use Rattle.spp_serial.proofs.Reading.{Led, takes_on, row_on}

small_row : (r : Row) → IsSmallRow r → Fits r
small_row r s = record {
  count = (let z = s.count in omega arith);
  local = (let z = s.local in omega arith);
  site_count = (let z = s.site_count in omega arith);
  site_work = (let z = s.site_work in omega arith);
  site_span = (let z = s.site_span in omega arith);
  caller_count = (let z = s.caller_count in omega arith);
  caller_work = (let z = s.caller_work in omega arith);
  caller_span = (let z = s.caller_span in omega arith);
}

module _ (trace : Recording) (burdens : Burdens) (short : length trace.records ≤ 268435456) (good : AreEventsOf (length trace.sites) (length trace.funcs) trace.records)
    (i : ℕ) (last : i ≡ length trace.records) (s : Seen) (ways : Bool → List Ways) (led : Led trace burdens i s ways) (one : length s.frames ≡ 1) (e : Ended) (ended : IsEnded s s.frames e) where
  abbrev pub told : IsTold trace burdens short i last e
  told = is_told trace burdens short i last s e one led.passed ended

  abbrev es : List Event
  es = told.figures.events

  abbrev are : AreEvents trace.records es
  are = told.figures.are_events

  abbrev wf : IsWellFormed es
  wf = subst (λ (x : List Record). nesting.IsWellFormed x) are told.figures.well_formed

  abbrev span : ℕ → ℕ
  span = (spans_law es wf).0.0

  spans : AreSpans es span
  spans = (spans_law es wf).0.1

  here : i ≡ length es
  here = last ∙ events_len trace es are

  -- the way with which the root closes, and its rows
  abbrev rows : Bool → Option ℕ → Row
  rows on key = rows_at (root_rows (on_path on e.takes) (bare_row e.root) (ways on)) key

  path : (on : Bool) → (rest : List ℕ) × IsPath es (burdens_on on burdens) 0 (length es) rest
  path on = path_exists es wf (burdens_on on burdens) 0 refl

  path_rows : (on : Bool) (key : Option ℕ) → row es trace.root span (contains (0 ∷ (path on).0)) key ≡ rows on key
  path_rows on key = by s.frames (ways on) one (led.many on) led.passed.neat ended entry (subst (λ k. HasWays es burdens trace.root on k (ways on)) here (led.has es are wf on))
    where
      entry : IsEntry es burdens trace.root (length es) (entries (map counted s.frames)) s.work
      entry = subst (λ k. IsEntry es burdens trace.root k (entries (map counted s.frames)) s.work) here (led.passed.shared es are wf span spans).entry

      by : (fs : List CountedFrame) (ws : List Ways) → length fs ≡ 1 → length ws ≡ length fs → AllNeat fs → IsEnded s fs e
          → IsEntry es burdens trace.root (length es) (entries (map counted fs)) s.work → HasWays es burdens trace.root on (length es) ws
          → row es trace.root span (contains (0 ∷ (path on).0)) key ≡ rows_at (root_rows (on_path on e.takes) (bare_row e.root) ws) key
      by [] ws a b neat h at has = absurd (omega arith)
      by (f ∷ g ∷ fs) ws a b neat h at has = absurd (omega arith)
      by (f ∷ []) [] a b neat h at has = absurd (omega arith)
      by (f ∷ []) (w ∷ v ∷ ws) a b neat h at has = absurd (omega arith)
      by (f ∷ []) (w ∷ []) a b neat h at has =
          ways_give_rows es wf burdens trace.root span spans on (path on).0 (path on).1 (counted f).entry s.work w at has key
          ∙ sym (ap₂ (λ (t : Bool) (r : Row). rows_at (closed_rows None r (way_on t w)) key) (ap (on_path on) h.3 ∙ takes_on on f) (ap bare_row h.2 ∙ row_on f s.work neat.0))

  -- they fit, and make the table of the path
  pub path_fits : (on : Bool) (key : Option ℕ) → Fits (rows on key)
  path_fits on key =
      let small = known_small trace.records (length trace.sites) (length trace.funcs) es short are good in
      subst Fits (path_rows on key) (small_row _ (rows_fit es small trace.root span spans (contains (0 ∷ (path on).0)) key).0)

  pub path_is : (on : Bool) (t : Sums) → ((key : Option ℕ) → key_row t key ≡ rows on key) → IsPathTable trace (burdens_on on burdens) t
  path_is on t h = (told.figures.well_formed, (es, are, (span, spans, ((path on).0, (path on).1, λ key. h key ∙ sym (path_rows on key)))))
