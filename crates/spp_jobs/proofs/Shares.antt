-- The shares of the parts of a cut make the rows of the dag, and those of a path.
use Rattle.std.proofs.Common.{◌≡◌, ℕ, suc, Bool, true, cond, List, [], ◌∷◌, length, Option, Some, None, Ok, refl, sym, ap, ap₂, subst, ◌∙◌, arith}
use Rattle.std.proofs.lemmas.List.{length-map}
use Rattle.spp_event.specs.declared.records.Event.{Event}
use Rattle.spp_event.specs.Recordings.{Record, Recording}
use Rattle.spp_frame.specs.Nesting as nesting
use Rattle.spp_frame.specs.Nesting.{AreEvents}
use Rattle.spp_maxplus.specs.declared.state.Burdens.{Burdens}
use Rattle.spp_maxplus.specs.State.{unburdened}
use Rattle.spp_dag.specs.declared.row.Row.{Row}
use Rattle.spp_dag.specs.Trace.{IsWellFormed}
use Rattle.spp_dag.specs.Dag.{IsPath}
use Rattle.spp_dag.proofs.Ties.{path_exists}
use Rattle.spp_dag.specs.Rows.{everywhere, contains, work, row}
use Rattle.spp_dag.specs.Shares.{share, plus, zero_row}
use Rattle.spp_dag.specs.Laws.{own_row}
use Rattle.spp_dag.specs.Limits.{IsSmall, IsSmallRow}
use Rattle.spp_dag.proofs.Bounds.{rows_fit}
use Rattle.spp_dag.proofs.Profiles.{greatest_one, spans_of, are_spans, root_work}
use Rattle.spp_dag.proofs.Shares.{same_rows, cut_law, end_law}
use Rattle.spp_site.specs.Rows.{Fits, frame_row}
use Rattle.spp_site.specs.Table.{Sums}
use Rattle.spp_site.proofs.Rows.{plus-zero}
use Rattle.spp_dag.specs.declared.figures.Figures.{Figures}
use Rattle.spp_dag.specs.Figures.{AreFigures}
use Rattle.spp_site.specs.Profiles.{key_row}
use Rattle.spp_site.specs.Profiles.{IsDagTable, IsPathTable}

-- ---- the shares add up

pub small_fits : (r : Row) → IsSmallRow r → Fits r
small_fits r s =
    let a = s.count in
    let b = s.local in
    let c = s.site_count in
    let d = s.site_work in
    let e = s.site_span in
    let f = s.caller_count in
    let g = s.caller_work in
    let h = s.caller_span in
    record {
      count = omega arith;
      local = omega arith;
      site_count = omega arith;
      site_work = omega arith;
      site_span = omega arith;
      caller_count = omega arith;
      caller_work = omega arith;
      caller_span = omega arith;
    }

-- which positions count: all of them, or those of the path under these burdens
abbrev pub Everywhere : List Event → (ℕ → Bool) → Type 0
Everywhere es on = on ≡ everywhere

abbrev pub OnPath : Burdens → List Event → (ℕ → Bool) → Type 0
OnPath b es on = (rest : List ℕ) × IsPath es b 0 (length es) rest × (on ≡ contains (0 ∷ rest))

-- the rows are the shares of the positions before n, of those that count
abbrev pub AreRowsTo : (List Event → (ℕ → Bool) → Type 0) → Recording → ℕ → Sums → Type 0
AreRowsTo P t n table = (es : List Event) → AreEvents t.records es → IsWellFormed es → (on : ℕ → Bool) → P es on → (key : Option ℕ)
    → key_row table key ≡ share es t.root (spans_of es) on key 0 n

-- the root's row, with what the root frame adds
root_is : (t : Recording) (b : Burdens) (f : Figures) (es : List Event) → AreEvents t.records es → AreFigures t.records b f → (wf : IsWellFormed es) → f.span ≡ spans_of es 0
    → frame_row (record { local = 0; work = f.work; span = f.span; top_site = true; top_caller = true }) ≡ own_row es (spans_of es)
root_is t b f es are fig wf span =
    let works : f.work ≡ work es 0 = fig.work ∙ ap (λ (rs : List Record). nesting.work rs) are ∙ sym (root_work es) in
    same_rows _ _ refl refl refl works span refl works span

row_is : (es : List Event) (root : ℕ) (on : ℕ → Bool) (key : Option ℕ)
    → row es root (spans_of es) on key
    ≡ plus (share es root (spans_of es) on key 0 (length es)) (share es root (spans_of es) on key (length es) (suc (length es)))
row_is es root on key =
    cut_law es root (spans_of es) on key (length es ∷ []) (omega arith, refl)
    ∙ ap (λ r. plus r (share es root (spans_of es) on key (length es) (suc (length es)))) (plus-zero (share es root (spans_of es) on key 0 (length es)))

-- with what the root frame adds to the root's row
abbrev pub with_root : Figures → Sums → Sums
with_root f table = record table { root = plus table.root (frame_row (record { local = 0; work = f.work; span = f.span; top_site = true; top_caller = true })) }

module _ (P : List Event → (ℕ → Bool) → Type 0) (t : Recording) (b : Burdens) (f : Figures) (fig : AreFigures t.records b f) (n : ℕ) (end : n ≡ length t.records)
    (table : Sums) (rows : AreRowsTo P t n table) (on : ℕ → Bool) (counts : P (fig.events) on) (begins : on 0 ≡ true) where
  wf : IsWellFormed fig.events
  wf = subst (λ (rs : List Record). nesting.IsWellFormed rs) fig.are_events fig.well_formed

  last : n ≡ length fig.events
  last = end ∙ ap (λ (l : List Record). length l) fig.are_events ∙ length-map fig.events (λ e. Ok e)

  own_is : frame_row (record { local = 0; work = f.work; span = f.span; top_site = true; top_caller = true }) ≡ own_row fig.events (spans_of fig.events)
  own_is = root_is t b f fig.events fig.are_events fig wf (greatest_one fig.events unburdened 0 (length fig.events) f.span (spans_of fig.events 0) fig.span (are_spans fig.events wf 0 refl))

  root_end : share fig.events t.root (spans_of fig.events) on None (length fig.events) (suc (length fig.events)) ≡ own_row fig.events (spans_of fig.events)
  root_end = (end_law fig.events wf t.root (spans_of fig.events) on).0 ∙ ap (λ c. cond c (own_row fig.events (spans_of fig.events)) zero_row) begins

  pub all_rows : (key : Option ℕ) → key_row (with_root f table) key ≡ row fig.events t.root (spans_of fig.events) on key
  all_rows None =
      ap₂ plus (rows fig.events fig.are_events wf on counts None ∙ ap (λ k. share fig.events t.root (spans_of fig.events) on None 0 k) last) (own_is ∙ sym root_end)
      ∙ sym (row_is fig.events t.root on None)
  all_rows (Some s) =
      rows fig.events fig.are_events wf on counts (Some s) ∙ ap (λ k. share fig.events t.root (spans_of fig.events) on (Some s) 0 k) last
      ∙ sym (plus-zero (share fig.events t.root (spans_of fig.events) on (Some s) 0 (length fig.events)))
      ∙ ap (λ r. plus (share fig.events t.root (spans_of fig.events) on (Some s) 0 (length fig.events)) r) (sym ((end_law fig.events wf t.root (spans_of fig.events) on).1 s))
      ∙ sym (row_is fig.events t.root on (Some s))

  pub root_fits : IsSmall fig.events → Fits (plus table.root (frame_row (record { local = 0; work = f.work; span = f.span; top_site = true; top_caller = true })))
  root_fits small = subst Fits (sym (all_rows None)) (small_fits _ (rows_fit fig.events small t.root (spans_of fig.events) (are_spans fig.events wf) on None).0)

module _ (t : Recording) (b : Burdens) (f : Figures) (fig : AreFigures t.records b f) where
  formed : IsWellFormed fig.events
  formed = subst (λ (rs : List Record). nesting.IsWellFormed rs) fig.are_events fig.well_formed

  pub dag_is : (n : ℕ) → n ≡ length t.records → (table : Sums) → AreRowsTo Everywhere t n table → (new : Sums) → new ≡ with_root f table → IsDagTable t new
  dag_is n end table rows new same =
      subst (λ x. IsDagTable t x) (sym same)
      (fig.well_formed, (fig.events, fig.are_events, (spans_of fig.events, are_spans fig.events formed, all_rows Everywhere t b f fig n end table rows everywhere refl refl)))

  -- the path of the run under other burdens, or the same
  pub path_of : (bd : Burdens) → (rest : List ℕ) × IsPath fig.events bd 0 (length fig.events) rest
  path_of bd = path_exists fig.events formed bd 0 refl

  pub path_is : (bd : Burdens) (n : ℕ) → n ≡ length t.records → (table : Sums) → AreRowsTo (OnPath bd) t n table → (new : Sums) → new ≡ with_root f table → IsPathTable t bd new
  path_is bd n end table rows new same =
      let path = path_of bd in
      subst (λ x. IsPathTable t bd x) (sym same) (
        fig.well_formed,
        (
          fig.events,
          fig.are_events,
          (
            spans_of fig.events,
            are_spans fig.events formed,
            (path.0, path.1, all_rows (OnPath bd) t b f fig n end table rows (contains (0 ∷ path.0)) (path.0, path.1, refl) refl),
          ),
        ),
      )
