-- Rows of neighbouring ranges, added up.
use Rattle.std.proofs.Common.{◌≡◌, ℕ, ◌≤◌, Bool, List, Option, Some, None, sym, ap₂, subst, ◌∙◌, add_comm}
use Rattle.spp_event.specs.declared.records.Event.{Event}
use Rattle.spp_dag.specs.declared.row.Row.{Row}
use Rattle.spp_dag.specs.Trace.{IsWellFormed}
use Rattle.spp_dag.specs.Limits.{IsSmall}
use Rattle.spp_dag.specs.Rows.{AreSpans}
use Rattle.spp_dag.specs.Shares.{share, plus}
use Rattle.spp_dag.proofs.Bounds.{rows_fit}
use Rattle.spp_dag.proofs.Profiles.{shares_one, spans_of, are_spans}
use Rattle.spp_dag.proofs.Shares.{same_rows, shares_law}
use Rattle.spp_site.specs.Rows.{Fits}
use Rattle.spp_site.specs.Table.{Sums, row_at, IsSum}
use Rattle.spp_site.specs.Profiles.{key_row}
use Rattle.spp_jobs.proofs.Shares.{small_fits}

-- ---- sums of two

pub plus-comm : (a b : Row) → plus a b ≡ plus b a
plus-comm a b =
    same_rows (plus a b) (plus b a) (add_comm a.count b.count) (add_comm a.local b.local) (add_comm a.site_count b.site_count) (add_comm a.site_work b.site_work)
    (add_comm a.site_span b.site_span) (add_comm a.caller_count b.caller_count) (add_comm a.caller_work b.caller_work) (add_comm a.caller_span b.caller_span)

pub sum_turned : (a b t : Sums) → IsSum b a t → IsSum a b t
sum_turned a b t h = record {
  root = h.root ∙ plus-comm b.root a.root;
  sites = λ s. h.sites s ∙ plus-comm (row_at b s) (row_at a s);
}

pub sum_key : (a b t : Sums) → IsSum a b t → (key : Option ℕ) → key_row t key ≡ plus (key_row a key) (key_row b key)
sum_key a b t h None = h.root
sum_key a b t h (Some s) = h.sites s

-- ---- the share of a range

-- as contracts tell it, of the positions that count
abbrev pub IsRange : List Event → ℕ → (ℕ → Bool) → ℕ → ℕ → Sums → Type 0
IsRange es root on from to t = (span : ℕ → ℕ) × AreSpans es span × ((key : Option ℕ) → key_row t key ≡ share es root span on key from to)

-- with the spans of the run
abbrev pub AreRows : List Event → ℕ → (ℕ → Bool) → ℕ → ℕ → Sums → Type 0
AreRows es root on from to t = (key : Option ℕ) → key_row t key ≡ share es root (spans_of es) on key from to

module _ (es : List Event) (wf : IsWellFormed es) (root : ℕ) (on : ℕ → Bool) where
  pub rows_of : (from to : ℕ) (t : Sums) → IsRange es root on from to t → AreRows es root on from to t
  rows_of from to t told key = told.2 key ∙ shares_one es root on told.0 (spans_of es) key from to told.1 (are_spans es wf)

  pub range_of : (from to : ℕ) (t : Sums) → AreRows es root on from to t → IsRange es root on from to t
  range_of from to t rows = (spans_of es, are_spans es wf, rows)

  module _ (small : IsSmall es) where
    pub range_fits : (from to : ℕ) (key : Option ℕ) → Fits (share es root (spans_of es) on key from to)
    range_fits from to key = small_fits _ ((rows_fit es small root (spans_of es) (are_spans es wf) on key).1 from to)

    module _ (from mid to : ℕ) (low : from ≤ mid) (high : mid ≤ to) (x y : Sums) (left : AreRows es root on from mid x) (right : AreRows es root on mid to y) where
      both_rows : (key : Option ℕ) → plus (key_row x key) (key_row y key) ≡ share es root (spans_of es) on key from to
      both_rows key = ap₂ plus (left key) (right key) ∙ sym (shares_law es root (spans_of es) on key from mid to low high)

      pub two_fit : (key : Option ℕ) → Fits (plus (key_row x key) (key_row y key))
      two_fit key = subst Fits (sym (both_rows key)) (range_fits from to key)

      pub two_rows : (z : Sums) → IsSum x y z → AreRows es root on from to z
      two_rows z sum key = sum_key x y z sum key ∙ both_rows key
