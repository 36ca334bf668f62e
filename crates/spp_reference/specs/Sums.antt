-- The rows of a table as sums over positions.
use Rattle.std.specs.Prelude.{ℕ, Bool, ◌&&◌, cond, List, Option}
use Rattle.spp_event.specs.declared.records.Event.{Event}
use Rattle.spp_dag.specs.declared.row.Row.{Row}
use Rattle.spp_dag.specs.Ranges.{sum_where}
use Rattle.spp_dag.specs.Trace.{weight, owner}
use Rattle.spp_dag.specs.Rows.{is_of, is_top_site, is_top_caller, work}

-- what the positions below n add to a row
abbrev pub row_below : List Event → ℕ → (ℕ → ℕ) → (ℕ → Bool) → (ℕ → Bool) → ℕ → Row
row_below es root span frames places n = record {
  count = sum_where frames (λ _. 1) n;
  local = sum_where places (weight es) n;
  site_count = sum_where (λ f. frames f && is_top_site es f) (λ _. 1) n;
  site_work = sum_where (λ f. frames f && is_top_site es f) (work es) n;
  site_span = sum_where (λ f. frames f && is_top_site es f) span n;
  caller_count = sum_where (λ f. frames f && is_top_caller es root f) (λ _. 1) n;
  caller_work = sum_where (λ f. frames f && is_top_caller es root f) (work es) n;
  caller_span = sum_where (λ f. frames f && is_top_caller es root f) span n;
}

-- what one position adds to the row of a key, where the table is about the positions that `on` has
abbrev pub term : List Event → ℕ → (ℕ → ℕ) → (ℕ → Bool) → Option ℕ → ℕ → Row
term es root span on key i = record {
  count = cond (on i && is_of es key i) 1 0;
  local = cond (on i && is_of es key (owner es i)) (weight es i) 0;
  site_count = cond ((on i && is_of es key i) && is_top_site es i) 1 0;
  site_work = cond ((on i && is_of es key i) && is_top_site es i) (work es i) 0;
  site_span = cond ((on i && is_of es key i) && is_top_site es i) (span i) 0;
  caller_count = cond ((on i && is_of es key i) && is_top_caller es root i) 1 0;
  caller_work = cond ((on i && is_of es key i) && is_top_caller es root i) (work es i) 0;
  caller_span = cond ((on i && is_of es key i) && is_top_caller es root i) (span i) 0;
}
