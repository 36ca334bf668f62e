-- What the reference profiler answers.
use Rattle.std.specs.Prelude.{◌≡◌, ℕ, List, ◌∷◌, length, Option, Some, None}
use Rattle.spp_event.specs.declared.records.Event.{Event}
use Rattle.spp_event.specs.Recordings.{Recording}
use Rattle.spp_frame.specs.Nesting.{AreEvents}
use Rattle.spp_maxplus.specs.declared.state.Burdens.{Burdens}
use Rattle.spp_dag.specs.declared.row.Row.{Row}
use Rattle.spp_dag.specs.Rows.{contains}
use Rattle.spp_dag.specs.Profile.{Profile, IsProfile}
use Rattle.spp_reference.specs.Dags.{Lists}
use Rattle.spp_reference.specs.declared.answers.SiteRows.{SiteRows}
use Rattle.spp_reference.specs.declared.answers.Reference.{Reference}

-- the table has the row of the root and those of the sites below a number
pub record AreRows (row : Option ℕ → Row) (count : ℕ) (t : SiteRows) : Type 0 where
  pub root : t.root ≡ row None
  pub sites : Lists count (λ site. row (Some site)) t.sites.items

-- the profile of the dag of these events, with its path without burdens
pub record IsProfiled (events : List Event) (root sites : ℕ) (burdens : Burdens) (r : Reference) : Type 0 where
  pub profile : Profile
  pub is_profile : IsProfile events root burdens profile
  pub work_is : r.work ≡ profile.work
  pub span_is : r.span ≡ profile.span
  pub burdened_span_is : r.burdened_span ≡ profile.burdened_span
  pub path_is : r.path.items ≡ 0 ∷ is_profile.rest
  pub marks_are : Lists (length events) (contains r.path.items) r.marks.items
  pub dag_rows_are : AreRows profile.dag sites r.dag_rows
  pub path_rows_are : AreRows profile.path sites r.path_rows
  pub burdened_path_rows_are : AreRows profile.burdened_path sites r.burdened_path_rows

-- the profile of the trace
abbrev pub IsReference : Recording → Burdens → Reference → Type 0
IsReference trace burdens r =
    (events : List Event) × AreEvents trace.records events × IsProfiled events trace.root (length trace.sites) burdens r
