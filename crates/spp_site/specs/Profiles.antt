-- The tables of a run on its whole dag and on its paths, and its whole profile.
use Rattle.std.specs.Prelude.{◌≡◌, ℕ, List, ◌∷◌, length, Option, Some, None}
use Rattle.spp_event.specs.declared.records.Event.{Event}
use Rattle.spp_event.specs.Recordings.{Recording}
use Rattle.spp_frame.specs.Nesting.{AreEvents, IsWellFormed}
use Rattle.spp_dag.specs.declared.row.Row.{Row}
use Rattle.spp_dag.specs.Dag.{IsPath}
use Rattle.spp_dag.specs.Rows.{AreSpans, contains, row, everywhere}
use Rattle.spp_site.specs.Table.{Sums, row_at}
use Rattle.spp_maxplus.specs.declared.state.Burdens.{Burdens}
use Rattle.spp_dag.specs.Profile as dag
use Rattle.spp_site.specs.declared.profile.Profile.{Profile}

-- the row of a site, or of the root where none is given
abbrev pub key_row : Sums → Option ℕ → Row
key_row t None = t.root
key_row t (Some site) = row_at t site

-- each row is that of the path of these events under the burdens; spans have none
abbrev pub ArePathRows : List Event → Burdens → ℕ → Sums → Type 0
ArePathRows es burdens root t = (span : ℕ → ℕ) × AreSpans es span × ((rest : List ℕ) × IsPath es burdens 0 (length es) rest
    × ((key : Option ℕ) → key_row t key ≡ row es root span (contains (0 ∷ rest)) key))

-- the trace is well-formed, and the table is that of its path under the burdens
abbrev pub IsPathTable : Recording → Burdens → Sums → Type 0
IsPathTable trace burdens t = IsWellFormed trace.records × ((es : List Event) × AreEvents trace.records es × ArePathRows es burdens trace.root t)

-- each row is that of the dag of these events
abbrev pub AreDagRows : List Event → ℕ → Sums → Type 0
AreDagRows es root t = (span : ℕ → ℕ) × AreSpans es span × ((key : Option ℕ) → key_row t key ≡ row es root span everywhere key)

-- the trace is well-formed, and the table is that of its dag
abbrev pub IsDagTable : Recording → Sums → Type 0
IsDagTable trace t = IsWellFormed trace.records × ((es : List Event) × AreEvents trace.records es × AreDagRows es trace.root t)

-- the profile of the run whose trace this is, as its dag defines it: figures and the rows of the three tables
abbrev pub IsProfileOf : Recording → Burdens → Profile → Type 0
IsProfileOf trace burdens p = (es : List Event) × AreEvents trace.records es
    × ((q : dag.Profile) × dag.IsProfile es trace.root burdens q
    × (p.figures ≡ record { work = q.work; span = q.span; burdened = q.burdened_span })
    × ((key : Option ℕ) → key_row p.dag key ≡ q.dag key)
    × ((key : Option ℕ) → key_row p.path key ≡ q.path key)
    × ((key : Option ℕ) → key_row p.burdened_path key ≡ q.burdened_path key))
