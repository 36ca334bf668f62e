-- What the profile of a run says: work and spans, and a row for the root and for each site, on the whole dag, on the
-- path, and on the path that is greatest under the burdens.
use Rattle.std.specs.Prelude.{◌≡◌, ℕ, List, ◌∷◌, length, Option}
use Rattle.spp_event.specs.declared.records.Event.{Event}
use Rattle.spp_maxplus.specs.declared.state.Burdens.{Burdens}
use Rattle.spp_maxplus.specs.State.{unburdened}
use Rattle.spp_frame.specs.Nesting as nesting
use Rattle.spp_dag.specs.declared.row.Row.{Row}
use Rattle.spp_dag.specs.Trace.{records, IsWellFormed}
use Rattle.spp_dag.specs.Dag.{IsSpan, IsPath}
use Rattle.spp_dag.specs.Rows.{AreSpans, row, everywhere, contains}

-- a table has the row of the root at None, and that of a site at its number
pub record Profile : Type 0 where
  pub work : ℕ
  pub span : ℕ
  pub burdened_span : ℕ
  pub dag : Option ℕ → Row
  pub path : Option ℕ → Row
  pub burdened_path : Option ℕ → Row

-- the profile that the dag of a well-formed trace defines; `root` is the function of the root frame
pub record IsProfile (es : List Event) (root : ℕ) (burdens : Burdens) (p : Profile) : Type 0 where
  pub well_formed : IsWellFormed es
  pub work : p.work ≡ nesting.work (records es)
  pub span : IsSpan es unburdened p.span
  pub burdened_span : IsSpan es burdens p.burdened_span
  pub spans : ℕ → ℕ
  pub are_spans : AreSpans es spans
  pub rest : List ℕ
  pub is_path : IsPath es unburdened 0 (length es) rest
  pub dag : (key : Option ℕ) → p.dag key ≡ row es root spans everywhere key
  pub path : (key : Option ℕ) → p.path key ≡ row es root spans (contains (0 ∷ rest)) key
  pub burdened_rest : List ℕ
  pub is_burdened_path : IsPath es burdens 0 (length es) burdened_rest
  pub burdened_path : (key : Option ℕ) → p.burdened_path key ≡ row es root spans (contains (0 ∷ burdened_rest)) key
