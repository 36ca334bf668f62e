-- The rows of a path are light.
use Rattle.std.proofs.Common.{ℕ, ◌<◌, ◌^◌, List, ◌∷◌, length, Some, sym, subst}
use Rattle.spp_event.specs.declared.records.Event.{Event}
use Rattle.spp_dag.specs.declared.row.Row.{Row}
use Rattle.spp_dag.specs.Rows.{contains}
use Rattle.spp_dag.proofs.Bounds.{rows_fit}
use Rattle.spp_dag.proofs.EventsOfRecords.{known_small}
use Rattle.spp_advice.specs.Laws.{ProfilesAreLight}
use Rattle.spp_event.specs.Recordings.{Recording, InLimits, AreEventsOf}
use Rattle.spp_maxplus.specs.declared.state.Burdens.{Burdens}
use Rattle.spp_maxplus.specs.State.{unburdened}
use Rattle.spp_site.specs.Table.{Sums, row_at}
use Rattle.spp_site.specs.Profiles.{IsPathTable}

path_tables_are_light : (trace : Recording) → InLimits trace → AreEventsOf (length trace.sites) (length trace.funcs) trace.records
    → (burdens : Burdens) (t : Sums) → IsPathTable trace burdens t → (site : ℕ) → (row_at t site).local < 2 ^ 92
path_tables_are_light trace limits within burdens t h site =
    let es : List Event = h.1.0 in
    let rows = h.1.2 in
    let small = known_small trace.records (length trace.sites) (length trace.funcs) es limits.events h.1.1 within in
    let fits = (rows_fit es small trace.root rows.0 rows.1 (contains (0 ∷ rows.2.0)) (Some site)).0 in
    subst (λ (r : Row). r.local < 2 ^ 92) (sym (rows.2.2 (Some site))) fits.local

pub profiles_are_light : ProfilesAreLight
profiles_are_light trace limits within burdens p path burdened = record {
  path = path_tables_are_light trace limits within unburdened p.path path;
  burdened_path = path_tables_are_light trace limits within burdens p.burdened_path burdened;
}
