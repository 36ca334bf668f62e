-- The figures, the table of the dag and those of the paths make the profile.
use Rattle.std.proofs.Common.{◌≡◌, ℕ, List, ◌∷◌, map, Ok, sym, ap, subst, ◌∙◌, refl}
use Rattle.spp_event.specs.declared.records.Event.{Event}
use Rattle.spp_event.specs.Recordings.{Record, Recording}
use Rattle.spp_frame.specs.Nesting.{AreEvents, IsWellFormed, work}
use Rattle.spp_maxplus.specs.declared.state.Burdens.{Burdens}
use Rattle.spp_maxplus.specs.State.{unburdened}
use Rattle.spp_dag.specs.Profile as dag
use Rattle.spp_dag.specs.Rows.{row, everywhere, contains}
use Rattle.spp_dag.proofs.Profiles.{rows_one}
use Rattle.spp_site.specs.Profiles.{IsPathTable, ArePathRows}
use Rattle.spp_dag.specs.Figures.{AreFigures}
use Rattle.spp_dag.proofs.EventsOfRecords.{same_events}
use Rattle.spp_site.specs.declared.profile.Profile.{Profile}
use Rattle.spp_site.specs.Profiles.{IsDagTable, IsProfileOf, AreDagRows}

pub whole : (trace : Recording) (burdens : Burdens) (p : Profile) → AreFigures trace.records burdens p.figures → IsDagTable trace p.dag
    → IsPathTable trace unburdened p.path → IsPathTable trace burdens p.burdened_path → IsProfileOf trace burdens p
whole trace burdens p figures dags paths ways =
    let es : List Event = figures.events in
    let here : AreEvents trace.records es = figures.are_events in
    let one = dags.1 in
    let two = paths.1 in
    let three = ways.1 in
    let dag_same : one.0 ≡ es = same_events one.0 es (sym one.1 ∙ here) in
    let path_same : two.0 ≡ es = same_events two.0 es (sym two.1 ∙ here) in
    let way_same : three.0 ≡ es = same_events three.0 es (sym three.1 ∙ here) in
    let rows : AreDagRows es trace.root p.dag = subst (λ l. AreDagRows l trace.root p.dag) dag_same one.2 in
    let on : ArePathRows es unburdened trace.root p.path = subst (λ l. ArePathRows l unburdened trace.root p.path) path_same two.2 in
    let under : ArePathRows es burdens trace.root p.burdened_path = subst (λ l. ArePathRows l burdens trace.root p.burdened_path) way_same three.2 in
    let formed : IsWellFormed (map (λ e. Ok e) es) = subst IsWellFormed here figures.well_formed in
    let rest : List ℕ = on.2.0 in
    let way : List ℕ = under.2.0 in
    let q : dag.Profile = record {
      work = p.figures.work;
      span = p.figures.span;
      burdened_span = p.figures.burdened;
      dag = λ key. row es trace.root rows.0 everywhere key;
      path = λ key. row es trace.root rows.0 (contains (0 ∷ rest)) key;
      burdened_path = λ key. row es trace.root rows.0 (contains (0 ∷ way)) key;
    } in (
      es,
      here,
      (
        q,
        record {
          well_formed = formed;
          work = figures.work ∙ ap (λ (rs : List Record). work rs) here;
          span = figures.span;
          burdened_span = figures.burdened;
          spans = rows.0;
          are_spans = rows.1;
          rest = rest;
          is_path = on.2.1;
          dag = λ key. refl;
          path = λ key. refl;
          burdened_rest = way;
          is_burdened_path = under.2.1;
          burdened_path = λ key. refl;
        },
        refl,
        rows.2,
        λ key. on.2.2 key ∙ rows_one es trace.root (contains (0 ∷ rest)) on.0 rows.0 key on.1 rows.1,
        λ key. under.2.2 key ∙ rows_one es trace.root (contains (0 ∷ way)) under.0 rows.0 key under.1 rows.1,
      ),
    )
