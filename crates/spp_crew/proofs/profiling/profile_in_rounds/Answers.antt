use Rattle.std.proofs.Common.{ℕ, ◌∷◌, length, List, None, Some, refl, sym, ap, subst, ◌∙◌}
use Rattle.spp_event.specs.Recordings.{Recording}
use Rattle.spp_maxplus.specs.declared.state.Burdens.{Burdens}
use Rattle.spp_maxplus.specs.State.{unburdened}
use Rattle.spp_dag.specs.declared.choices.Choices.{Choices}
use Rattle.spp_dag.specs.declared.row.Row.{Row}
use Rattle.spp_dag.specs.Rows.{everywhere, contains}
use Rattle.spp_dag.specs.Shares.{plus}
use Rattle.spp_site.specs.Rows.{Fits}
use Rattle.spp_site.specs.Table.{Sums}
use Rattle.spp_site.specs.Profiles.{IsDagTable, IsPathTable}
use Rattle.spp_site.proofs.WholeProfile.{whole}
use Rattle.spp_jobs.specs.Choices.{AreChoicesOf}
use Rattle.spp_jobs.proofs.Shares.{Everywhere, OnPath, root_fits, path_of, dag_is, path_is}
use Rattle.spp_jobs.proofs.Tables.{tabled_fits}
use Rattle.spp_jobs.proofs.Paths.{path_fits, burdened_path_fits}
use Rattle.spp_crew.proofs.Profiled.{table_of, path_of_job, dag_rows, path_rows, burdened_rows, rows_again, all_choices}
use Rattle.spp_crew.proofs.profiling.profile_in_rounds.Goals as goal

pub pathed-requires-clause-choices : goal.pathed-requires-clause-choices
pathed-requires-clause-choices g c = λ κs lives es are.
    subst (λ (cs : List Choices). AreChoicesOf es c.args.burdens c.args.cut.now.parts cs) (sym (c.deref-2.ensures.value ∙ c.into_vec-choices.ensures.items))
    (all_choices (table_of c.args.cut.now c.args.burdens) c.parts-parts.ensures.cut c.in_ok-share.field-0 c.in_ok-share.ensures es are)

pub from_share-requires-clause-root_fits : goal.from_share-requires-clause-root_fits
from_share-requires-clause-root_fits g c = tabled_fits (table_of c.args.cut.now c.args.burdens) 0 (length c.args.cut.now.parts) c.in_ok-share.field-0 c.in_ok-share.ensures None

pub from_share-requires-clause-sites_fit : goal.from_share-requires-clause-sites_fit
from_share-requires-clause-sites_fit g c = λ s. tabled_fits (table_of c.args.cut.now c.args.burdens) 0 (length c.args.cut.now.parts) c.in_ok-share.field-0 c.in_ok-share.ensures (Some s)

pub from_share-requires-2-clause-root_fits : goal.from_share-requires-2-clause-root_fits
from_share-requires-2-clause-root_fits g c = path_fits (path_of_job c.args.cut.now c.args.burdens) 0 (length c.args.cut.now.parts) c.in_ok-on_paths.on_paths c.in_ok-on_paths.ensures None

pub from_share-requires-2-clause-sites_fit : goal.from_share-requires-2-clause-sites_fit
from_share-requires-2-clause-sites_fit g c = λ s. path_fits (path_of_job c.args.cut.now c.args.burdens) 0 (length c.args.cut.now.parts) c.in_ok-on_paths.on_paths c.in_ok-on_paths.ensures (Some s)

pub from_share-requires-3-clause-root_fits : goal.from_share-requires-3-clause-root_fits
from_share-requires-3-clause-root_fits g c = burdened_path_fits (path_of_job c.args.cut.now c.args.burdens) 0 (length c.args.cut.now.parts) c.in_ok-on_paths.on_paths c.in_ok-on_paths.ensures None

pub from_share-requires-3-clause-sites_fit : goal.from_share-requires-3-clause-sites_fit
from_share-requires-3-clause-sites_fit g c = λ s. burdened_path_fits (path_of_job c.args.cut.now c.args.burdens) 0 (length c.args.cut.now.parts) c.in_ok-on_paths.on_paths c.in_ok-on_paths.ensures (Some s)

pub add_root-requires : goal.add_root-requires
add_root-requires g c =
    let t : Recording = c.args.cut.now.trace in
    let b : Burdens = c.args.burdens in
    let fig = c.in_ok-found.ensures.figures in
    let n : ℕ = length t.records in
    let small = (c.in_ok-found.ensures.parts fig.events fig.are_events).small in
    subst (λ (r : Row). Fits (plus c.in_ok-dag.dag.root r)) (sym c.root_row-root.ensures)
    (root_fits Everywhere t b c.in_ok-found.found.figures fig n refl c.in_ok-dag.dag (rows_again Everywhere t n c.in_ok-share.field-0.share c.in_ok-dag.dag c.in_ok-dag.ensures (dag_rows (table_of c.args.cut.now b) c.parts-parts.ensures.cut c.in_ok-share.field-0 c.in_ok-share.ensures)) everywhere refl refl small)

pub add_root-requires-2 : goal.add_root-requires-2
add_root-requires-2 g c =
    let t : Recording = c.args.cut.now.trace in
    let b : Burdens = c.args.burdens in
    let fig = c.in_ok-found.ensures.figures in
    let n : ℕ = length t.records in
    let small = (c.in_ok-found.ensures.parts fig.events fig.are_events).small in
    let path = path_of t b c.in_ok-found.found.figures fig unburdened in
    subst (λ (r : Row). Fits (plus c.in_ok-path.path.root r)) (sym c.root_row-root.ensures)
    (root_fits (OnPath unburdened) t b c.in_ok-found.found.figures fig n refl c.in_ok-path.path (rows_again (OnPath unburdened) t n c.in_ok-on_paths.on_paths.path c.in_ok-path.path c.in_ok-path.ensures (path_rows (path_of_job c.args.cut.now b) c.parts-parts.ensures.cut c.in_ok-on_paths.on_paths c.in_ok-on_paths.ensures)) (contains (0 ∷ path.0)) (path.0, path.1, refl) refl small)

pub add_root-requires-3 : goal.add_root-requires-3
add_root-requires-3 g c =
    let t : Recording = c.args.cut.now.trace in
    let b : Burdens = c.args.burdens in
    let fig = c.in_ok-found.ensures.figures in
    let n : ℕ = length t.records in
    let small = (c.in_ok-found.ensures.parts fig.events fig.are_events).small in
    let path = path_of t b c.in_ok-found.found.figures fig b in
    subst (λ (r : Row). Fits (plus c.in_ok-burdened_path.burdened_path.root r)) (sym c.root_row-root.ensures)
    (root_fits (OnPath b) t b c.in_ok-found.found.figures fig n refl c.in_ok-burdened_path.burdened_path (rows_again (OnPath b) t n c.in_ok-on_paths.on_paths.burdened_path c.in_ok-burdened_path.burdened_path c.in_ok-burdened_path.ensures (burdened_rows (path_of_job c.args.cut.now b) c.parts-parts.ensures.cut c.in_ok-on_paths.on_paths c.in_ok-on_paths.ensures)) (contains (0 ∷ path.0)) (path.0, path.1, refl) refl small)

pub returns-clause-dag : goal.returns-clause-dag
returns-clause-dag g c =
    let t : Recording = c.args.cut.now.trace in
    let b : Burdens = c.args.burdens in
    let fig = c.in_ok-found.ensures.figures in
    let n : ℕ = length t.records in
    dag_is t b c.in_ok-found.found.figures fig n refl c.in_ok-dag.dag (rows_again Everywhere t n c.in_ok-share.field-0.share c.in_ok-dag.dag c.in_ok-dag.ensures (dag_rows (table_of c.args.cut.now b) c.parts-parts.ensures.cut c.in_ok-share.field-0 c.in_ok-share.ensures)) c.add_root.new.self (c.add_root.ensures ∙ ap (λ (r : Row). let u : Sums = record c.in_ok-dag.dag { root = plus c.in_ok-dag.dag.root r } in u) c.root_row-root.ensures)

pub returns-clause-path : goal.returns-clause-path
returns-clause-path g c =
    let t : Recording = c.args.cut.now.trace in
    let b : Burdens = c.args.burdens in
    let fig = c.in_ok-found.ensures.figures in
    let n : ℕ = length t.records in
    path_is t b c.in_ok-found.found.figures fig unburdened n refl c.in_ok-path.path (rows_again (OnPath unburdened) t n c.in_ok-on_paths.on_paths.path c.in_ok-path.path c.in_ok-path.ensures (path_rows (path_of_job c.args.cut.now b) c.parts-parts.ensures.cut c.in_ok-on_paths.on_paths c.in_ok-on_paths.ensures)) c.add_root-2.new.self (c.add_root-2.ensures ∙ ap (λ (r : Row). let u : Sums = record c.in_ok-path.path { root = plus c.in_ok-path.path.root r } in u) c.root_row-root.ensures)

pub returns-clause-burdened_path : goal.returns-clause-burdened_path
returns-clause-burdened_path g c =
    let t : Recording = c.args.cut.now.trace in
    let b : Burdens = c.args.burdens in
    let fig = c.in_ok-found.ensures.figures in
    let n : ℕ = length t.records in
    path_is t b c.in_ok-found.found.figures fig b n refl c.in_ok-burdened_path.burdened_path (rows_again (OnPath b) t n c.in_ok-on_paths.on_paths.burdened_path c.in_ok-burdened_path.burdened_path c.in_ok-burdened_path.ensures (burdened_rows (path_of_job c.args.cut.now b) c.parts-parts.ensures.cut c.in_ok-on_paths.on_paths c.in_ok-on_paths.ensures)) c.add_root-3.new.self (c.add_root-3.ensures ∙ ap (λ (r : Row). let u : Sums = record c.in_ok-burdened_path.burdened_path { root = plus c.in_ok-burdened_path.burdened_path.root r } in u) c.root_row-root.ensures)

pub returns-clause-profile : goal.returns-clause-profile
returns-clause-profile g c =
    let t : Recording = c.args.cut.now.trace in
    let b : Burdens = c.args.burdens in
    let fig = c.in_ok-found.ensures.figures in
    let n : ℕ = length t.records in
    let dags : IsDagTable t c.add_root.new.self = dag_is t b c.in_ok-found.found.figures fig n refl c.in_ok-dag.dag (rows_again Everywhere t n c.in_ok-share.field-0.share c.in_ok-dag.dag c.in_ok-dag.ensures (dag_rows (table_of c.args.cut.now b) c.parts-parts.ensures.cut c.in_ok-share.field-0 c.in_ok-share.ensures)) c.add_root.new.self (c.add_root.ensures ∙ ap (λ (r : Row). let u : Sums = record c.in_ok-dag.dag { root = plus c.in_ok-dag.dag.root r } in u) c.root_row-root.ensures) in
    let one : IsPathTable t unburdened c.add_root-2.new.self = path_is t b c.in_ok-found.found.figures fig unburdened n refl c.in_ok-path.path (rows_again (OnPath unburdened) t n c.in_ok-on_paths.on_paths.path c.in_ok-path.path c.in_ok-path.ensures (path_rows (path_of_job c.args.cut.now b) c.parts-parts.ensures.cut c.in_ok-on_paths.on_paths c.in_ok-on_paths.ensures)) c.add_root-2.new.self (c.add_root-2.ensures ∙ ap (λ (r : Row). let u : Sums = record c.in_ok-path.path { root = plus c.in_ok-path.path.root r } in u) c.root_row-root.ensures) in
    let other : IsPathTable t b c.add_root-3.new.self = path_is t b c.in_ok-found.found.figures fig b n refl c.in_ok-burdened_path.burdened_path (rows_again (OnPath b) t n c.in_ok-on_paths.on_paths.burdened_path c.in_ok-burdened_path.burdened_path c.in_ok-burdened_path.ensures (burdened_rows (path_of_job c.args.cut.now b) c.parts-parts.ensures.cut c.in_ok-on_paths.on_paths c.in_ok-on_paths.ensures)) c.add_root-3.new.self (c.add_root-3.ensures ∙ ap (λ (r : Row). let u : Sums = record c.in_ok-burdened_path.burdened_path { root = plus c.in_ok-burdened_path.burdened_path.root r } in u) c.root_row-root.ensures) in
    whole t b (record { figures = c.in_ok-found.found.figures; dag = c.add_root.new.self; path = c.add_root-2.new.self; burdened_path = c.add_root-3.new.self }) fig dags one other
