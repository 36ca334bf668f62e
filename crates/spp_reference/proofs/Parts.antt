-- The reference's parts make the profile.
use Rattle.std.proofs.Common.{◌≡◌, ℕ, List, ◌∷◌, length, get_or, refl, sym, subst, ◌∙◌}
use Rattle.spp_event.specs.declared.records.Event.{Event}
use Rattle.spp_maxplus.specs.declared.state.Burdens.{Burdens}
use Rattle.spp_maxplus.specs.State.{unburdened}
use Rattle.spp_dag.specs.Trace.{closing, IsWellFormed}
use Rattle.spp_dag.specs.Dag.{IsGreatest, IsPath}
use Rattle.spp_dag.specs.Rows.{AreSpans, contains, everywhere, row, work}
use Rattle.spp_dag.proofs.Profiles.{root_work}
use Rattle.spp_reference.specs.Dags.{Lists}
use Rattle.spp_reference.specs.Profiles.{AreRows, IsProfiled}
use Rattle.spp_reference.specs.declared.answers.Reference.{Reference}

-- what the parts say
pub record Parts (es : List Event) (root sites : ℕ) (burdens : Burdens) (spans : List ℕ) (r : Reference) : Type 0 where
  pub well_formed : IsWellFormed es
  pub work_is : r.work ≡ work es 0
  pub are_spans : AreSpans es (λ f. get_or spans f 0)
  pub span_is : r.span ≡ get_or spans 0 0
  pub burdened : IsGreatest es burdens 0 (closing es 0) r.burdened_span
  pub path : (rest : List ℕ) × (r.path.items ≡ 0 ∷ rest) × IsPath es unburdened 0 (length es) rest
  pub marks : Lists (length es) (contains r.path.items) r.marks.items
  pub dag_rows : AreRows (row es root (λ f. get_or spans f 0) everywhere) sites r.dag_rows
  pub path_rows : AreRows (row es root (λ f. get_or spans f 0) (contains r.path.items)) sites r.path_rows
  pub burdened_path : (rest : List ℕ) × IsPath es burdens 0 (length es) rest
      × AreRows (row es root (λ f. get_or spans f 0) (contains (0 ∷ rest))) sites r.burdened_path_rows

pub parts_are : (es : List Event) (root sites : ℕ) (burdens : Burdens) (spans : List ℕ) (r : Reference)
    → Parts es root sites burdens spans r → IsProfiled es root sites burdens r
parts_are es root sites burdens spans r p =
    let span : ℕ → ℕ = λ f. get_or spans f 0 in
    record {
      profile = record {
        work = r.work;
        span = r.span;
        burdened_span = r.burdened_span;
        dag = row es root span everywhere;
        path = row es root span (contains (0 ∷ p.path.0));
        burdened_path = row es root span (contains (0 ∷ p.burdened_path.0));
      };
      is_profile = record {
        well_formed = p.well_formed;
        work = p.work_is ∙ root_work es;
        span = subst (λ w. IsGreatest es unburdened 0 (length es) w) (sym p.span_is) (p.are_spans 0 refl);
        burdened_span = p.burdened;
        spans = span;
        are_spans = p.are_spans;
        rest = p.path.0;
        is_path = p.path.2;
        dag = λ key. refl;
        path = λ key. refl;
        burdened_rest = p.burdened_path.0;
        is_burdened_path = p.burdened_path.1;
        burdened_path = λ key. refl;
      };
      work_is = refl;
      span_is = refl;
      burdened_span_is = refl;
      path_is = p.path.1;
      marks_are = p.marks;
      dag_rows_are = p.dag_rows;
      path_rows_are = subst (λ (ps : List ℕ). AreRows (row es root span (contains ps)) sites r.path_rows) p.path.1 p.path_rows;
      burdened_path_rows_are = p.burdened_path.2;
    }
