use Rattle.std.proofs.Common.{◌≡◌, ℕ, List, ◌∷◌, length, get_or, suc, subst, ◌∙◌, arith}
use Rattle.std.proofs.lemmas.Grind.{get_or_default_zero}
use Rattle.spp_maxplus.specs.declared.state.Burdens.{Burdens}
use Rattle.spp_maxplus.specs.State.{unburdened}
use Rattle.spp_dag.specs.Dag.{IsPath}
use Rattle.spp_dag.specs.Rows.{row, contains, everywhere}
use Rattle.spp_reference.specs.Dags.{Lists}
use Rattle.spp_reference.specs.Profiles.{AreRows}
use Rattle.spp_reference.specs.declared.answers.Reference.{Reference}
use Rattle.spp_reference.proofs.Greatest.{default_is}
use Rattle.spp_reference.proofs.Parts.{parts_are}
use Rattle.spp_reference.proofs.answers.profiled.Goals as goal

pub returns : goal.returns
returns c =
    let es = c.args.dag.now in
    let spans = c.in_ok-spans.spans.items in
    let path = c.in_ok-path.path.items in
    let n : length spans ≡ suc (length es) = c.in_ok-spans.ensures.count in
    let burdened_path = c.in_ok-burdened_path.burdened_path.items in
    let passed : (rest : List ℕ) × (path ≡ 0 ∷ rest) × IsPath es unburdened 0 (length es) rest =
    subst (λ (b : Burdens). (rest : List ℕ) × (path ≡ 0 ∷ rest) × IsPath es b 0 (length es) rest) (default_is c.default.result c.default.ensures) c.in_ok-path.ensures in
    let passed_burdened : (rest : List ℕ) × (burdened_path ≡ 0 ∷ rest) × IsPath es c.args.burdens 0 (length es) rest = c.in_ok-burdened_path.ensures in
    let dag_rows : AreRows (row es c.args.root (λ f. get_or spans f 0) everywhere) c.args.sites c.in_ok-dag_rows.dag_rows =
    subst (λ (xs : List ℕ). AreRows (row es c.args.root (λ f. get_or xs f 0) everywhere) c.args.sites c.in_ok-dag_rows.dag_rows) c.as_slice.ensures.value c.in_ok-dag_rows.ensures in
    let path_rows : AreRows (row es c.args.root (λ f. get_or spans f 0) (contains path)) c.args.sites c.in_ok-path_rows.path_rows =
    subst (λ (ps : List ℕ). AreRows (row es c.args.root (λ f. get_or spans f 0) (contains ps)) c.args.sites c.in_ok-path_rows.path_rows) c.as_slice-2.ensures.value
    (subst (λ (xs : List ℕ). AreRows (row es c.args.root (λ f. get_or xs f 0) (contains c.as_slice-2.result.now)) c.args.sites c.in_ok-path_rows.path_rows) c.as_slice-3.ensures.value c.in_ok-path_rows.ensures) in
    let burdened_path_rows : AreRows (row es c.args.root (λ f. get_or spans f 0) (contains burdened_path)) c.args.sites c.in_ok-burdened_path_rows.burdened_path_rows =
    subst (λ (ps : List ℕ). AreRows (row es c.args.root (λ f. get_or spans f 0) (contains ps)) c.args.sites c.in_ok-burdened_path_rows.burdened_path_rows) c.as_slice-5.ensures.value
    (subst (λ (xs : List ℕ). AreRows (row es c.args.root (λ f. get_or xs f 0) (contains c.as_slice-5.result.now)) c.args.sites c.in_ok-burdened_path_rows.burdened_path_rows) c.as_slice-6.ensures.value c.in_ok-burdened_path_rows.ensures) in
    let marks : Lists c.end.result (contains path) c.in_ok-marks.marks.items =
    subst (λ (ps : List ℕ). Lists c.end.result (contains ps) c.in_ok-marks.marks.items) c.as_slice-4.ensures.value c.in_ok-marks.ensures in
    let answer : Reference = record {
      work = c.work.result;
      span = c.index.result.now;
      burdened_span = c.in_ok-burdened_span.burdened_span;
      path = c.in_ok-path.path;
      marks = c.in_ok-marks.marks;
      dag_rows = c.in_ok-dag_rows.dag_rows;
      path_rows = c.in_ok-path_rows.path_rows;
      burdened_path_rows = c.in_ok-burdened_path_rows.burdened_path_rows;
    } in
    parts_are es c.args.root c.args.sites c.args.burdens spans answer (record {
      well_formed = c.end.ensures.well_formed;
      work_is = c.work.ensures;
      are_spans = c.in_ok-spans.ensures.are;
      span_is = c.index.ensures ∙ get_or_default_zero spans 0 c.index.result.now (omega arith);
      burdened = c.in_ok-burdened_span.ensures;
      path = passed;
      marks = subst (λ k. Lists k (contains path) c.in_ok-marks.marks.items) c.end.ensures.count marks;
      dag_rows = dag_rows;
      path_rows = path_rows;
      burdened_path = (
        passed_burdened.0,
        passed_burdened.2,
        subst (λ (ps : List ℕ). AreRows (row es c.args.root (λ f. get_or spans f 0) (contains ps)) c.args.sites c.in_ok-burdened_path_rows.burdened_path_rows) passed_burdened.1 burdened_path_rows,
      );
    })
