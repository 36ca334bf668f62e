-- What the rounds of tables and of paths tell of a cut trace.
use Rattle.std.proofs.Common.{◌≡◌, ℕ, Bool, List, ◌∷◌, length, Result, Ok, Err, IfOk, refl, sym, ap, subst, ◌∙◌}
use Rattle.std.proofs.Math.Seq.{take-length}
use Rattle.spp_event.specs.declared.records.Event.{Event}
use Rattle.spp_event.specs.Recordings.{Recording}
use Rattle.spp_frame.specs.Nesting.{AreEvents}
use Rattle.spp_cut.specs.Parts.{PartOf, CutOf, IsCut, HasFewParts, events_in}
use Rattle.spp_cut.proofs.Halves.{all_events}
use Rattle.spp_maxplus.specs.declared.state.Burdens.{Burdens}
use Rattle.spp_maxplus.specs.State.{unburdened}
use Rattle.spp_dag.specs.Rows.{everywhere, contains}
use Rattle.spp_dag.specs.Shares.{share}
use Rattle.spp_dag.proofs.EventsOfRecords.{same_events}
use Rattle.spp_dag.proofs.Profiles.{spans_of}
use Rattle.spp_dag.proofs.Ties.{path_unique}
use Rattle.spp_site.specs.Table.{Sums}
use Rattle.spp_pass.specs.Shares.{IsShare}
use Rattle.spp_path.specs.Parts.{IsPathShare}
use Rattle.spp_jobs.proofs.Shares.{Everywhere, OnPath, AreRowsTo}
use Rattle.spp_jobs.specs.Choices.{AreChoicesOf}
use Rattle.spp_jobs.specs.declared.tabled.Tabled.{Tabled}
use Rattle.spp_jobs.specs.declared.pathed.Pathed.{Pathed}
use Rattle.spp_jobs.specs.Names.{tables, paths, JobOf, spell, parts_in, parts_from}
use Rattle.spp_jobs.specs.Tables.{IsRun, begin, IsTabledOf, IsTabled}
use Rattle.spp_jobs.specs.Paths.{IsPathedOf, IsPathed}
use Rattle.spp_jobs.proofs.Spelling.{parts_told}
use Rattle.spp_jobs.proofs.Cuts.{range_all}
use Rattle.spp_jobs.proofs.Tables.{tabled_all}
use Rattle.spp_jobs.proofs.Paths.{pathed_all}
use Rattle.spp_jobs.proofs.Rows.{rows_of}

-- what is said of a good result
pub if_ok : {X E : Type 0} {P Q : X → Type 0} (x : Result X E) → ((r : X) → P r → Q r) → IfOk x P → IfOk x Q
if_ok (Ok r) f p = f r p
if_ok (Err e) f p = tt

-- where the parts end
pub begin_all : (cut : CutOf) → IsCut cut → begin cut (length cut.parts) ≡ length cut.trace.records
begin_all cut h = ap (λ (ps : List PartOf). events_in ps) (take-length cut.parts) ∙ all_events cut h

-- the rows of a table that was made of a share
pub rows_again : (P : List Event → (ℕ → Bool) → Type 0) (t : Recording) (n : ℕ) (share table : Sums) → table ≡ share → AreRowsTo P t n share → AreRowsTo P t n table
rows_again P t n share table same rows = subst (λ x. AreRowsTo P t n x) (sym same) rows

module _ (a : JobOf) (h : IsCut a.cut) where
  -- the rows on the whole dag
  pub dag_rows : (c : Tabled) → IsTabledOf a 0 (length a.cut.parts) c → AreRowsTo Everywhere a.cut.trace (length a.cut.trace.records) c.share
  dag_rows c of es are wf on counts key =
      let n = length a.cut.trace.records in
      let run : IsRun a.cut = of.run in
      let same : run.events ≡ es = same_events run.events es (sym run.are_events ∙ are) in
      let told : IsShare es a.cut.trace.root 0 n c.share =
      subst (λ e. IsShare es a.cut.trace.root 0 e c.share) (begin_all a.cut h) (subst (λ es. IsShare es a.cut.trace.root 0 (begin a.cut (length a.cut.parts)) c.share) same of.rows) in
      rows_of es wf a.cut.trace.root everywhere 0 n c.share told key ∙ ap (λ o. share es a.cut.trace.root (spans_of es) o key 0 n) (sym counts)

  -- the rows on a path
  path_rows_to : (run : IsRun a.cut) (bd : Burdens) (t : Sums) → IsPathShare run.events bd a.cut.trace.root 0 (begin a.cut (length a.cut.parts)) t
      → AreRowsTo (OnPath bd) a.cut.trace (length a.cut.trace.records) t
  path_rows_to run bd t of es are wf on counts key =
      let n = length a.cut.trace.records in
      let same : run.events ≡ es = same_events run.events es (sym run.are_events ∙ are) in
      let told : IsPathShare es bd a.cut.trace.root 0 n t =
      subst (λ e. IsPathShare es bd a.cut.trace.root 0 e t) (begin_all a.cut h) (subst (λ es. IsPathShare es bd a.cut.trace.root 0 (begin a.cut (length a.cut.parts)) t) same of) in
      let one : told.2.0 ≡ counts.0 = path_unique es bd 0 (length es) told.2.0 counts.0 told.2.1 counts.1 in
      rows_of es wf a.cut.trace.root (contains (0 ∷ told.2.0)) 0 n t (told.0, told.1, told.2.2) key
      ∙ ap (λ ps. share es a.cut.trace.root (spans_of es) (contains (0 ∷ ps)) key 0 n) one ∙ ap (λ o. share es a.cut.trace.root (spans_of es) o key 0 n) (sym counts.2)

  pub path_rows : (c : Pathed) → IsPathedOf a 0 (length a.cut.parts) c → AreRowsTo (OnPath unburdened) a.cut.trace (length a.cut.trace.records) c.path
  path_rows c of = path_rows_to of.run unburdened c.path of.path

  pub burdened_rows : (c : Pathed) → IsPathedOf a 0 (length a.cut.parts) c → AreRowsTo (OnPath a.burdens) a.cut.trace (length a.cut.trace.records) c.burdened_path
  burdened_rows c of = path_rows_to of.run a.burdens c.burdened_path of.burdened

  -- the choices of all parts
  pub all_choices : (c : Tabled) → IsTabledOf a 0 (length a.cut.parts) c → (es : List Event) → AreEvents a.cut.trace.records es → AreChoicesOf es a.burdens a.cut.parts c.choices.items
  all_choices c of es are =
      let run : IsRun a.cut = of.run in
      let same : run.events ≡ es = same_events run.events es (sym run.are_events ∙ are) in
      subst (λ ps. AreChoicesOf es a.burdens ps c.choices.items) (range_all a.cut.parts (length a.cut.parts) refl)
      (subst (λ es. AreChoicesOf es a.burdens (parts_from a.cut 0 (length a.cut.parts)) c.choices.items) same of.choices)

-- ---- what a round gives

abbrev pub table_of : CutOf → Burdens → JobOf
table_of cut burdens = record { kind = tables; cut = cut; burdens = burdens }

pub tabled_told : (cut : CutOf) (b : Burdens) (made : CutOf) (under : Burdens) → IsCut cut → HasFewParts cut → made ≡ cut → under ≡ b → (c : Tabled)
    → IsTabled (spell (table_of made under)) 0 (parts_in (spell (table_of made under))) c → IsTabledOf (table_of cut b) 0 (length cut.parts) c
tabled_told cut b made under whole few same also c v =
    let j : JobOf = table_of made under in
    let told : IsTabledOf j 0 (length made.parts) c =
    subst (λ k. IsTabledOf j 0 k c) (parts_told j)
    (tabled_all j refl (subst (λ (x : CutOf). IsCut x) (sym same) whole) (subst (λ (x : CutOf). HasFewParts x) (sym same) few) (parts_in (spell j)) c v) in
    subst (λ (y : Burdens). IsTabledOf (table_of cut y) 0 (length cut.parts) c) also (subst (λ (x : CutOf). IsTabledOf (table_of x under) 0 (length x.parts) c) same told)

abbrev pub path_of_job : CutOf → Burdens → JobOf
path_of_job cut burdens = record { kind = paths; cut = cut; burdens = burdens }

pub pathed_told : (cut : CutOf) (b : Burdens) (made : CutOf) (under : Burdens) → IsCut cut → HasFewParts cut → made ≡ cut → under ≡ b → (c : Pathed)
    → IsPathed (spell (path_of_job made under)) 0 (parts_in (spell (path_of_job made under))) c → IsPathedOf (path_of_job cut b) 0 (length cut.parts) c
pathed_told cut b made under whole few same also c v =
    let j : JobOf = path_of_job made under in
    let told : IsPathedOf j 0 (length made.parts) c =
    subst (λ k. IsPathedOf j 0 k c) (parts_told j)
    (pathed_all j refl (subst (λ (x : CutOf). IsCut x) (sym same) whole) (subst (λ (x : CutOf). HasFewParts x) (sym same) few) (parts_in (spell j)) c v) in
    subst (λ (y : Burdens). IsPathedOf (path_of_job cut y) 0 (length cut.parts) c) also (subst (λ (x : CutOf). IsPathedOf (path_of_job x under) 0 (length x.parts) c) same told)
