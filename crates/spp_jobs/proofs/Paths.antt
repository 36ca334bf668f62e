-- The values of the job of both paths, joined.
use Rattle.std.proofs.Common.{◌≡◌, ℕ, ◌+◌, ◌<◌, ◌≤◌, Bool, List, ◌∷◌, length, get_or, Option, refl, sym, ap, subst, ◌∙◌}
use Rattle.spp_event.specs.declared.records.Event.{Event}
use Rattle.spp_event.specs.Recordings.{Recording}
use Rattle.spp_frame.specs.Nesting.{AreEvents}
use Rattle.spp_cut.specs.Parts.{PartOf, CutOf, IsCut, HasFewParts}
use Rattle.spp_maxplus.specs.declared.state.Burdens.{Burdens}
use Rattle.spp_maxplus.specs.State.{unburdened}
use Rattle.spp_dag.specs.Dag.{IsPath}
use Rattle.spp_dag.specs.Rows.{contains}
use Rattle.spp_dag.specs.Shares.{share, plus}
use Rattle.spp_dag.proofs.Ties.{path_exists, path_unique}
use Rattle.spp_site.specs.Rows.{Fits}
use Rattle.spp_site.specs.Table.{Sums, IsSum}
use Rattle.spp_site.specs.Profiles.{key_row}
use Rattle.spp_path.specs.Parts.{IsPathShare}
use Rattle.spp_book.specs.Jobs.{AreNeighbours, IsJoined, IsCopied}
use Rattle.spp_jobs.specs.declared.pathed.Pathed.{Pathed}
use Rattle.spp_jobs.specs.Names.{paths, JobOf, spell, parts_in, IsNamed}
use Rattle.spp_jobs.specs.Tables.{IsRun, begin}
use Rattle.spp_jobs.specs.Paths.{IsPathedOf, IsPathed}
use Rattle.spp_jobs.proofs.Spelling.{same_job}
use Rattle.spp_jobs.proofs.Tables.{begin_rises, begins_at, ends_at, same_run}
use Rattle.spp_jobs.proofs.Rows.{AreRows, rows_of, range_fits, two_fit, two_rows}
use Rattle.spp_dag.proofs.Profiles.{spans_of, are_spans}

-- ---- the share of a range on the path of a run under some burdens

module _ (cut : CutOf) (run : IsRun cut) (bd : Burdens) (root : ℕ) where
  path : (rest : List ℕ) × IsPath run.events bd 0 (length run.events) rest
  path = path_exists run.events run.well_formed bd 0 refl

  on : ℕ → Bool
  on = contains (0 ∷ path.0)

  rows : (from to : ℕ) (t : Sums) → IsPathShare run.events bd root from to t → AreRows run.events root on from to t
  unfolding on
  rows from to t told =
      let same : told.2.0 ≡ path.0 = path_unique run.events bd 0 (length run.events) told.2.0 path.0 told.2.1 path.1 in
      rows_of run.events run.well_formed root on from to t (
        told.0,
        told.1,
        λ key. told.2.2 key ∙ ap (λ ps. share run.events root told.0 (contains (0 ∷ ps)) key from to) same,
      )

  told_by : (from to : ℕ) (t : Sums) → AreRows run.events root on from to t → IsPathShare run.events bd root from to t
  unfolding on
  told_by from to t is = (spans_of run.events, are_spans run.events run.well_formed, (path.0, path.1, is))

  pub share_fits : (from to : ℕ) (t : Sums) → IsPathShare run.events bd root from to t → (key : Option ℕ) → Fits (key_row t key)
  unfolding on
  share_fits from to t told key = subst Fits (sym (rows from to t told key)) (range_fits run.events run.well_formed root on run.small from to key)

  pub shares_fit : (from mid to : ℕ) → from ≤ mid → mid ≤ to → (x y : Sums) → IsPathShare run.events bd root from mid x → IsPathShare run.events bd root mid to y
      → (key : Option ℕ) → Fits (plus (key_row x key) (key_row y key))
  shares_fit from mid to low high x y left right key =
      two_fit run.events run.well_formed root on run.small from mid to low high x y (rows from mid x left) (rows mid to y right) key

  pub shares_sum : (from mid to : ℕ) → from ≤ mid → mid ≤ to → (x y z : Sums) → IsPathShare run.events bd root from mid x → IsPathShare run.events bd root mid to y
      → IsSum x y z → IsPathShare run.events bd root from to z
  shares_sum from mid to low high x y z left right sum =
      told_by from to z (two_rows run.events run.well_formed root on run.small from mid to low high x y (rows from mid x left) (rows mid to y right) z sum)

-- ---- one part

module _ (cut : CutOf) (h : IsCut cut) (run : IsRun cut) (bd : Burdens) (k : ℕ) (p : PartOf) (lt : k < length cut.parts) (is : p ≡ get_or cut.parts k p) (trace : p.trace ≡ cut.trace) (x : Sums)
    (told : (es : List Event) → AreEvents p.trace.records es → IsPathShare es bd p.trace.root p.first (p.first + p.count) x) where
  pub of_part : IsPathShare run.events bd cut.trace.root (begin cut k) (begin cut (k + 1)) x
  of_part =
      subst (λ e. IsPathShare run.events bd cut.trace.root (begin cut k) e x) (ends_at cut h k p lt is)
      (subst (λ n. IsPathShare run.events bd cut.trace.root n (p.first + p.count) x) (begins_at cut h k p lt is)
      (subst (λ (t : Recording). IsPathShare run.events bd t.root p.first (p.first + p.count) x) trace
      (told run.events (subst (λ (t : Recording). AreEvents t.records run.events) (sym trace) run.are_events))))

-- ---- what can be put into a table

pub path_fits : (a : JobOf) (i k : ℕ) (c : Pathed) → IsPathedOf a i k c → (key : Option ℕ) → Fits (key_row c.path key)
path_fits a i k c of key = share_fits a.cut of.run unburdened a.cut.trace.root (begin a.cut i) (begin a.cut k) c.path of.path key

pub burdened_path_fits : (a : JobOf) (i k : ℕ) (c : Pathed) → IsPathedOf a i k c → (key : Option ℕ) → Fits (key_row c.burdened_path key)
burdened_path_fits a i k c of key = share_fits a.cut of.run a.burdens a.cut.trace.root (begin a.cut i) (begin a.cut k) c.burdened_path of.burdened key

-- ---- two values

module _ (a : JobOf) (i j k : ℕ) (low : i < j) (high : j < k) (left right : Pathed) (of_left : IsPathedOf a i j left) (of_right : IsPathedOf a j k right) where
  right_path : IsPathShare of_left.run.events unburdened a.cut.trace.root (begin a.cut j) (begin a.cut k) right.path
  right_path = subst (λ es. IsPathShare es unburdened a.cut.trace.root (begin a.cut j) (begin a.cut k) right.path) (same_run a.cut of_left.run of_right.run) of_right.path

  right_burdened : IsPathShare of_left.run.events a.burdens a.cut.trace.root (begin a.cut j) (begin a.cut k) right.burdened_path
  right_burdened = subst (λ es. IsPathShare es a.burdens a.cut.trace.root (begin a.cut j) (begin a.cut k) right.burdened_path) (same_run a.cut of_left.run of_right.run) of_right.burdened

  pub paths_fit : (key : Option ℕ) → Fits (plus (key_row left.path key) (key_row right.path key))
  paths_fit key =
      shares_fit a.cut of_left.run unburdened a.cut.trace.root (begin a.cut i) (begin a.cut j) (begin a.cut k) (begin_rises a.cut i j low) (begin_rises a.cut j k high)
      left.path right.path of_left.path right_path key

  pub burdened_fit : (key : Option ℕ) → Fits (plus (key_row left.burdened_path key) (key_row right.burdened_path key))
  burdened_fit key =
      shares_fit a.cut of_left.run a.burdens a.cut.trace.root (begin a.cut i) (begin a.cut j) (begin a.cut k) (begin_rises a.cut i j low) (begin_rises a.cut j k high)
      left.burdened_path right.burdened_path of_left.burdened right_burdened key

  pub pathed_joined : (both : Pathed) → IsSum left.path right.path both.path → IsSum left.burdened_path right.burdened_path both.burdened_path → IsPathedOf a i k both
  pathed_joined both path_sum burdened_sum = record {
    run = of_left.run;
    path = shares_sum a.cut of_left.run unburdened a.cut.trace.root (begin a.cut i) (begin a.cut j) (begin a.cut k) (begin_rises a.cut i j low) (begin_rises a.cut j k high)
        left.path right.path both.path of_left.path right_path path_sum;
    burdened = shares_sum a.cut of_left.run a.burdens a.cut.trace.root (begin a.cut i) (begin a.cut j) (begin a.cut k) (begin_rises a.cut i j low) (begin_rises a.cut j k high)
        left.burdened_path right.burdened_path both.burdened_path of_left.burdened right_burdened burdened_sum;
  }

-- two values of one name are of one job
same_pathed : (name : List ℕ) (a : JobOf) → IsNamed paths name a → (j k : ℕ) (c : Pathed) → IsPathed name j k c → IsPathedOf a j k c
same_pathed name a named j k c v = subst (λ x. IsPathedOf x j k c) (same_job paths name v.0 a v.1 named) v.2

pub neighbours_path : (left right : Pathed) → AreNeighbours parts_in IsPathed left right → (key : Option ℕ) → Fits (plus (key_row left.path key) (key_row right.path key))
neighbours_path left right n key = let a = n.7.0 in paths_fit a n.1 n.2 n.3 n.4 n.5 left right n.7.2 (same_pathed n.0 a n.7.1 n.2 n.3 right n.8) key

pub neighbours_burdened : (left right : Pathed) → AreNeighbours parts_in IsPathed left right → (key : Option ℕ) → Fits (plus (key_row left.burdened_path key) (key_row right.burdened_path key))
neighbours_burdened left right n key = let a = n.7.0 in burdened_fit a n.1 n.2 n.3 n.4 n.5 left right n.7.2 (same_pathed n.0 a n.7.1 n.2 n.3 right n.8) key

pub neighbours_pathed : (left right both : Pathed) → IsSum left.path right.path both.path → IsSum left.burdened_path right.burdened_path both.burdened_path
    → IsJoined parts_in IsPathed left right both
neighbours_pathed left right both path_sum burdened_sum name i j k low high most of_left of_right =
    let a = of_left.0 in (
      a,
      of_left.1,
      pathed_joined a i j k low high left right of_left.2 (same_pathed name a of_left.1 j k right of_right) both path_sum burdened_sum,
    )

-- the same tables are the same value
pub pathed_again : (c d : Pathed) → d.path ≡ c.path → d.burdened_path ≡ c.burdened_path → IsCopied IsPathed c d
pathed_again c d path burdened name i k v = (
  v.0,
  v.1,
  record {
    run = v.2.run;
    path = subst (λ (t : Sums). IsPathShare v.2.run.events unburdened v.0.cut.trace.root (begin v.0.cut i) (begin v.0.cut k) t) (sym path) v.2.path;
    burdened = subst (λ (t : Sums). IsPathShare v.2.run.events v.0.burdens v.0.cut.trace.root (begin v.0.cut i) (begin v.0.cut k) t) (sym burdened) v.2.burdened;
  },
)

-- the value of all parts
pub pathed_all : (a : JobOf) → a.kind ≡ paths → IsCut a.cut → HasFewParts a.cut → (k : ℕ) (c : Pathed) → IsPathed (spell a) 0 k c → IsPathedOf a 0 k c
pathed_all a kind h few k c v = same_pathed (spell a) a (record { kind_is = kind; named = refl; cut = h; few = few }) 0 k c v
