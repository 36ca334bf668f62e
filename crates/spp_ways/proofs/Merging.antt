-- What merging does to the ways into open frames.
use Rattle.std.proofs.Common.{◌≡◌, ℕ, suc, ◌+◌, ◌-◌, ◌≤◌, ◌<◌, Bool, true, false, List, [], ◌∷◌, ◌++◌, length, reverse, take, get_or, set, Option, sym, ap, ap₂, subst, ◌∙◌, arith}
use Rattle.std.proofs.lemmas.List.{length-take-le, length-append, length-reverse, reverse-append}
use Rattle.spp_dag.specs.Shares.{plus, zero_row}
use Rattle.spp_site.specs.Rows.{Fits}
use Rattle.spp_site.proofs.Rows.{zero-plus}
use Rattle.spp_site.proofs.LastFirst.{topped}
use Rattle.spp_ways.specs.declared.log.Merged.{Merged}
use Rattle.spp_ways.specs.declared.log.LogRow.{LogRow}
use Rattle.spp_ways.specs.declared.walking.MergedWays.{MergedWays}
use Rattle.spp_ways.specs.declared.both_ways.BothWays.{BothWays}
use Rattle.spp_ways.specs.declared.frame_ways.LoggedWays.{LoggedWays}
use Rattle.spp_ways.specs.declared.frame_ways.FrameWays.{FrameWays}
use Rattle.spp_ways.specs.declared.open_ways.OpenWays.{OpenWays}
use Rattle.spp_ways.specs.Ways.{Ways}
use Rattle.spp_ways.specs.Logs.{way_row, row_on, merged_row, merged_on, before_on, within_on, IsMergedRow, IsLinked, AreLinked}
use Rattle.spp_ways.specs.PathSums.{way_of}
use Rattle.spp_ways.specs.OpenWays.{IsLaid, AreBoth, AllWays, plain_of, burdened_of, path_of, AreIn, Laid, HasRows, HasRowsOf, FitTop, merged_ways, AreMerged}
use Rattle.spp_ways.proofs.Staying.{AreAlike, rows_older, rows_last, rows_none, all_move, cut, cut_alike, linked_less}

-- a row for what was merged
before_is : (on : Bool) (to : ℕ) (m : Merged) (r : LogRow) → IsMergedRow to m r → before_on on r ≡ to
before_is false to m r h = h.before
before_is true to m r h = h.burdened_before

within_none : (on : Bool) (to : ℕ) (m : Merged) (r : LogRow) → IsMergedRow to m r → within_on on r ≡ 0
within_none false to m r h = h.within
within_none true to m r h = h.burdened_within

merged_adds : (on : Bool) (to : ℕ) (m : Merged) (r : LogRow) → IsMergedRow to m r → (rs : List LogRow) (key : Option ℕ)
    → way_row on (r ∷ rs) (suc (length rs)) key ≡ plus (way_row on rs to key) (merged_on on m key)
merged_adds on to m r h rs key =
    let b : way_row on rs (before_on on r) key ≡ way_row on rs to key = ap (λ k. way_row on rs k key) (before_is on to m r h) in
    let w : way_row on rs (within_on on r) key ≡ zero_row = ap (λ k. way_row on rs k key) (within_none on to m r h) ∙ rows_none on rs key in
    let own : row_on on r key ≡ merged_on on m key = ap (λ (x : _). merged_row on r x key) h.merged ∙ ap (λ (x : Merged). merged_on on x key) h.value in
    rows_last on r rs key ∙ ap₂ plus b (ap₂ plus w own ∙ zero-plus (merged_on on m key))

merged_link : (n to : ℕ) (m : Merged) (r : LogRow) → to ≤ n → IsMergedRow to m r → IsLinked n r
merged_link n to m r l h = record {
  before = (let z = h.before in omega arith);
  within = (let z = h.within in omega arith);
  burdened_before = (let z = h.burdened_before in omega arith);
  burdened_within = (let z = h.burdened_within in omega arith);
  site = (let z = h.site in omega arith);
}

-- what the rows of the ways of the frame f come to on one path: what they share, and what either has besides
abbrev pub AreParts : Bool → List LogRow → FrameWays → MergedWays → Type 0
AreParts on log f p =
    ((key : Option ℕ) → plus (merged_on on p.shared key) (merged_on on p.along key) ≡ way_row on log (path_of on f).along.rows key)
    × ((key : Option ℕ) → plus (merged_on on p.shared key) (merged_on on p.through key) ≡ way_row on log (path_of on f).through.rows key)

-- The rows of the ways of the innermost frame f were merged into these parts, for which s, a and b are put behind the rows that
-- were there as it was opened: a and b lead to s.
module _ (items : List LogRow) (f : FrameWays) (below : List FrameWays) (linked : AreLinked (reverse items)) (laid : Laid (length items) (f ∷ below))
    (p : MergedWays) (s a b : LogRow) (is_s : IsMergedRow 0 p.shared s) (is_a : IsMergedRow (f.start + 1) p.along a) (is_b : IsMergedRow (f.start + 1) p.through b)
    (are : (on : Bool) → AreParts on (reverse items) f p) where
  abbrev pub kept : List LogRow
  kept = take f.start items

  abbrev pub rows : List LogRow
  rows = ((kept ++ (s ∷ [])) ++ (a ∷ [])) ++ (b ∷ [])

  abbrev rest : List LogRow
  rest = reverse kept

  abbrev after : List LogRow
  after = b ∷ a ∷ s ∷ rest

  short : f.start ≤ length items
  short = laid.0

  left : length rest ≡ f.start
  left = (cut items f.start short).count

  count : length kept ≡ f.start
  count = length-take-le f.start items short

  log_is : reverse rows ≡ after
  log_is =
      reverse-append ((kept ++ (s ∷ [])) ++ (a ∷ [])) (b ∷ [])
      ∙ ap (λ (l : List LogRow). b ∷ l) (reverse-append (kept ++ (s ∷ [])) (a ∷ []) ∙ ap (λ (l : List LogRow). a ∷ l) (reverse-append kept (s ∷ [])))

  pub rows_are : length rows ≡ f.start + 3
  rows_are =
      let x = length-append ((kept ++ (s ∷ [])) ++ (a ∷ [])) (b ∷ []) in
      let y = length-append (kept ++ (s ∷ [])) (a ∷ []) in
      let w = length-append kept (s ∷ []) in
      let z = count in
      omega arith

  pub merge_linked : AreLinked (reverse rows)
  merge_linked =
      let c = cut items f.start short in
      let low : AreLinked rest = linked_less c.off rest (subst AreLinked c.is linked) in
      let n : length (s ∷ rest) ≡ f.start + 1 = omega (arith, left) in
      subst AreLinked (sym log_is) (
        merged_link (length (a ∷ s ∷ rest)) (f.start + 1) p.through b (omega arith) is_b,
        (merged_link (length (s ∷ rest)) (f.start + 1) p.along a (omega arith) is_a, (merged_link (length rest) 0 p.shared s (omega arith) is_s, low)),
      )

  -- where the three rows are
  abbrev pub shared : ℕ
  shared = f.start + 1

  abbrev pub along : ℕ
  along = f.start + 2

  abbrev pub through : ℕ
  through = f.start + 3

  pub merge_laid : (g : FrameWays) → AreMerged along through f g → Laid (length rows) (g ∷ below)
  merge_laid g h =
      let p : AreIn (f.start + 3) (plain_of g) = subst (AreIn (f.start + 3)) (sym h.plain) (omega arith, omega arith) in
      let b : AreIn (f.start + 3) (burdened_of g) = subst (AreIn (f.start + 3)) (sym h.burdened) (omega arith, omega arith) in
      let s : g.start ≡ f.start = h.start in
      subst (λ k. Laid k (g ∷ below)) (sym rows_are) (omega arith, p, b, subst (λ k. Laid k below) (sym s) laid.3)

  shared_adds : (on : Bool) (key : Option ℕ) → way_row on (s ∷ rest) shared key ≡ merged_on on p.shared key
  shared_adds on key =
      let e : shared ≡ suc (length rest) = omega (arith, left) in
      ap (λ k. way_row on (s ∷ rest) k key) e ∙ merged_adds on 0 p.shared s is_s rest key
      ∙ ap (λ x. plus x (merged_on on p.shared key)) (rows_none on rest key) ∙ zero-plus (merged_on on p.shared key)

  along_adds : (on : Bool) (key : Option ℕ) → way_row on after along key ≡ plus (merged_on on p.shared key) (merged_on on p.along key)
  along_adds on key =
      let e : along ≡ suc (length (s ∷ rest)) = omega (arith, left) in
      ap (λ k. way_row on after k key) e ∙ rows_older on b (a ∷ s ∷ rest) (suc (length (s ∷ rest))) (omega arith) key
      ∙ merged_adds on shared p.along a is_a (s ∷ rest) key ∙ ap (λ x. plus x (merged_on on p.along key)) (shared_adds on key)

  through_adds : (on : Bool) (key : Option ℕ) → way_row on after through key ≡ plus (merged_on on p.shared key) (merged_on on p.through key)
  through_adds on key =
      let e : through ≡ suc (length (a ∷ s ∷ rest)) = omega (arith, left) in
      let l : shared ≤ length (s ∷ rest) = omega (arith, left) in
      ap (λ k. way_row on after k key) e ∙ merged_adds on shared p.through b is_b (a ∷ s ∷ rest) key
      ∙ ap (λ x. plus x (merged_on on p.through key)) (rows_older on a (s ∷ rest) shared l key ∙ shared_adds on key)

  top_ways : (on : Bool) (w : LoggedWays) (v : Ways) → ((key : Option ℕ) → plus (merged_on on p.shared key) (merged_on on p.along key) ≡ way_row on (reverse items) w.along.rows key)
      → ((key : Option ℕ) → plus (merged_on on p.shared key) (merged_on on p.through key) ≡ way_row on (reverse items) w.through.rows key)
      → AreBoth on (reverse items) w v → AreBoth on after (merged_ways along through w) v
  top_ways on w v x y h =
      ((h.0.0, λ key. along_adds on key ∙ x key ∙ h.0.1 key), (h.1.0, λ key. through_adds on key ∙ y key ∙ h.1.1 key))

  path_ways : (g : FrameWays) → AreMerged along through f g → (on : Bool) (v : Ways) → AreBoth on (reverse items) (path_of on f) v → AreBoth on after (path_of on g) v
  path_ways g k false v h = subst (λ (w : LoggedWays). AreBoth false after w v) (sym k.plain) (top_ways false (plain_of f) v (are false).0 (are false).1 h)
  path_ways g k true v h = subst (λ (w : LoggedWays). AreBoth true after w v) (sym k.burdened) (top_ways true (burdened_of f) v (are true).0 (are true).1 h)

  pub merge_ways : (g : FrameWays) → AreMerged along through f g → (on : Bool) (ws : List Ways) → AllWays on (reverse items) (f ∷ below) ws → AllWays on (reverse rows) (g ∷ below) ws
  merge_ways g k on [] h = absurd h
  merge_ways g k on (w ∷ ws) h =
      let same : AreAlike on f.start (reverse items) after =
      λ k l key. rows_older on b (a ∷ s ∷ rest) k (let z : k ≤ length (a ∷ s ∷ rest) = omega (arith, left) in z) key
      ∙ rows_older on a (s ∷ rest) k (let z : k ≤ length (s ∷ rest) = omega (arith, left) in z) key
      ∙ rows_older on s rest k (let z : k ≤ length rest = omega (arith, left) in z) key ∙ cut_alike on items f.start f.start short (omega arith) k l key in
      let moved = all_move on f.start f.start (reverse items) after same (omega arith) below ws laid.3 h.1 in
      subst (λ (l : List LogRow). AllWays on l (g ∷ below) (w ∷ ws)) (sym log_is) (path_ways g k on w h.0, moved)

-- ---- the innermost frame

-- its ways on both paths: along it, and through the child that waits in it
abbrev pub along_of : FrameWays → BothWays
along_of f = record { plain = f.plain_rows; burdened = f.burdened_rows }

abbrev pub through_of : FrameWays → BothWays
through_of f = record { plain = f.plain_through_rows; burdened = f.burdened_through_rows }

pub top_in : (on : Bool) (n : ℕ) (f : FrameWays) (fs : List FrameWays) → Laid n (f ∷ fs) → (way_of on (along_of f) ≤ n) × (way_of on (through_of f) ≤ n)
top_in false n f fs h = (h.1.0, h.1.1)
top_in true n f fs h = (h.2.0, h.2.1)

path_fits : (on : Bool) (log : List LogRow) (f : FrameWays) (fs : List FrameWays) (ws : List Ways) → AllWays on log (f ∷ fs) ws → FitTop ws
    → ((key : Option ℕ) → Fits (way_row on log (path_of on f).along.rows key)) × ((key : Option ℕ) → Fits (way_row on log (path_of on f).through.rows key))
path_fits on log f fs [] h fit = absurd h
path_fits on log f fs (w ∷ ws) h fit = (λ key. subst Fits (sym (h.0.0.1 key)) (fit.0 key), λ key. subst Fits (sym (h.0.1.1 key)) (fit.1 key))

pub top_fits : (on : Bool) (log : List LogRow) (f : FrameWays) (fs : List FrameWays) (ws : List Ways) → AllWays on log (f ∷ fs) ws → FitTop ws
    → ((key : Option ℕ) → Fits (way_row on log (way_of on (along_of f)) key)) × ((key : Option ℕ) → Fits (way_row on log (way_of on (through_of f)) key))
top_fits false log f fs ws h fit = path_fits false log f fs ws h fit
top_fits true log f fs ws h fit = path_fits true log f fs ws h fit

pub top_parts : (log : List LogRow) (f : FrameWays) (p : MergedWays)
    → ((on : Bool) (key : Option ℕ) → plus (merged_on on p.shared key) (merged_on on p.along key) ≡ way_row on log (way_of on (along_of f)) key)
    → ((on : Bool) (key : Option ℕ) → plus (merged_on on p.shared key) (merged_on on p.through key) ≡ way_row on log (way_of on (through_of f)) key)
    → (on : Bool) → AreParts on log f p
top_parts log f p a t false = (a false, t false)
top_parts log f p a t true = (a true, t true)

-- f is the innermost of these frames, of which there are n
pub record Innermost (o : OpenWays) (n : ℕ) (f : FrameWays) : Type 0 where
  pub below : List FrameWays
  pub is : reverse o.frames.items ≡ f ∷ below
  pub put : (g : FrameWays) → reverse (set o.frames.items (n - 1) g) ≡ g ∷ below

pub has_frame : (o : OpenWays) → HasRows o → 0 < length (reverse o.frames.items)
has_frame o h = by (reverse o.frames.items) h
  where
    by : (fs : List FrameWays) → HasRowsOf (length o.log.rows.items) fs → 0 < length fs
    by [] h = absurd h
    by (f ∷ fs) h = omega arith

pub innermost : (o : OpenWays) → HasRows o → (n : ℕ) → n - 1 ≡ length o.frames.items - 1 → (f : FrameWays) → f ≡ get_or o.frames.items (n - 1) f → Innermost o n f
innermost o h n at f get =
    let fs : List FrameWays = o.frames.items in
    let some : 0 < length fs = (let z = has_frame o h in let l = length-reverse fs in omega arith) in
    let t = topped fs some in
    let top : f ≡ t.top = get ∙ ap (λ k. get_or fs k f) at ∙ t.get f in
    record {
      below = t.below;
      is = t.is ∙ ap (λ (g : FrameWays). g ∷ t.below) (sym top);
      put = λ g. ap (λ (k : ℕ). reverse (set fs k g)) at ∙ t.put g;
    }

-- ---- its rows are merged

-- these rows stand for those that were there, and g for the innermost frame
pub record Redone (o : OpenWays) (new : List LogRow) (g : FrameWays) (below : List FrameWays) : Type 0 where
  pub linked : AreLinked (reverse new)
  pub laid : Laid (length new) (g ∷ below)
  pub ways : (on : Bool) (ws : List Ways) → AllWays on (reverse o.log.rows.items) (reverse o.frames.items) ws → AllWays on (reverse new) (g ∷ below) ws
  pub count : length new ≤ length o.log.rows.items

-- r is put behind the rows `old`: it stands for m, and leads to the way that ends with the to-th
abbrev pub IsPushed : ℕ → Merged → List LogRow → List LogRow → Type 0
IsPushed to m old new = (r : LogRow) × IsMergedRow to m r × (new ≡ old ++ (r ∷ []))

pushed_count : (to : ℕ) (m : Merged) (old new : List LogRow) → IsPushed to m old new → length new ≡ length old + 1
pushed_count to m old new h = ap (λ (l : List LogRow). length l) h.2 ∙ length-append old (h.0 ∷ [])

module _ (o : OpenWays) (old : IsLaid o) (f : FrameWays) (below : List FrameWays) (is : reverse o.frames.items ≡ f ∷ below) (many : HasRows o)
    (p : MergedWays) (are : (on : Bool) → AreParts on (reverse o.log.rows.items) f p) (kept first second third : List LogRow) (x y z : ℕ)
    (cut : kept ≡ take f.start o.log.rows.items)
    (s : IsPushed 0 p.shared kept first) (at_s : x ≡ length kept + 1)
    (a : IsPushed x p.along first second) (at_a : y ≡ length first + 1)
    (b : IsPushed x p.through second third) (at_b : z ≡ length second + 1)
    (g : FrameWays) (merged : AreMerged y z f g) where
  was_laid : Laid (length o.log.rows.items) (f ∷ below)
  was_laid = subst (Laid (length o.log.rows.items)) is old.frames

  room : f.start + 3 ≤ length o.log.rows.items
  room = subst (HasRowsOf (length o.log.rows.items)) is many

  kept_count : length kept ≡ f.start
  kept_count = ap (λ (l : List LogRow). length l) cut ∙ length-take-le f.start o.log.rows.items (let z = room in omega arith)

  first_is : x ≡ f.start + 1
  first_is = let l = kept_count in omega arith

  second_is : y ≡ f.start + 2
  second_is = let l = kept_count in let n = pushed_count 0 p.shared kept first s in omega arith

  third_is : z ≡ f.start + 3
  third_is = let l = kept_count in let n = pushed_count 0 p.shared kept first s in let m = pushed_count x p.along first second a in omega arith

  rows_is : third ≡ ((take f.start o.log.rows.items ++ (s.0 ∷ [])) ++ (a.0 ∷ [])) ++ (b.0 ∷ [])
  rows_is =
      b.2 ∙ ap (λ (l : List LogRow). l ++ (b.0 ∷ [])) (a.2 ∙ ap (λ (l : List LogRow). l ++ (a.0 ∷ [])) (s.2 ∙ ap (λ (l : List LogRow). l ++ (s.0 ∷ [])) cut))

  is_a : IsMergedRow (f.start + 1) p.along a.0
  is_a = subst (λ (k : ℕ). IsMergedRow k p.along a.0) first_is a.1

  is_b : IsMergedRow (f.start + 1) p.through b.0
  is_b = subst (λ (k : ℕ). IsMergedRow k p.through b.0) first_is b.1

  is_merged : AreMerged (f.start + 2) (f.start + 3) f g
  is_merged = subst (λ (k : ℕ). AreMerged (f.start + 2) k f g) third_is (subst (λ (k : ℕ). AreMerged k z f g) second_is merged)

  pub redone : Redone o third g below
  redone = record {
    linked = subst (λ (l : List LogRow). AreLinked (reverse l)) (sym rows_is) (merge_linked o.log.rows.items f below old.linked was_laid p s.0 a.0 b.0 s.1 is_a is_b are);
    laid = subst (λ (l : List LogRow). Laid (length l) (g ∷ below)) (sym rows_is) (merge_laid o.log.rows.items f below old.linked was_laid p s.0 a.0 b.0 s.1 is_a is_b are g is_merged);
    ways = λ on ws h.
        subst (λ (l : List LogRow). AllWays on (reverse l) (g ∷ below) ws) (sym rows_is)
        (merge_ways o.log.rows.items f below old.linked was_laid p s.0 a.0 b.0 s.1 is_a is_b are g is_merged on ws
        (subst (λ (l : List FrameWays). AllWays on (reverse o.log.rows.items) l ws) is h));
    count = (let n : length third ≡ f.start + 3 = ap (λ (l : List LogRow). length l) rows_is ∙ rows_are o.log.rows.items f below old.linked was_laid p s.0 a.0 b.0 s.1 is_a is_b are in let r = room in omega arith);
  }
