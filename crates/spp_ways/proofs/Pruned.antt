-- A stretch without the rows that its ways don't enter has the same ways.
use Rattle.std.proofs.Common.{◌≡◌, ℕ, zero, suc, ◌+◌, ◌-◌, ◌≤◌, ◌<◌, Bool, true, false, cond, nat_eq, inl, inr, List, [], ◌∷◌, ◌++◌, length, map, reverse, take, drop, get_or, Option, Some, None, refl, sym, ap, ap₂, subst, ◌∙◌, arith}
use Rattle.std.specs.Prelude.{All}
use Rattle.std.specs.Global.{Box}
use Rattle.std.proofs.Math.Seq.{take-suc}
use Rattle.std.proofs.lemmas.Bool.{cases_Bool}
use Rattle.std.proofs.lemmas.Bool.Decides.{eqb_tells}
use Rattle.std.proofs.lemmas.List.{append-nil, length-map, length-append, length-reverse, length-take-le, map-append, reverse-append, reverse-reverse, take_all}
use Rattle.std.proofs.lemmas.List.Elements.{All-nil, All-cons, All-head, All-tail}
use Rattle.spp_dag.specs.Shares.{plus}
use Rattle.spp_ways.specs.declared.log.Merged.{Merged}
use Rattle.spp_ways.specs.declared.log.LogRow.{LogRow}
use Rattle.spp_ways.specs.declared.frame_ways.LoggedWays.{LoggedWays}
use Rattle.spp_ways.specs.declared.frame_ways.FrameWays.{FrameWays}
use Rattle.spp_ways.specs.Ways.{Ways}
use Rattle.spp_ways.specs.Logs.{way_row, row_on, merged_row, before_on, within_on, IsLinked, AreLinked}
use Rattle.spp_ways.specs.OpenWays.{AreBoth, AllWays, path_of, AreIn, Laid}
use Rattle.spp_ways.specs.Enclosures.{Enclosure}
use Rattle.spp_ways.specs.Stretches.{outer_way, outer_row, enclosed_row, AreEnclosed, ArePlain, BeginsPlain, AllStarted, IsStretch}
use Rattle.spp_ways.specs.Pruning.{AreLinksKept, AreKeptBehind, AreWaysKept, kept_up_to, pruned_row, pruned_rows, pruned_ways, pruned_frame, ReachesFrame}
use Rattle.spp_ways.proofs.Staying.{rows_older, rows_last, in_more, in_path}
use Rattle.spp_ways.proofs.Enclosed.{reverse-map, begins_put, begins_some}
use Rattle.spp_ways.proofs.Joining.{all_back}
use Rattle.spp_ways.proofs.Summing.{link}

-- ---- the frames of a stretch end within its rows

-- the ways into frames that end within the first n rows end within more
all_below : (most n : ℕ) (fs : List FrameWays) → n ≤ most → Laid n fs → All (ReachesFrame (suc most)) fs
all_below most n [] l h = All-nil (ReachesFrame (suc most))
all_below most n (f ∷ fs) l h =
    let start : f.start ≤ n = h.0 in
    All-cons (ReachesFrame (suc most)) f fs (record {
      start = omega arith;
      along = (let z = h.1.0 in omega arith);
      through = (let z = h.1.1 in omega arith);
      burdened_along = (let z = h.2.0 in omega arith);
      burdened_through = (let z = h.2.1 in omega arith);
    }) (all_below most f.start fs (omega arith) h.3)

-- the ways into the frames of a stretch end within its rows
pub frames_below : (rows : List LogRow) (frames : List FrameWays) → IsStretch rows frames → All (ReachesFrame (suc (length rows))) frames
frames_below rows frames s = all_back (ReachesFrame (suc (length rows))) frames (all_below (length rows) (length rows) (reverse frames) (omega arith) s.frames)

-- ---- rows that weren't merged

-- each row behind the first of a stretch
plain_at : (rs : List LogRow) → ArePlain rs → (k : ℕ) → k < length rs → ((get_or rs k outer_row).merged ≡ None) × ((get_or rs k outer_row).caller ≡ outer_way → ⊥)
plain_at [] h k l = absurd (omega arith)
plain_at (r ∷ rs) h zero l = (h.0, h.1)
plain_at (r ∷ rs) h (suc k) l = plain_at rs h.2 k (omega arith)

-- the first row stands for the way before the stretch
first_at : (rows : List LogRow) → BeginsPlain rows → get_or rows 0 outer_row ≡ outer_row
first_at [] h = absurd h
first_at (r ∷ rs) h = h.0

-- none of the others does
later_at : (rows : List LogRow) → BeginsPlain rows → (k : ℕ) → suc k < length rows
    → ((get_or rows (suc k) outer_row).merged ≡ None) × ((get_or rows (suc k) outer_row).caller ≡ outer_way → ⊥)
later_at [] h k l = absurd h
later_at (r ∷ rs) h k l = plain_at rs h.1 k (omega arith)

-- no row was merged, not the first either
none_merged : (rows : List LogRow) → BeginsPlain rows → (k : ℕ) → k < length rows → (get_or rows k outer_row).merged ≡ None
none_merged rows h zero l = ap (λ (r : LogRow). r.merged) (first_at rows h)
none_merged rows h (suc k) l = (later_at rows h k l).0

-- the rows of a stretch begin with that for the way before it
begins_first : (rows : List LogRow) → BeginsPlain rows → rows ≡ outer_row ∷ drop 1 rows
begins_first [] h = absurd h
begins_first (r ∷ rs) h = ap (λ (x : LogRow). x ∷ rs) h.0

-- ---- lists told the last first

-- the last row is told first
turned : {A B : Type 0} (f : A → B) (xs : List A) (x : A) → reverse (map f (xs ++ (x ∷ []))) ≡ f x ∷ reverse (map f xs)
turned f xs x = ap reverse (map-append f xs (x ∷ [])) ∙ reverse-append (map f xs) (f x ∷ [])

-- ---- how many rows are kept

module _ (m : ℕ → Bool) where
  -- where the next row is kept
  one_more : (n : ℕ) → m (suc n) ≡ true → kept_up_to m (suc n) ≡ suc (kept_up_to m n)
  one_more n e = ap (λ (b : Bool). kept_up_to m n + cond {A = ℕ} b 1 0) e ∙ (let z : kept_up_to m n + 1 ≡ suc (kept_up_to m n) = omega arith in z)

  -- where it isn't kept
  as_many : (n : ℕ) → m (suc n) ≡ false → kept_up_to m (suc n) ≡ kept_up_to m n
  as_many n e = ap (λ (b : Bool). kept_up_to m n + cond {A = ℕ} b 1 0) e ∙ (let z : kept_up_to m n + 0 ≡ kept_up_to m n = omega arith in z)

  -- with one more row no fewer are kept
  no_fewer : (n : ℕ) → kept_up_to m n ≤ kept_up_to m (suc n)
  no_fewer n = elim (cases_Bool (m (suc n))) [
    | inl e ↦ (let z = one_more n e in omega arith)
    | inr e ↦ (let z = as_many n e in omega arith)
  ]

  -- of more rows as many are kept or more
  up : (k n : ℕ) → k ≤ n → kept_up_to m k ≤ kept_up_to m n
  up k zero l = let z : k ≡ 0 = omega arith in subst (λ i. kept_up_to m i ≤ kept_up_to m 0) (sym z) (omega arith)
  up k (suc n) l = elim (eqb_tells k (suc n)) [
    | inl is ↦ subst (λ i. kept_up_to m i ≤ kept_up_to m (suc n)) (sym is.1) (omega arith)
    | inr is ↦ (let less : k ≤ n = (let z = is.1 in omega arith) in let a = up k n less in let b = no_fewer n in omega arith)
  ]

  -- no more are kept than there are
  pub few_kept : (n : ℕ) → kept_up_to m n ≤ n
  few_kept zero = omega arith
  few_kept (suc n) = elim (cases_Bool (m (suc n))) [
    | inl e ↦ (let z = one_more n e in let y = few_kept n in omega arith)
    | inr e ↦ (let z = as_many n e in let y = few_kept n in omega arith)
  ]

  -- ---- the frames

  -- the ways into the frames end within the rows that are kept
  kept_laid : (n : ℕ) (fs : List FrameWays) → Laid n fs → Laid (kept_up_to m n) (map (pruned_frame m) fs)
  kept_laid n [] h = tt
  kept_laid n (f ∷ fs) h = (
    up f.start n h.0,
    (up f.plain_rows n h.1.0, up f.plain_through_rows n h.1.1),
    (up f.burdened_rows n h.2.0, up f.burdened_through_rows n h.2.1),
    kept_laid f.start fs h.3,
  )

  -- each frame was opened behind the first row
  kept_started : m 1 ≡ true → (fs : List FrameWays) → AllStarted fs → AllStarted (map (pruned_frame m) fs)
  kept_started outer [] h = tt
  kept_started outer (f ∷ fs) h = ((let a = one_more 0 outer in let b = up 1 f.start h.0 in let z : 1 ≤ kept_up_to m f.start = omega arith in z), kept_started outer fs h.1)

  -- the ways into frames, in a log where those that are kept end as it says
  module _ (on : Bool) (most : ℕ) (log new : List LogRow) (same : (w : ℕ) → w ≤ most → m w ≡ true → (key : Option ℕ) → way_row on new (kept_up_to m w) key ≡ way_row on log w key) where
    -- those of one frame on one path
    on_kept : (w : LoggedWays) (v : Ways) → AreIn most w → m w.along.rows ≡ true → m w.through.rows ≡ true → AreBoth on log w v → AreBoth on new (pruned_ways m w) v
    on_kept w v l a t h =
        ((h.0.0, λ key. same w.along.rows l.0 a key ∙ h.0.1 key), (h.1.0, λ key. same w.through.rows l.1 t key ∙ h.1.1 key))

    -- a frame has on either path what is kept of that path
    path_kept : (f : FrameWays) (b : Bool) → path_of b (pruned_frame m f) ≡ pruned_ways m (path_of b f)
    path_kept f false = refl
    path_kept f true = refl

    -- the ways into a frame are kept on either path
    along_kept : (f : FrameWays) → AreWaysKept m f → (b : Bool) → m (path_of b f).along.rows ≡ true
    along_kept f k false = k.along
    along_kept f k true = k.burdened_along

    -- also those through the child that waits
    through_kept : (f : FrameWays) → AreWaysKept m f → (b : Bool) → m (path_of b f).through.rows ≡ true
    through_kept f k false = k.through
    through_kept f k true = k.burdened_through

    -- those of all frames
    all_kept : (n : ℕ) → n ≤ most → (fs : List FrameWays) (vs : List Ways) → Laid n fs → All (AreWaysKept m) fs → AllWays on log fs vs → AllWays on new (map (pruned_frame m) fs) vs
    all_kept n l [] [] h k a = tt
    all_kept n l [] (v ∷ vs) h k a = absurd a
    all_kept n l (f ∷ fs) [] h k a = absurd a
    all_kept n l (f ∷ fs) (v ∷ vs) h k a =
        let start : f.start ≤ n = h.0 in
        let one : AreWaysKept m f = All-head (AreWaysKept m) f fs k in
        let in_most : AreIn most (path_of on f) = in_more n most l (path_of on f) (in_path on n f h.1 h.2) in (
          subst (λ (w : LoggedWays). AreBoth on new w v) (sym (path_kept f on)) (on_kept (path_of on f) v in_most (along_kept f one on) (through_kept f one on) a.0),
          all_kept f.start (omega arith) fs vs h.3 (All-tail (AreWaysKept m) f fs k) a.1,
        )

  -- ---- the rows

  module _ (rows : List LogRow) where
    -- the row at n
    abbrev at : ℕ → LogRow
    at n = get_or rows n outer_row

    -- those of the first n that are kept
    abbrev kept : ℕ → List LogRow
    kept n = pruned_rows m rows n

    -- where the next row is kept
    pub row_kept : (n : ℕ) → m (suc n) ≡ true → kept (suc n) ≡ kept n ++ (pruned_row m (at n) ∷ [])
    row_kept n e = ap (λ (b : Bool). kept n ++ cond {A = List LogRow} b (pruned_row m (at n) ∷ []) []) e

    -- where it isn't kept
    pub row_left : (n : ℕ) → m (suc n) ≡ false → kept (suc n) ≡ kept n
    row_left n e = ap (λ (b : Bool). kept n ++ cond {A = List LogRow} b (pruned_row m (at n) ∷ []) []) e ∙ append-nil (kept n)

    -- as many rows are left as are kept
    kept_count : (n : ℕ) → length (kept n) ≡ kept_up_to m n
    kept_count zero = refl
    kept_count (suc n) = elim (cases_Bool (m (suc n))) [
      | inl e ↦
          let a = length-append (kept n) (pruned_row m (at n) ∷ []) in
          let b : length (kept (suc n)) ≡ length (kept n ++ (pruned_row m (at n) ∷ [])) = ap (λ (l : List LogRow). length l) (row_kept n e) in
          let c = one_more n e in
          let d = kept_count n in
          omega arith
      | inr e ↦ ap (λ (l : List LogRow). length l) (row_left n e) ∙ kept_count n ∙ sym (as_many n e)
    ]

    -- the first row is, and none of the others stands for the way before the stretch
    kept_plain : m 1 ≡ true → BeginsPlain rows → (n : ℕ) → n < length rows → BeginsPlain (kept (suc n))
    kept_plain outer h zero l = subst BeginsPlain (sym (row_kept 0 outer)) (ap (pruned_row m) (first_at rows h), tt)
    kept_plain outer h (suc n) l =
        let before : BeginsPlain (kept (suc n)) = kept_plain outer h n (omega arith) in
        elim (cases_Bool (m (suc (suc n)))) [
          | inl e ↦ subst BeginsPlain (sym (row_kept (suc n) e)) (begins_put (kept (suc n)) (pruned_row m (at (suc n))) before refl (later_at rows h n l).1)
          | inr e ↦ subst BeginsPlain (sym (row_left (suc n) e)) before
        ]

    -- the kept rows lead to rows before them
    module _ (linked : AreLinked (reverse rows)) where
      -- one row does
      link_kept : (n : ℕ) → n < length rows → IsLinked (length (reverse (kept n))) (pruned_row m (at n))
      link_kept n l =
          let k = link rows linked outer_row n l in
          subst (λ i. IsLinked i (pruned_row m (at n))) (sym (length-reverse (kept n) ∙ kept_count n)) (record {
            before = up (at n).before n k.before;
            within = up (at n).within n k.within;
            burdened_before = up (at n).burdened_before n k.burdened_before;
            burdened_within = up (at n).burdened_within n k.burdened_within;
            site = k.site;
          })

      -- all do
      kept_linked : (n : ℕ) → n ≤ length rows → AreLinked (reverse (kept n))
      kept_linked zero l = tt
      kept_linked (suc n) l =
          let before : AreLinked (reverse (kept n)) = kept_linked n (omega arith) in
          elim (cases_Bool (m (suc n))) [
            | inl e ↦ subst AreLinked (sym (ap reverse (row_kept n e) ∙ reverse-append (kept n) (pruned_row m (at n) ∷ []))) (link_kept n (omega arith), before)
            | inr e ↦ subst (λ (l : List LogRow). AreLinked (reverse l)) (sym (row_left n e)) before
          ]

      -- ---- the ways

      module _ (plain : BeginsPlain rows) (links : AreKeptBehind m rows 0) (on : Bool) (e : Enclosure) (base : Box Merged) where
        -- the log of the rows that are left, told the last first
        abbrev new : ℕ → List LogRow
        new n = reverse (map (enclosed_row e base) (kept n))

        -- and that before
        abbrev old : ℕ → List LogRow
        old n = reverse (map (enclosed_row e base) (take n rows))

        -- how many rows are left of the first n
        new_count : (n : ℕ) → length (new n) ≡ kept_up_to m n
        new_count n = length-reverse (map (enclosed_row e base) (kept n)) ∙ length-map (kept n) (enclosed_row e base) ∙ kept_count n

        -- how many there were
        old_count : (n : ℕ) → n ≤ length rows → length (old n) ≡ n
        old_count n l = length-reverse (map (enclosed_row e base) (take n rows)) ∙ length-map (take n rows) (enclosed_row e base) ∙ length-take-le n rows l

        -- the next row is kept: it is told first
        new_kept : (n : ℕ) → m (suc n) ≡ true → new (suc n) ≡ enclosed_row e base (pruned_row m (at n)) ∷ new n
        new_kept n k = ap (λ (l : List LogRow). reverse (map (enclosed_row e base) l)) (row_kept n k) ∙ turned (enclosed_row e base) (kept n) (pruned_row m (at n))

        -- it isn't kept
        new_left : (n : ℕ) → m (suc n) ≡ false → new (suc n) ≡ new n
        new_left n k = ap (λ (l : List LogRow). reverse (map (enclosed_row e base) l)) (row_left n k)

        -- it is told first in the log before
        old_more : (n : ℕ) → n < length rows → old (suc n) ≡ enclosed_row e base (at n) ∷ old n
        old_more n l = ap (λ (l : List LogRow). reverse (map (enclosed_row e base) l)) (take-suc rows n outer_row l) ∙ turned (enclosed_row e base) (take n rows) (at n)

        -- what a row adds doesn't depend on where the ways to it end
        same_merged : (r : LogRow) (key : Option ℕ) (o : Option (Box Merged)) → merged_row on (enclosed_row e base (pruned_row m r)) o key ≡ merged_row on (enclosed_row e base r) o key
        same_merged r key None = refl
        same_merged r key (Some b) = refl

        -- that of a frame, and that of the way before the stretch
        same_row : (r : LogRow) → r.merged ≡ None → (key : Option ℕ) → row_on on (enclosed_row e base (pruned_row m r)) key ≡ row_on on (enclosed_row e base r) key
        same_row r none key =
            same_merged r key (cond (nat_eq r.caller outer_way) (Some base) None)
            ∙ ap (λ (o : Option (Box Merged)). merged_row on (enclosed_row e base r) (cond (nat_eq r.caller outer_way) (Some base) o) key) (sym none)

        -- where the way to a row's frame ends then
        before_is : (r : LogRow) (b : Bool) → before_on b (enclosed_row e base (pruned_row m r)) ≡ kept_up_to m (before_on b (enclosed_row e base r))
        before_is r false = refl
        before_is r true = refl

        -- where the way through it ends then
        within_is : (r : LogRow) (b : Bool) → within_on b (enclosed_row e base (pruned_row m r)) ≡ kept_up_to m (within_on b (enclosed_row e base r))
        within_is r false = refl
        within_is r true = refl

        -- the way to the frame of a row that is kept is kept on either path
        before_kept : (r : LogRow) → AreLinksKept m r → (b : Bool) → m (before_on b (enclosed_row e base r)) ≡ true
        before_kept r k false = k.before
        before_kept r k true = k.burdened_before

        -- and so is that through it
        within_kept : (r : LogRow) → AreLinksKept m r → (b : Bool) → m (within_on b (enclosed_row e base r)) ≡ true
        within_kept r k false = k.within
        within_kept r k true = k.burdened_within

        -- the way to the frame of a row ends within the rows before it on either path
        before_in : (n : ℕ) (r : LogRow) → IsLinked n r → (b : Bool) → before_on b (enclosed_row e base r) ≤ n
        before_in n r k false = k.before
        before_in n r k true = k.burdened_before

        -- and so does that through it
        within_in : (n : ℕ) (r : LogRow) → IsLinked n r → (b : Bool) → within_on b (enclosed_row e base r) ≤ n
        within_in n r k false = k.within
        within_in n r k true = k.burdened_within

        -- in the first n rows each way that is kept adds the same
        abbrev Same : ℕ → Type 0
        Same n = (w : ℕ) → w ≤ n → m w ≡ true → (key : Option ℕ) → way_row on (new n) (kept_up_to m w) key ≡ way_row on (old n) w key

        -- the way that ends with the next row
        same_last : (n : ℕ) → n < length rows → Same n → m (suc n) ≡ true → (key : Option ℕ) → way_row on (new (suc n)) (kept_up_to m (suc n)) key ≡ way_row on (old (suc n)) (suc n) key
        same_last n l same k key =
            let r : LogRow = enclosed_row e base (at n) in
            let s : LogRow = enclosed_row e base (pruned_row m (at n)) in
            let link : IsLinked n (at n) = link rows linked outer_row n l in
            let lead : AreLinksKept m (at n) = links n (omega arith) l k in
            let here : kept_up_to m (suc n) ≡ suc (length (new n)) = one_more n k ∙ ap suc (sym (new_count n)) in
            let there : suc n ≡ suc (length (old n)) = ap suc (sym (old_count n (omega arith))) in
            let b : way_row on (new n) (before_on on s) key ≡ way_row on (old n) (before_on on r) key =
            ap (λ i. way_row on (new n) i key) (before_is (at n) on) ∙ same (before_on on r) (before_in n (at n) link on) (before_kept (at n) lead on) key in
            let w : way_row on (new n) (within_on on s) key ≡ way_row on (old n) (within_on on r) key =
            ap (λ i. way_row on (new n) i key) (within_is (at n) on) ∙ same (within_on on r) (within_in n (at n) link on) (within_kept (at n) lead on) key in
            ap₂ (λ (l : List LogRow) (i : ℕ). way_row on l i key) (new_kept n k) here ∙ rows_last on s (new n) key
            ∙ ap₂ plus b (ap₂ plus w (same_row (at n) (none_merged rows plain n l) key))
            ∙ sym (ap₂ (λ (l : List LogRow) (i : ℕ). way_row on l i key) (old_more n l) there ∙ rows_last on r (old n) key)

        -- a way that ends before it, where the next row is kept, and where it isn't
        same_before : (n : ℕ) → n < length rows → Same n → (w : ℕ) → w ≤ n → m w ≡ true → (key : Option ℕ)
            → way_row on (new (suc n)) (kept_up_to m w) key ≡ way_row on (old (suc n)) w key
        same_before n l same w in_n k key =
            let r : LogRow = enclosed_row e base (at n) in
            let s : LogRow = enclosed_row e base (pruned_row m (at n)) in
            let short : kept_up_to m w ≤ length (new n) = (let a = up w n in_n in let b = new_count n in omega arith) in
            let short_old : w ≤ length (old n) = (let b = old_count n (let z : n ≤ length rows = omega arith in z) in omega arith) in
            let then : way_row on (new (suc n)) (kept_up_to m w) key ≡ way_row on (new n) (kept_up_to m w) key = elim (cases_Bool (m (suc n))) [
              | inl y ↦ ap (λ (l : List LogRow). way_row on l (kept_up_to m w) key) (new_kept n y) ∙ rows_older on s (new n) (kept_up_to m w) short key
              | inr y ↦ ap (λ (l : List LogRow). way_row on l (kept_up_to m w) key) (new_left n y)
            ] in
            then ∙ same w in_n k key ∙ sym (ap (λ (l : List LogRow). way_row on l w key) (old_more n l) ∙ rows_older on r (old n) w short_old key)

        -- each way that is kept adds what it added
        same_ways : (n : ℕ) → n ≤ length rows → Same n
        same_ways zero l w in_n k key = refl
        same_ways (suc n) l w in_n k key =
            let less : n < length rows = omega arith in
            let before : Same n = same_ways n (omega arith) in
            elim (eqb_tells w (suc n)) [
              | inl is ↦
                  ap (λ i. way_row on (new (suc n)) (kept_up_to m i) key) is.1 ∙ same_last n less before (ap m (sym is.1) ∙ k) key
                  ∙ ap (λ i. way_row on (old (suc n)) i key) (sym is.1)
              | inr is ↦ same_before n less before w (let z = is.1 in omega arith) k key
            ]

-- ---- the whole

module _ (m : ℕ → Bool) (rows : List LogRow) (frames : List FrameWays) (stretch : IsStretch rows frames)
    (outer : m 1 ≡ true) (links : AreKeptBehind m rows 0) (entered : All (AreWaysKept m) frames) where
  -- the frames told the last first
  turned_frames : reverse (map (pruned_frame m) frames) ≡ map (pruned_frame m) (reverse frames)
  turned_frames = reverse-map (pruned_frame m) frames

  -- the rows that are left are those of a stretch
  begins : BeginsPlain (pruned_rows m rows (length rows))
  begins =
      let some : 1 ≤ length rows = begins_some rows stretch.plain in
      let is : length rows ≡ suc (length rows - 1) = omega arith in
      subst (λ n. BeginsPlain (pruned_rows m rows n)) (sym is) (kept_plain m rows outer stretch.plain (length rows - 1) (omega arith))

  -- what is left is a stretch
  pub pruned_stretch : IsStretch (pruned_rows m rows (length rows)) (map (pruned_frame m) frames)
  pruned_stretch = record {
    linked = kept_linked m rows stretch.linked (length rows) (omega arith);
    frames = subst (λ n. Laid n (reverse (map (pruned_frame m) frames))) (sym (kept_count m rows (length rows)))
        (subst (Laid (kept_up_to m (length rows))) (sym turned_frames) (kept_laid m (length rows) (reverse frames) stretch.frames));
    plain = begins;
    started = kept_started m outer frames stretch.started;
    some = (let a = stretch.some in let b = length-map frames (pruned_frame m) in omega arith);
  }

  -- its ways are the same
  pub pruned_same : (on : Bool) (e : Enclosure) (base : Box Merged) (ways : List Ways) → AreEnclosed on e base rows frames ways
      → AreEnclosed on e base (pruned_rows m rows (length rows)) (map (pruned_frame m) frames) ways
  pruned_same on e base ways h =
      let old : List LogRow = reverse (map (enclosed_row e base) rows) in
      let new : List LogRow = reverse (map (enclosed_row e base) (pruned_rows m rows (length rows))) in
      let whole : take (length rows) rows ≡ rows = take_all (length rows) rows (omega arith) in
      let same : (w : ℕ) → w ≤ length rows → m w ≡ true → (key : Option ℕ) → way_row on new (kept_up_to m w) key ≡ way_row on old w key =
      λ w l k key. same_ways m rows stretch.linked stretch.plain links on e base (length rows) (omega arith) w l k key
      ∙ ap (λ (l : List LogRow). way_row on (reverse (map (enclosed_row e base) l)) w key) whole in
      let marked : All (AreWaysKept m) (reverse frames) = all_back (AreWaysKept m) (reverse frames) (subst (All (AreWaysKept m)) (sym (reverse-reverse frames)) entered) in
      subst (λ (l : List FrameWays). AllWays on new l ways) (sym turned_frames)
      (all_kept m on (length rows) old new same (length rows) (omega arith) (reverse frames) ways stretch.frames marked h)

  -- it has no more rows
  pub pruned_few : length (pruned_rows m rows (length rows)) ≤ length rows
  pruned_few = let a = kept_count m rows (length rows) in let b = few_kept m (length rows) in omega arith

  -- its first row stands for the way before it
  pub pruned_first : pruned_rows m rows (length rows) ≡ outer_row ∷ drop 1 (pruned_rows m rows (length rows))
  pruned_first = begins_first (pruned_rows m rows (length rows)) begins
