-- A way stays as it is where the log grows, and where rows behind its last one are cut off.
use Rattle.std.proofs.Common.{◌≡◌, ℕ, suc, ◌≤◌, Bool, true, false, List, [], ◌∷◌, ◌++◌, length, Option, reverse, take, drop, nat_eq, refl, sym, ap, subst, ◌∙◌, arith}
use Rattle.std.proofs.lemmas.Bool.{ne_eqb, eq-eqb}
use Rattle.std.proofs.lemmas.List.{reverse-append, length-reverse, length-append, length-take-le, take-append-drop}
use Rattle.spp_ways.specs.declared.log.LogRow.{LogRow}
use Rattle.spp_ways.specs.declared.frame_ways.LoggedWays.{LoggedWays}
use Rattle.spp_ways.specs.declared.frame_ways.FrameWays.{FrameWays}
use Rattle.spp_dag.specs.Shares.{plus, zero_row}
use Rattle.spp_ways.specs.declared.frame_ways.LoggedWay.{LoggedWay}
use Rattle.spp_ways.specs.Ways.{Way, Ways}
use Rattle.spp_ways.specs.Logs.{way_row, before_on, within_on, row_on, AreLinked}
use Rattle.spp_ways.specs.OpenWays.{IsWay, AreBoth, AllWays, plain_of, burdened_of, path_of, AreIn, Laid}

-- a row behind the last one of a way
pub rows_older : (on : Bool) (r : LogRow) (rs : List LogRow) (k : ℕ) → k ≤ length rs → (key : Option ℕ) → way_row on (r ∷ rs) k key ≡ way_row on rs k key
rows_older on r rs k l key =
    let e : nat_eq k (suc (length rs)) ≡ false = ne_eqb _ _ (λ q. omega arith) in
    rw (e, way_row)

-- rows behind it
pub rows_stay : (on : Bool) (xs rs : List LogRow) (k : ℕ) → k ≤ length rs → (key : Option ℕ) → way_row on (xs ++ rs) k key ≡ way_row on rs k key
rows_stay on [] rs k l key = refl
rows_stay on (x ∷ xs) rs k l key = rows_older on x (xs ++ rs) k (let n = length-append xs rs in omega arith) key ∙ rows_stay on xs rs k l key

-- the way that ends with the last row
pub rows_last : (on : Bool) (r : LogRow) (rs : List LogRow) (key : Option ℕ)
    → way_row on (r ∷ rs) (suc (length rs)) key ≡ plus (way_row on rs (before_on on r) key) (plus (way_row on rs (within_on on r) key) (row_on on r key))
rows_last on r rs key =
    let e : nat_eq (suc (length rs)) (suc (length rs)) ≡ true = eq-eqb _ _ refl in
    rw (e, way_row)

-- the way that enters nothing
pub rows_none : (on : Bool) (rs : List LogRow) (key : Option ℕ) → way_row on rs 0 key ≡ zero_row
rows_none on [] key = refl
rows_none on (r ∷ rs) key = rows_older on r rs 0 (omega arith) key ∙ rows_none on rs key

-- a way in another log, where it is as it was
pub way_moves : (on : Bool) (log new : List LogRow) (w : LoggedWay) (v : Way) → ((key : Option ℕ) → way_row on new w.rows key ≡ way_row on log w.rows key) → IsWay on log w v → IsWay on new w v
way_moves on log new w v e h = (h.0, λ key. e key ∙ h.1 key)

pub in_more : (n m : ℕ) → n ≤ m → (w : LoggedWays) → AreIn n w → AreIn m w
in_more n m l w h = (let a = h.0 in omega arith, let b = h.1 in omega arith)

pub in_path : (on : Bool) (n : ℕ) (f : FrameWays) → AreIn n (plain_of f) → AreIn n (burdened_of f) → AreIn n (path_of on f)
in_path false n f a b = a
in_path true n f a b = b

-- the two logs have the first n rows in common: ways that end there are the same in both
abbrev pub AreAlike : Bool → ℕ → List LogRow → List LogRow → Type 0
AreAlike on n log new = (k : ℕ) → k ≤ n → (key : Option ℕ) → way_row on new k key ≡ way_row on log k key

pub both_move : (on : Bool) (n : ℕ) (log new : List LogRow) → AreAlike on n log new → (w : LoggedWays) (v : Ways) → AreIn n w → AreBoth on log w v → AreBoth on new w v
both_move on n log new same w v l h = (way_moves on log new w.along v.along (same w.along.rows l.0) h.0, way_moves on log new w.through v.through (same w.through.rows l.1) h.1)

pub all_move : (on : Bool) (n m : ℕ) (log new : List LogRow) → AreAlike on n log new → m ≤ n → (fs : List FrameWays) (vs : List Ways) → Laid m fs → AllWays on log fs vs → AllWays on new fs vs
all_move on n m log new same l [] [] h a = tt
all_move on n m log new same l [] (v ∷ vs) h a = absurd a
all_move on n m log new same l (f ∷ fs) [] h a = absurd a
all_move on n m log new same l (f ∷ fs) (v ∷ vs) h a =
    let start : f.start ≤ m = h.0 in (
      both_move on n log new same (path_of on f) v (in_more m n l (path_of on f) (in_path on m f h.1 h.2)) a.0,
      all_move on n f.start log new same (omega arith) fs vs h.3 a.1,
    )

-- a log with more rows, and one with fewer
pub alike_more : (on : Bool) (xs rs : List LogRow) (n : ℕ) → n ≤ length rs → AreAlike on n rs (xs ++ rs)
alike_more on xs rs n l = λ k m key. rows_stay on xs rs k (omega arith) key

pub alike_less : (on : Bool) (xs rs : List LogRow) (n : ℕ) → n ≤ length rs → AreAlike on n (xs ++ rs) rs
alike_less on xs rs n l = λ k m key. sym (rows_stay on xs rs k (omega arith) key)

pub laid_more : (n m : ℕ) → n ≤ m → (fs : List FrameWays) → Laid n fs → Laid m fs
laid_more n m l [] h = tt
laid_more n m l (f ∷ fs) h = ((let a = h.0 in omega arith), in_more n m l (plain_of f) h.1, in_more n m l (burdened_of f) h.2, h.3)

-- ---- a log that is cut off

pub record Cut (items : List LogRow) (to : ℕ) : Type 0 where
  pub off : List LogRow
  pub is : reverse items ≡ off ++ reverse (take to items)
  pub count : length (reverse (take to items)) ≡ to

pub cut : (items : List LogRow) (to : ℕ) → to ≤ length items → Cut items to
cut items to l = record {
  off = reverse (drop to items);
  is = ap reverse (sym (take-append-drop to items)) ∙ reverse-append (take to items) (drop to items);
  count = length-reverse (take to items) ∙ length-take-le to items l;
}

-- what is left of a log leads to what is left
pub linked_less : (xs rs : List LogRow) → AreLinked (xs ++ rs) → AreLinked rs
linked_less [] rs h = h
linked_less (x ∷ xs) rs h = linked_less xs rs h.1

-- the first n rows are those of the log before
pub cut_alike : (on : Bool) (items : List LogRow) (to n : ℕ) → to ≤ length items → n ≤ to → AreAlike on n (reverse items) (reverse (take to items))
cut_alike on items to n l m =
    let c = cut items to l in
    subst (λ (x : List LogRow). AreAlike on n x (reverse (take to items))) (sym c.is) (alike_less on c.off (reverse (take to items)) n (let z = c.count in omega arith))
