-- Marks of the ways that are kept: what is marked stays, and where a row's links are marked the rows behind it stay as they are.
use Rattle.std.proofs.Common.{◌≡◌, ℕ, zero, suc, ◌+◌, ◌≤◌, ◌<◌, Bool, true, false, nat_eq, ◌||◌, List, [], ◌∷◌, ◌++◌, length, drop, get_or, refl, sym, ap, ap₂, subst, inl, inr, ◌⊎◌, ◌∙◌, arith}
use Rattle.std.proofs.Math.Dec.{leb}
use Rattle.std.proofs.lemmas.Bool.{eq-eqb, ne_eqb}
use Rattle.std.proofs.lemmas.Bool.Decides.{leb_tells}
use Rattle.std.proofs.lemmas.Grind.{get_or_after_one}
use Rattle.std.proofs.lemmas.List.{get_or_default}
use Rattle.spp_site.specs.Marks.{with_mark}
use Rattle.spp_ways.specs.declared.log.LogRow.{LogRow}
use Rattle.spp_ways.specs.declared.frame_ways.FrameWays.{FrameWays}
use Rattle.spp_ways.specs.Stretches.{outer_row}
use Rattle.spp_ways.specs.Pruning.{AreLinksKept, AreKeptBehind, AreWaysKept, AreAlso, pruned_row, pruned_rows}
use Rattle.spp_ways.proofs.Pruned.{row_kept, row_left}

-- what is put into a set is in it, and what was stays
now_in : (x : ℕ) (m : ℕ → Bool) → with_mark x m x ≡ true
now_in x m = ap (λ b. b || m x) (eq-eqb x x refl)

still_in : (x : ℕ) (m : ℕ → Bool) (y : ℕ) → m y ≡ true → with_mark x m y ≡ true
still_in x m y h = or_right (nat_eq x y) (m y) h
  where
    or_right : (a b : Bool) → b ≡ true → (a || b) ≡ true
    or_right true b h = refl
    or_right false b h = h

other_in : (x : ℕ) (m : ℕ → Bool) (y : ℕ) → x < y → with_mark x m y ≡ m y
other_in x m y lt = ap (λ b. b || m y) (ne_eqb x y (λ q. omega (arith, lt, q)))

-- Four numbers are put in, and no others.
pub record FourMarked (a b c d : ℕ) (m four : ℕ → Bool) : Type 0 where
  pub first : four a ≡ true
  pub second : four b ≡ true
  pub third : four c ≡ true
  pub fourth : four d ≡ true
  pub more : AreAlso m four
  pub others : (y : ℕ) → a < y → b < y → c < y → d < y → four y ≡ m y

pub four_marked : (a b c d : ℕ) (m one two three four : ℕ → Bool) → ((y : ℕ) → one y ≡ with_mark a m y) → ((y : ℕ) → two y ≡ with_mark b one y)
    → ((y : ℕ) → three y ≡ with_mark c two y) → ((y : ℕ) → four y ≡ with_mark d three y) → FourMarked a b c d m four
four_marked a b c d m one two three four first second third fourth =
    let last : AreAlso three four = λ y h. fourth y ∙ still_in d three y h in
    let later : AreAlso two four = λ y h. last y (third y ∙ still_in c two y h) in
    let earlier : AreAlso one four = λ y h. later y (second y ∙ still_in b one y h) in
    record {
      first = earlier a (first a ∙ now_in a m);
      second = later b (second b ∙ now_in b one);
      third = last c (third c ∙ now_in c two);
      fourth = fourth d ∙ now_in d three;
      more = λ y h. earlier y (first y ∙ still_in a m y h);
      others = λ y la lb lc ld. fourth y ∙ other_in d three y ld ∙ third y ∙ other_in c two y lc ∙ second y ∙ other_in b one y lb ∙ first y ∙ other_in a m y la;
    }

-- more is marked
pub more_ways : (m more : ℕ → Bool) (f : FrameWays) → AreAlso m more → AreWaysKept m f → AreWaysKept more f
more_ways m more f k h = record {
  along = k _ h.along;
  through = k _ h.through;
  burdened_along = k _ h.burdened_along;
  burdened_through = k _ h.burdened_through;
}

pub more_links : (m more : ℕ → Bool) (r : LogRow) → AreAlso m more → AreLinksKept m r → AreLinksKept more r
more_links m more r k h = record {
  before = k _ h.before;
  within = k _ h.within;
  burdened_before = k _ h.burdened_before;
  burdened_within = k _ h.burdened_within;
}

-- The links of the row at n are marked, or it isn't kept, and nothing behind it is.
pub marked_from : (m more : ℕ → Bool) (rows : List LogRow) (n : ℕ) → AreAlso m more → ((y : ℕ) → n < y → more y ≡ m y)
    → (m (suc n) ≡ true → AreLinksKept more (get_or rows n outer_row))
    → AreKeptBehind m rows (suc n) → AreKeptBehind more rows n
marked_from m more rows n k same here h j l lt is = at (leb_tells (suc n) j)
  where
    at : ((leb (suc n) j ≡ true) × (suc n ≤ j)) ⊎ ((leb (suc n) j ≡ false) × (j < suc n)) → AreLinksKept more (get_or rows j outer_row)
    at (inl p) = more_links m more (get_or rows j outer_row) k (h j p.1 lt (sym (same (suc j) (omega (arith, p.1))) ∙ is))
    at (inr p) =
        let e : n ≡ j = omega (arith, p.1, l) in
        subst (λ i. AreLinksKept more (get_or rows i outer_row)) e (here (subst (λ i. m (suc i) ≡ true) (sym e) (sym (same (suc j) (omega (arith, e))) ∙ is)))

-- ---- the rows, as they are read

-- a row of a stretch behind the first is that of its log
pub row_at : (items : List LogRow) (k : ℕ) (x : LogRow) → 1 ≤ k → k < length items → x ≡ get_or items k x → get_or (outer_row ∷ drop 1 items) k outer_row ≡ x
row_at items zero x some lt at = absurd (let z : 1 ≤ 0 = some in omega arith)
row_at items (suc j) x some lt at =
    let a : get_or (drop 1 items) j outer_row ≡ get_or items (1 + j) outer_row = get_or_after_one items j outer_row in
    let b : 1 + j ≡ suc j = omega arith in
    a ∙ ap (λ i. get_or items i outer_row) b ∙ get_or_default items (suc j) outer_row x lt ∙ sym at

-- there are as many
pub rows_many : (items : List LogRow) → 0 < length items → length (outer_row ∷ drop 1 items) ≡ length items
rows_many [] some = absurd (let z : 0 < 0 = some in omega arith)
rows_many (x ∷ xs) some = refl

-- nothing leads on from the way into the outer frame before the stretch
pub marked_outer : (m : ℕ → Bool) (rows : List LogRow) (n : ℕ) → n ≤ 1 → m 0 ≡ true → AreKeptBehind m (outer_row ∷ rows) n → AreKeptBehind m (outer_row ∷ rows) 0
marked_outer m rows n l none h zero lt many is = record { before = none; within = none; burdened_before = none; burdened_within = none }
marked_outer m rows n l none h (suc k) lt many is = h (suc k) (omega (arith, l)) many is

-- ---- the rows that are kept

-- the next row is
pub next_kept : (m : ℕ → Bool) (rows : List LogRow) (k : ℕ) (x : LogRow) (kept : List LogRow) → get_or rows k outer_row ≡ x → m (k + 1) ≡ true → kept ≡ pruned_rows m rows k
    → kept ++ (pruned_row m x ∷ []) ≡ pruned_rows m rows (k + 1)
next_kept m rows k x kept at is so_far =
    let next : k + 1 ≡ suc k = omega arith in
    ap₂ (λ (l : List LogRow) (r : LogRow). l ++ (pruned_row m r ∷ [])) so_far (sym at) ∙ sym (row_kept m rows k (ap m (sym next) ∙ is)) ∙ ap (pruned_rows m rows) (sym next)

-- it isn't
pub next_left : (m : ℕ → Bool) (rows : List LogRow) (k : ℕ) (kept : List LogRow) → m (k + 1) ≡ false → kept ≡ pruned_rows m rows k → kept ≡ pruned_rows m rows (k + 1)
next_left m rows k kept is so_far = let next : k + 1 ≡ suc k = omega arith in so_far ∙ sym (row_left m rows k (ap m (sym next) ∙ is)) ∙ ap (pruned_rows m rows) (sym next)
