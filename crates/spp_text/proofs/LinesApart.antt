-- The lines of a text that is cut behind a line feed.
use Rattle.std.proofs.Common.{◌≡◌, ℕ, ◌<◌, Bool, true, false, List, [], ◌∷◌, ◌++◌, length, map, refl, sym, ap, subst, ◌∙◌, append_assoc, append-nil, arith, inl, inr}
use Rattle.std.specs.Prelude.{count_by}
use Rattle.std.specs.List.{slice_split, onto_first}
use Rattle.std.specs.Str.Lines.{lines, lines_of_parts, strip_carriage_return}
use Rattle.std.proofs.lemmas.List.{length-map, length-append}
use Rattle.std.proofs.lemmas.List.Splits.{slice_split-cons_yes, slice_split-cons_no, length-slice_split}
use Rattle.spp_text.specs.TextDrafts.{AreWholeLines}
use Rattle.spp_text.proofs.LinesInTurn.{is_feed, parts_more}

-- the parts of what stands before a line feed, and those behind it
split_there : (xs ys : List ℕ) → slice_split is_feed (xs ++ 10 ∷ ys) ≡ slice_split is_feed xs ++ slice_split is_feed ys
split_there [] ys = refl
split_there (x ∷ xs) ys = by_first (is_feed x) refl (split_there xs ys)
  where
    some : (parts : List (List ℕ)) → slice_split is_feed xs ≡ parts → 0 < length parts
    some parts e = omega (arith, ap length e, length-slice_split is_feed xs)

    onto : (parts : List (List ℕ)) → 0 < length parts → onto_first x (parts ++ slice_split is_feed ys) ≡ onto_first x parts ++ slice_split is_feed ys
    onto [] lt = absurd (omega arith)
    onto (p ∷ ps) lt = refl

    by_first : (t : Bool) → is_feed x ≡ t → slice_split is_feed (xs ++ 10 ∷ ys) ≡ slice_split is_feed xs ++ slice_split is_feed ys → slice_split is_feed (x ∷ (xs ++ 10 ∷ ys)) ≡ slice_split is_feed (x ∷ xs) ++ slice_split is_feed ys
    by_first true e others = rw (slice_split-cons_yes is_feed x (xs ++ 10 ∷ ys) e, slice_split-cons_yes is_feed x xs e) (ap (λ (ps : List (List ℕ)). [] ∷ ps) others)
    by_first false e others =
        rw (slice_split-cons_no is_feed x (xs ++ 10 ∷ ys) e, slice_split-cons_no is_feed x xs e)
        (ap (onto_first x) others ∙ onto (slice_split is_feed xs) (some (slice_split is_feed xs) refl))

parts_then : (parts : List (List ℕ)) (ys : List ℕ) → lines_of_parts (parts ++ slice_split is_feed ys) ≡ map strip_carriage_return parts ++ lines ys
parts_then [] ys = refl
parts_then (p ∷ []) ys = parts_more p ys
parts_then (p ∷ q ∷ ps) ys = ap (λ (ls : List (List ℕ)). strip_carriage_return p ∷ ls) (parts_then (q ∷ ps) ys)

lines_there : (xs ys : List ℕ) → lines (xs ++ 10 ∷ ys) ≡ map strip_carriage_return (slice_split is_feed xs) ++ lines ys
lines_there xs ys = ap lines_of_parts (split_there xs ys) ∙ parts_then (slice_split is_feed xs) ys

lines_to_feed : (xs : List ℕ) → lines (xs ++ 10 ∷ []) ≡ map strip_carriage_return (slice_split is_feed xs)
lines_to_feed xs = lines_there xs [] ∙ append-nil (map strip_carriage_return (slice_split is_feed xs))

-- the lines of a text that ends a line, and those of what follows it
pub lines_apart : (xs ys : List ℕ) → AreWholeLines xs → lines (xs ++ ys) ≡ lines xs ++ lines ys
lines_apart xs ys (inl none) = rw none refl
lines_apart xs ys (inr (front, is)) =
    rw is
    (ap lines (append_assoc front (10 ∷ []) ys)
    ∙ lines_there front ys
    ∙ ap (λ (ls : List (List ℕ)). ls ++ lines ys) (sym (lines_to_feed front)))

-- it has as many lines as line feeds
pub lines_counted : (xs : List ℕ) → AreWholeLines xs → length (lines xs) ≡ count_by is_feed xs
lines_counted xs (inl none) = rw none refl
lines_counted xs (inr (front, is)) =
    rw is
    (ap length (lines_to_feed front)
    ∙ length-map (slice_split is_feed front) strip_carriage_return
    ∙ length-slice_split is_feed front
    ∙ (omega (arith, length-slice_split is_feed (front ++ 10 ∷ []), ap length (split_there front []), length-append (slice_split is_feed front) ([] ∷ []), length-slice_split is_feed front)))

-- whole lines, and whole lines behind them
pub ends_behind : (before bytes : List ℕ) → AreWholeLines before → AreWholeLines bytes → AreWholeLines (before ++ bytes)
ends_behind before bytes ends (inl none) = subst AreWholeLines (sym (ap (λ (l : List ℕ). before ++ l) none ∙ append-nil before)) ends
ends_behind before bytes ends (inr (front, is)) = inr (before ++ front, ap (λ (l : List ℕ). before ++ l) is ∙ sym (append_assoc before front (10 ∷ [])))
