-- The open frames, which are seen with the innermost first.
use Rattle.std.proofs.Common.{◌≡◌, ℕ, ◌<◌, List, [], ◌∷◌, length, reverse, arith}
use Rattle.std.proofs.lemmas.List.{length-reverse}
use Rattle.spp_maxplus.specs.Weights.{close}
use Rattle.spp_path.specs.declared.rows.EnteredFrame.{EnteredFrame}
use Rattle.spp_path.specs.declared.spans.OpenSpan.{OpenSpan}
use Rattle.spp_path.specs.Rows as rows
use Rattle.spp_path.specs.Spans as spans
use Rattle.spp_path.proofs.OpenWeights.{top_close}

-- some entered frame is open
pub some_open : (P : EnteredFrame → Type 0) (xs : List EnteredFrame) → rows.OnTop P (reverse xs) → 0 < length xs
some_open P xs h = by (reverse xs) (length-reverse xs) h
  where
    by : (ys : List EnteredFrame) → length ys ≡ length xs → rows.OnTop P ys → 0 < length xs
    by [] e h = absurd h
    by (y ∷ ys) e h = let z : 0 < length (y ∷ ys) = omega arith in omega arith

-- some frame is open
pub span_open : (P : OpenSpan → Type 0) (xs : List OpenSpan) → spans.OnTop P (reverse xs) → 0 < length xs
span_open P xs h = by (reverse xs) (length-reverse xs) h
  where
    by : (ys : List OpenSpan) → length ys ≡ length xs → spans.OnTop P ys → 0 < length xs
    by [] e h = absurd h
    by (y ∷ ys) e h = let z : 0 < length (y ∷ ys) = omega arith in omega arith

-- two are open
pub spans_open : (P : OpenSpan → Type 0) (xs : List OpenSpan) → spans.OnBelow P (reverse xs) → 1 < length xs
spans_open P xs h = by (reverse xs) (length-reverse xs) h
  where
    by : (ys : List OpenSpan) → length ys ≡ length xs → spans.OnBelow P ys → 1 < length xs
    by [] e h = absurd h
    by (y ∷ []) e h = absurd h
    by (y ∷ z ∷ ys) e h = let w : 1 < length (y ∷ z ∷ ys) = omega arith in omega arith

-- the weight with which the innermost one closes
pub top_is : (v : ℕ) (fs : List OpenSpan) → spans.OnTop (λ f. v ≡ close f.weights) fs → v ≡ top_close fs
top_is v [] h = absurd h
top_is v (f ∷ fs) h = h
