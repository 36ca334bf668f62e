-- The open frames, which are seen with the innermost first.
use Rattle.std.proofs.Common.{◌≡◌, ℕ, ◌<◌, List, [], ◌∷◌, ◌++◌, length, reverse, sym, ap, ◌∙◌, arith}
use Rattle.std.proofs.lemmas.List.{length-reverse}
use Rattle.spp_pass.specs.declared.counted_frame.CountedFrame.{CountedFrame}
use Rattle.spp_dag.specs.declared.choices.End.{End}
use Rattle.spp_dag.specs.declared.choices.Choice.{Choice}
use Rattle.spp_pass.specs.Passes.{OnTop, IsTop, Notes, noted_sync, noted_return, joins_at, ends_at, state_of, burdened_state_of}

-- some frame is open
pub some_open : (P : CountedFrame → Type 0) (xs : List CountedFrame) → OnTop P (reverse xs) → 0 < length xs
some_open P xs h = by (reverse xs) (length-reverse xs) h
  where
    by : (ys : List CountedFrame) → length ys ≡ length xs → OnTop P ys → 0 < length xs
    by [] e h = absurd h
    by (y ∷ ys) e h = let z : 0 < length (y ∷ ys) = omega arith in omega arith

-- the innermost frame, where it is told
pub told_top : (f : CountedFrame) (frames : List CountedFrame) → IsTop f frames → (below : List CountedFrame) × (frames ≡ f ∷ below)
told_top f [] h = absurd h
told_top f (g ∷ fs) h = (fs, ap (λ (x : CountedFrame). x ∷ fs) (sym h))

-- what is noted where it waits and where it returns
pub noted_top : (f : CountedFrame) (frames : List CountedFrame) → IsTop f frames → (at : ℕ) (ends : List End) (joins burdened : List Choice) (n : Notes)
    → ends ≡ n.ends → joins ≡ n.joins ++ joins_at at (state_of f) → burdened ≡ n.burdened_joins ++ joins_at at (burdened_state_of f)
    → record { ends = ends; joins = joins; burdened_joins = burdened } ≡ noted_sync at frames n
noted_top f frames h at ends joins burdened n a b c =
    let t = told_top f frames h in
    (λ j. record { ends = a j; joins = b j; burdened_joins = c j }) ∙ ap (λ (l : List CountedFrame). noted_sync at l n) (sym t.1)

pub returned_top : (f : CountedFrame) (frames : List CountedFrame) → IsTop f frames → (at : ℕ) (ends : List End) (joins burdened : List Choice) (n : Notes)
    → ends ≡ n.ends ++ ends_at at f.kind f.at → joins ≡ n.joins ++ joins_at at (state_of f) → burdened ≡ n.burdened_joins ++ joins_at at (burdened_state_of f)
    → record { ends = ends; joins = joins; burdened_joins = burdened } ≡ noted_return at frames n
returned_top f frames h at ends joins burdened n a b c =
    let t = told_top f frames h in
    (λ j. record { ends = a j; joins = b j; burdened_joins = c j }) ∙ ap (λ (l : List CountedFrame). noted_return at l n) (sym t.1)
