-- Steps that may be run, one more at the end.
use Rattle.std.proofs.Common.{ℕ, List, [], ◌∷◌, ◌++◌}
use Rattle.spp_book.specs.declared.world.Step.{Step}
use Rattle.spp_book.specs.Worlds.{MayStep, MayRun}

pub may_push : {C : Type 0} (parts : ℕ) (range : ℕ → ℕ × ℕ) (value : ℕ → ℕ → C → Type 0) (xs : List (Step C)) (x : Step C)
    → MayRun parts range value xs → MayStep parts range value x → MayRun parts range value (xs ++ x ∷ [])
may_push parts range value [] x h i = (i, tt)
may_push parts range value (y ∷ xs) x h i = (h.0, may_push parts range value xs x h.1 i)
