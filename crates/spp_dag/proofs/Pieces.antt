-- The machine over two lists, one after the other.
use Rattle.std.proofs.Common.{◌≡◌, ℕ, suc, ◌+◌, refl, arith, ◌∙◌, ap, List, [], ◌∷◌, ◌++◌, length, Option, Some, None}
use Rattle.spp_event.specs.declared.records.Event.{Event}
use Rattle.spp_maxplus.specs.declared.state.Burdens.{Burdens}
use Rattle.spp_dag.specs.Laws.{run_on}
use Rattle.spp_dag.specs.declared.stack.OpenFrame.{OpenFrame}
use Rattle.spp_dag.specs.Stack.{advance, run}

-- a run over two lists is a run over the one and then over the other
pub run-append : (burdens : Burdens) (i : ℕ) (xs ys : List Event) (fs : List OpenFrame) → run burdens i (xs ++ ys) fs ≡ run_on burdens (i + length xs) ys (run burdens i xs fs)
run-append burdens i [] ys fs = ap (λ k. run burdens k ys fs) (let z : i ≡ i + 0 = omega arith in z)
run-append burdens i (x ∷ xs) ys fs = by (advance burdens i x fs) (run-append burdens (suc i) xs ys)
  where
    by : (o : Option (List OpenFrame)) → ((gs : List OpenFrame) → run burdens (suc i) (xs ++ ys) gs ≡ run_on burdens (suc i + length xs) ys (run burdens (suc i) xs gs))
        → elim o [ None ↦ None | Some gs ↦ run burdens (suc i) (xs ++ ys) gs ] ≡ run_on burdens (i + suc (length xs)) ys (elim o [ None ↦ None | Some gs ↦ run burdens (suc i) xs gs ])
    by None h = refl
    by (Some gs) h = h gs ∙ ap (λ k. run_on burdens k ys (run burdens (suc i) xs gs)) (let z : suc i + length xs ≡ i + suc (length xs) = omega arith in z)
