use Rattle.std.proofs.Common.{◌≡◌, ◌+◌, ◌∷◌, ◌++◌, [], take, refl, sym, ◌∙◌, ap}
use Rattle.std.specs.Option.{option_map}
use Rattle.std.proofs.lemmas.List.{take_more}
use Rattle.spp_report.proofs.Advices.{best_kept, best_taken}
use Rattle.spp_report.proofs.advice.best.Goals as goal
use Rattle.spp_report.proofs.advice.best.Goals.{then-run-least, else-run-least}

pub loop-run-preserved : goal.loop-run-preserved
loop-run-preserved c =
    let f = c.args.figures.now in
    let i = c.loop-run.run-index in
    let runs = c.args.runs.now in
    let run = c.run-item.result in
    let best = option_map (λ r. r.now) c.loop-run.best in
    let more : take (i + 1) runs ≡ take i runs ++ run ∷ [] =
    take_more runs i run c.loop-run-test.true ∙ ap (λ y. take i runs ++ y ∷ []) (sym c.run-item.is) in
    elim c.if-run-least.branch [
      | then-run-least w ↦
          rw (more, w.best-is, w.least-is) (best_taken f (take i runs) best run c.loop-run.invariant.0 (rw c.loop-run.invariant.1 at w.if-run-least.true), refl)
      | else-run-least w ↦
          rw (more, w.best-is, w.least-is) (best_kept f (take i runs) best run c.loop-run.invariant.0 (rw c.loop-run.invariant.1 at w.if-run-least.false), c.loop-run.invariant.1)
    ]
