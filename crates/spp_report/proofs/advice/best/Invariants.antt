use Rattle.std.proofs.Common.{◌≡◌, take}
use Rattle.std.specs.Option.{option_map}
use Rattle.spp_report.specs.Advice.{IsBest}
use Rattle.spp_report.proofs.Advices.{least_of}
use Rattle.spp_report.proofs.advice.best.Given as goal

abbrev pub invariant-loop-run : goal.invariant-loop-run
invariant-loop-run l =
    IsBest l.figures (take l.run-index l.runs) (option_map (λ r. r.now) l.best) × (l.least ≡ least_of l.figures (option_map (λ r. r.now) l.best))
