use Rattle.std.proofs.Common.{◌≡◌, take}
use Rattle.std.specs.Option.{option_map}
use Rattle.spp_report.specs.Advice.{IsHeaviest}
use Rattle.spp_report.proofs.Advices.{next_of}
use Rattle.spp_report.proofs.advice.heaviest.Given as goal

abbrev pub invariant-loop-site : goal.invariant-loop-site
invariant-loop-site l =
    IsHeaviest l.burdens (take l.site-index l.sites) (option_map (λ s. s.now) l.heaviest) × (l.least ≡ next_of l.burdens (option_map (λ s. s.now) l.heaviest))
