use Rattle.std.proofs.Common.{◌≡◌, map}
use Rattle.std.specs.List.{range_with_len}
use Rattle.spp_report.specs.Comparison.{site_cells}
use Rattle.spp_report.proofs.Comparisons.{named_cells}
use Rattle.spp_report.proofs.run.Run.new.Given as goal

abbrev pub invariant-loop-site : goal.invariant-loop-site
invariant-loop-site g l = map named_cells l.sites.entries ≡ map (site_cells l.named.trace.now l.profile) (range_with_len 0 l.site)
