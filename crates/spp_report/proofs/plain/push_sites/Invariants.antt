use Rattle.std.proofs.Common.{◌≡◌, ◌++◌}
use Rattle.std.specs.List.{flat_map, range_with_len}
use Rattle.spp_report.specs.Plain.{site_line}
use Rattle.spp_report.proofs.plain.push_sites.Given as goal

abbrev pub invariant-loop-site : goal.invariant-loop-site
invariant-loop-site l = l.text.items ≡ l.fn.text.items ++ flat_map (site_line l.trace l.table) (range_with_len 0 l.site)
