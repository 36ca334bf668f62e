use Rattle.std.proofs.Common.{◌≡◌, ◌++◌, take}
use Rattle.std.specs.Prelude.{codes}
use Rattle.std.specs.List.{flat_map}
use Rattle.spp_report.specs.Advice.{site_columns, listed_line}
use Rattle.spp_report.specs.Plain.{row_line}
use Rattle.spp_report.proofs.Advices.{heads}
use Rattle.spp_report.proofs.advice.push_sites.Given as goal

abbrev pub invariant-loop-site : goal.invariant-loop-site
invariant-loop-site l =
    l.text.items
    ≡ (l.fn.text.items ++ heads (codes "call sites by what they add to the paths") (row_line site_columns (codes "name")))
    ++ flat_map (listed_line l.figures l.burdens) (take l.site-index l.sites)
