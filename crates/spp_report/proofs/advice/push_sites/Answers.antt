use Rattle.std.proofs.Common.{◌<◌, length, arith, ap}
use Rattle.std.specs.Prelude.{codes}
use Rattle.std.specs.List.{flat_map}
use Rattle.std.proofs.lemmas.List.{take_all}
use Rattle.spp_report.specs.Plain.{row_line}
use Rattle.spp_report.specs.Advice.{site_columns, listed_line}
use Rattle.spp_report.proofs.Advices.{item_more, titled_lines}
use Rattle.spp_report.proofs.advice.push_sites.Goals as goal

pub loop-site-preserved : goal.loop-site-preserved
loop-site-preserved c =
    let here : c.loop-site.site-index < length c.args.sites.now = omega arith in
    item_more (listed_line c.args.figures.now c.args.burdens) c.args.sites.now c.loop-site.site-index c.site-item.result _ _ _ here c.site-item.is c.loop-site.invariant
    (rw c.cells-cells.ensures at c.in_ok-push_line.ensures)

pub returns : goal.returns
returns c =
    titled_lines c.args.text.now.items (codes "call sites by what they add to the paths") (row_line site_columns (codes "name")) _ _ _ c.loop-site.invariant
    (ap (flat_map (listed_line c.args.figures.now c.args.burdens)) (take_all c.loop-site.site-index c.args.sites.now c.loop-site-test.false))
