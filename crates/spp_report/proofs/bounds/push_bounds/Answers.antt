use Rattle.std.proofs.Common.{arith, ap}
use Rattle.std.specs.Prelude.{codes}
use Rattle.std.specs.List.{flat_map}
use Rattle.std.proofs.lemmas.List.{take_all}
use Rattle.spp_report.specs.Plain.{row_line}
use Rattle.spp_report.specs.Advice.{bound_columns, bound_line, processors}
use Rattle.spp_report.proofs.Advices.{each_more, titled_lines}
use Rattle.spp_report.proofs.bounds.push_bounds.Goals as goal

pub loop-k-preserved : goal.loop-k-preserved
loop-k-preserved c =
    each_more (bound_line c.args.figures.now) processors c.loop-k.k 0 _ _ _ (omega arith) c.loop-k.invariant c.in_ok-push_bound.ensures

pub returns : goal.returns
returns c =
    titled_lines c.args.text.now.items (codes "speed-up on so many processors") (row_line bound_columns (codes "processors")) _ _ _ c.loop-k.invariant
    (ap (flat_map (bound_line c.args.figures.now)) (take_all c.loop-k.k processors c.loop-k-test.false))
