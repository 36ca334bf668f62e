use Rattle.std.proofs.Common.{◌≡◌, ◌++◌, take}
use Rattle.std.specs.Prelude.{codes}
use Rattle.std.specs.List.{flat_map}
use Rattle.spp_report.specs.Advice.{bound_columns, bound_line, processors}
use Rattle.spp_report.specs.Plain.{row_line}
use Rattle.spp_report.proofs.Advices.{heads}
use Rattle.spp_report.proofs.bounds.push_bounds.Given as goal

abbrev pub invariant-loop-k : goal.invariant-loop-k
invariant-loop-k l =
    l.text.items
    ≡ (l.fn.text.items ++ heads (codes "speed-up on so many processors") (row_line bound_columns (codes "processors")))
    ++ flat_map (bound_line l.figures) (take l.k processors)
