use Rattle.std.proofs.Common.{List, ◌++◌, take}
use Rattle.spp_dag.specs.declared.choices.Choices.{Choices}
use Rattle.spp_jobs.specs.Tables.{AreSame}
use Rattle.spp_jobs.proofs.tabled.push_copies.Given as goal

-- so far the copies are behind what was there
abbrev pub invariant-loop-of_part : goal.invariant-loop-of_part
invariant-loop-of_part l = (cs : List Choices) → AreSame cs l.fn.all.items → AreSame (cs ++ take l.of_part-index l.choices) l.all.items
