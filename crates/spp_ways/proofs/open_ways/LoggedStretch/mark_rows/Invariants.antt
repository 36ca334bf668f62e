use Rattle.spp_site.specs.Marks.{is_marked}
use Rattle.spp_ways.specs.Stretches.{stretch_rows}
use Rattle.spp_ways.specs.Pruning.{AreKeptBehind, AreAlso}
use Rattle.spp_ways.proofs.open_ways.LoggedStretch.mark_rows.Given as goal

-- what is left is before the row at k
abbrev pub invariant-loop-k : goal.invariant-loop-k
invariant-loop-k l = record {
  kept : AreKeptBehind (is_marked l.marks) (stretch_rows l.self) l.k;
  more : AreAlso (is_marked l.fn.marks) (is_marked l.marks);
}
