use Rattle.std.proofs.Common.{◌≡◌, Some, ap, sym, ◌∙◌}
use Rattle.spp_ways.specs.LogRows.{merged_sums}
use Rattle.spp_ways.specs.declared.log.LogRow.{LogRow}
use Rattle.spp_ways.specs.declared.log.Counts.{Counts}
use Rattle.spp_ways.proofs.log.LogRow.merged.Goals as goal

pub returns-in-Merged : goal.returns-in-Merged
returns-in-Merged c =
    let is : c.args.self.now.merged ≡ Some c.in-Merged.merged = ap (λ (r : LogRow). r.merged) (sym c.self.view_is) ∙ ap (λ (k : Counts). merged_sums k) c.in-Merged.is in
    (c.in-Merged.merged, is, sym c.deref.ensures)
