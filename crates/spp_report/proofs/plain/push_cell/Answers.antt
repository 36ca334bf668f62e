use Rattle.std.specs.Prelude.{codes}
use Rattle.spp_report.proofs.PlainTexts.{put_last, cell_parts}
use Rattle.spp_report.proofs.plain.push_cell.Goals as goal

pub returns : goal.returns
returns c =
    put_last c.extend_from_slice-3.result c.extend_from_slice-2.new.self.items _ (codes " ") _ c.extend_from_slice-3.ensures.items
    (cell_parts _ c.min.result _ _ _ c.min.ensures c.in_ok-extend_from_slice.ensures.items (rw c.as_bytes.ensures.value at c.in_ok-extend_from_slice-2.ensures.items))
