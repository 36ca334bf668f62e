use Rattle.std.proofs.Common.{◌≡◌, arith}
use Rattle.std.specs.Prelude.{codes}
use Rattle.spp_report.specs.Runs.{told_row}
use Rattle.spp_report.proofs.Comparisons.{column_more, row_shown}
use Rattle.spp_report.proofs.PlainTexts.{put_last}
use Rattle.spp_report.proofs.comparison.push_row.Goals as goal

pub loop-column-preserved : goal.loop-column-preserved
loop-column-preserved c =
    column_more c.numbers-before.result c.numbers-after.result c.loop-column.column _ _ _ _ c.loop-column.invariant c.in_ok-push_number.ensures c.in_ok-push_number-2.ensures

pub returns : goal.returns
returns c =
    let four : c.loop-column.column ≡ 4 = omega arith in
    put_last c.extend_from_slice-2.result c.extend_from_slice.new.self.items _ (codes "\n") _ c.extend_from_slice-2.ensures.items
    (row_shown (told_row c.args.row.now) c.numbers-before.result c.numbers-after.result c.loop-column.column _ _ _ c.numbers-before.ensures c.numbers-after.ensures four
    c.loop-column.invariant (rw c.as_bytes.ensures.value at c.in_ok-extend_from_slice.ensures.items))
