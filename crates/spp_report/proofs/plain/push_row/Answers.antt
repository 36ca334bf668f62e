use Rattle.std.proofs.Common.{◌≡◌, ◌<◌, length, arith, ap}
use Rattle.std.specs.Prelude.{codes}
use Rattle.spp_report.specs.Csv.{numbers}
use Rattle.spp_report.proofs.PlainTexts.{put_last, cell_more, row_parts}
use Rattle.spp_report.proofs.plain.push_row.Goals as goal

pub loop-number-preserved : goal.loop-number-preserved
loop-number-preserved c =
    let eight : length c.numbers.result ≡ 8 = ap length c.numbers.ensures in
    let here : c.loop-number.number-index < length c.numbers.result = omega arith in
    cell_more c.numbers.result c.loop-number.number-index _ _ _ _ here c.loop-number.invariant c.format.ensures.text c.in_ok-push_cell.ensures

pub returns : goal.returns
returns c =
    put_last c.extend_from_slice-2.result c.extend_from_slice.new.self.items _ (codes "\n") _ c.extend_from_slice-2.ensures.items
    (row_parts c.numbers.result (numbers c.args.row.now) c.loop-number.number-index _ _ _ _ c.numbers.ensures c.loop-number-test.false c.loop-number.invariant
    (rw c.as_bytes.ensures.value at c.in_ok-extend_from_slice.ensures.items))
