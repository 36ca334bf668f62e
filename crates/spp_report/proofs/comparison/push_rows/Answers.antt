use Rattle.std.proofs.Common.{◌<◌, length, arith}
use Rattle.spp_report.proofs.Comparisons.{rows_more}
use Rattle.spp_report.proofs.comparison.push_rows.Goals as goal

pub loop-row-preserved : goal.loop-row-preserved
loop-row-preserved c =
    let here : c.loop-row.row-index < length c.args.rows.now = omega arith in
    rows_more c.args.rows.now c.loop-row.row-index _ c.args.text.now.items c.loop-row.text.items c.push_row.new.text.items here c.loop-row.invariant c.in_ok-push_row.ensures
