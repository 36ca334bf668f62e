use Rattle.std.proofs.Common.{◌≡◌, ◌++◌, map}
use Rattle.std.specs.Prelude.{codes}
use Rattle.spp_report.specs.Comparison.{both_figures, compare_columns, compared}
use Rattle.spp_report.specs.Plain.{row_line}
use Rattle.spp_report.specs.Runs.{told, told_row}
use Rattle.spp_report.proofs.Comparisons.{whole_text}
use Rattle.spp_report.proofs.comparison.compare_text.Goals as goal

pub returns : goal.returns
returns g c =
    let before = told c.args.before.now in
    let after = told c.args.after.now in
    let heads : c.as_bytes.result.now ≡ row_line compare_columns (codes "name") = c.as_bytes.ensures.value in
    let columns : c.extend_from_slice-2.new.self.items ≡ c.extend_from_slice.new.self.items ++ c.as_bytes.result.now = c.in_ok-extend_from_slice-2.ensures.items in
    let rows : map told_row c.as_slice.result.now ≡ compared before after = rw c.as_slice.ensures.value c.in_ok-rows.ensures in
    whole_text (both_figures before.figures after.figures) (row_line compare_columns (codes "name"))
    c.in_ok-text.text.items c.extend_from_slice.new.self.items c.extend_from_slice-2.new.self.items c.push_rows.new.text.items
    (map told_row c.as_slice.result.now) (compared before after)
    c.in_ok-text.ensures c.in_ok-extend_from_slice.ensures.items (rw heads at columns) rows c.in_ok-push_rows.ensures
