use Rattle.std.proofs.Common.{◌≡◌, ◌++◌, length}
use Rattle.std.specs.Prelude.{codes}
use Rattle.std.specs.List.{flat_map, range_with_len}
use Rattle.spp_report.specs.Csv.{cells, dag_columns}
use Rattle.spp_report.specs.Plain.{row_line, site_line}
use Rattle.spp_report.proofs.PlainTexts.{put_more, table_parts}
use Rattle.spp_report.proofs.plain.push_table.Goals as goal

pub returns : goal.returns
returns c =
    let trace = c.args.trace.now in
    let table = c.args.table.now in
    let title : c.as_bytes.result.now ≡ c.args.title.now = c.as_bytes.ensures.value in
    let heads : c.as_bytes-2.result.now ≡ row_line dag_columns (codes "name") = c.as_bytes-2.ensures.value in
    let one : c.extend_from_slice.new.self.items ≡ c.args.text.now.items ++ codes "\n" = c.in_ok-extend_from_slice.ensures.items in
    let two : c.extend_from_slice-2.new.self.items ≡ c.extend_from_slice.new.self.items ++ c.as_bytes.result.now = c.in_ok-extend_from_slice-2.ensures.items in
    let three : c.extend_from_slice-3.new.self.items ≡ c.extend_from_slice-2.new.self.items ++ codes "\n" = c.in_ok-extend_from_slice-3.ensures.items in
    let four : c.extend_from_slice-4.new.self.items ≡ c.extend_from_slice-3.new.self.items ++ c.as_bytes-2.result.now = c.in_ok-extend_from_slice-4.ensures.items in
    let root : c.push_row.new.text.items ≡ c.extend_from_slice-4.new.self.items ++ row_line (cells c.root_row.result) (codes "(root)") = c.in_ok-push_row.ensures in
    put_more c.push_sites.result c.push_row.new.text.items _ (flat_map (site_line trace table) (range_with_len 0 (length trace.sites))) _ c.push_sites.ensures
    (table_parts c.args.text.now.items c.args.title.now (row_line dag_columns (codes "name")) (row_line (cells table.root) (codes "(root)"))
    (flat_map (site_line trace table) (range_with_len 0 (length trace.sites))) _ _ _ _ _
    one (rw title at two) three (rw heads at four) (rw c.root_row.ensures.value at root))
