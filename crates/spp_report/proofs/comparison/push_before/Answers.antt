use Rattle.std.proofs.Common.{◌≡◌, ◌++◌, List, Some, String, Global, map, ap}
use Rattle.std.specs.String.{string_bytes}
use Rattle.spp_report.specs.declared.run.Cells.{Cells}
use Rattle.spp_report.specs.Comparison.{ToldRow, cells_under, row_before}
use Rattle.spp_report.specs.Runs.{told, told_row}
use Rattle.spp_report.proofs.Comparisons.{found_under, named_cells, row_more}
use Rattle.spp_report.proofs.comparison.push_before.Goals as goal

pub loop-name-preserved : goal.loop-name-preserved
loop-name-preserved g c =
    let after = told c.args.after.now in
    let name = string_bytes c.in-Some.name.now in
    let rows : List (String Global × Cells) → List ToldRow = λ es. map (row_before after) (map named_cells es) in
    let entries = c.args.after.now.sites.entries in
    let found : c.copied.result ≡ cells_under name after =
    found_under name c.as_str-in-loop-name.result.now entries c.copied.result c.as_str-in-loop-name.ensures.value (rw c.get.ensures.value at c.copied.ensures) in
    row_more c.loop-name.rows.items c.push.new.self.items _ (row_before after (name, c.in-Some.cells.now)) (rows c.loop-name.name-iterator) (rows c.next.new.self)
    (map told_row c.args.rows.now.items ++ rows c.args.before.now.sites.entries)
    c.loop-name.invariant (ap rows c.in-Some.ensures.steps) c.in_ok-push.ensures.items
    (λ j. record { name = c.as_str.ensures.value j; before = Some c.in-Some.cells.now; after = found j })
