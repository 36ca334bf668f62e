use Rattle.std.proofs.Common.{[], sym, ◌∙◌, ap}
use Rattle.std.proofs.lemmas.List.{append-nil}
use Rattle.spp_report.specs.Csv.{cells}
use Rattle.spp_report.specs.Plain.{row_line, site_line}
use Rattle.spp_report.proofs.PlainTexts.{line_more, site_shown, site_hidden}
use Rattle.spp_report.proofs.plain.push_sites.Goals as goal
use Rattle.spp_report.proofs.plain.push_sites.Goals.{then-row-gt0+in_ok-push_row, else-row-gt0}

pub loop-site-preserved : goal.loop-site-preserved
loop-site-preserved c =
    let trace = c.args.trace.now in
    let table = c.args.table.now in
    let site = c.loop-site.site in
    elim c.if-row-gt0.branch [
      | then-row-gt0+in_ok-push_row w ↦
          line_more (site_line trace table) site _ _ _ (row_line (cells c.row-row.result) w.site_name.result.now) c.loop-site.invariant
          (rw (w.site_name.ensures, c.row-row.ensures) (site_shown trace table site (rw c.row-row.ensures at w.if-row-gt0.true)))
          (ap (λ v. v.items) w.text-is ∙ w.in_ok-push_row.ensures)
      | else-row-gt0 w ↦
          line_more (site_line trace table) site _ _ _ [] c.loop-site.invariant
          (site_hidden trace table site (rw c.row-row.ensures at w.if-row-gt0.false))
          (ap (λ v. v.items) w.text-is ∙ sym (append-nil _))
    ]
