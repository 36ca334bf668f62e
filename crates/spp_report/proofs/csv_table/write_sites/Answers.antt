use Rattle.spp_report.specs.Csv.{site_record}
use Rattle.spp_report.proofs.CsvTexts.{one_more}
use Rattle.spp_report.proofs.csv_table.write_sites.Goals as goal

pub loop-site-preserved : goal.loop-site-preserved
loop-site-preserved g c = record {
  text = one_more (site_record c.args.named.now.trace.now c.args.named.now.profile.now) c.loop-site.site _ _ _ _ c.loop-site.invariant.text c.in_ok-write_rows.ensures.text (simp (c.site_name-name.ensures, c.row-dag.ensures, c.row-path.ensures, c.row-burdened_path.ensures));
  next = c.in_ok-write_rows.ensures.next;
}
