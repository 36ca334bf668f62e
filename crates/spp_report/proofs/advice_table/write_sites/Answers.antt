use Rattle.std.proofs.Common.{◌≡◌, ◌<◌, ◌++◌, List, ℕ, length, map, arith, refl, sym, subst}
use Rattle.std.specs.Prelude.{codes, decimal}
use Rattle.spp_dag.specs.declared.figures.Figures.{Figures}
use Rattle.spp_maxplus.specs.declared.state.Burdens.{Burdens}
use Rattle.spp_report.specs.declared.advised.ListedSite.{ListedSite}
use Rattle.spp_report.specs.AdviceCsv.{listed_numbers, listed_record, run_cells}
use Rattle.spp_report.specs.CsvWriters.{IsPlain, IsPlainRecord}
use Rattle.spp_report.proofs.AdviceRecords.{plain_record}
use Rattle.spp_report.proofs.CsvTexts.{one_item_more, plain_by_test, plain_decimals}
use Rattle.spp_report.proofs.advice_table.write_sites.Goals as goal

-- the fields of a site's record
site_fields : (f : Figures) (burdens : Burdens) (site : ListedSite) (ns : List ℕ) (some all : List (List ℕ)) → all ≡ some ++ map decimal ns
    → some ≡ run_cells site.name.now (codes "as recorded") f → ns ≡ listed_numbers burdens site
    → all ≡ run_cells site.name.now (codes "as recorded") f ++ map decimal (listed_numbers burdens site)
site_fields f burdens site ns some all e g h = rw (e, g, h) refl

pub write_record-requires-clause-plain : goal.write_record-requires-clause-plain
write_record-requires-clause-plain g c =
    let a = c.args.advice.now in
    let i = c.loop-site.site-index in
    let site = c.site-item.result in
    let here : i < length a.sites.now = omega arith in
    let plain : IsPlain site.name.now = subst (λ (s : ListedSite). IsPlain s.name.now) (sym c.site-item.is) (c.requires.names.0 i site here) in
    let numbers = listed_numbers a.burdens site in
    subst IsPlainRecord
    (sym (site_fields a.figures a.burdens site _ _ _ c.in_ok-push_numbers.ensures.fields c.in_ok-begin_record.ensures.fields c.site_numbers.ensures))
    (plain_record site.name.now (codes "as recorded") a.figures (map decimal numbers) plain (plain_by_test (codes "as recorded") refl) (plain_decimals numbers))

pub loop-site-preserved : goal.loop-site-preserved
loop-site-preserved g c =
    let a = c.args.advice.now in
    let i = c.loop-site.site-index in
    let site = c.site-item.result in
    let here : i < length a.sites.now = omega arith in
    record {
      text = one_item_more (listed_record a.figures a.burdens) a.sites.now i site _ _ _ here c.site-item.is c.loop-site.invariant.text
          (rw (site_fields a.figures a.burdens site _ _ _ c.in_ok-push_numbers.ensures.fields c.in_ok-begin_record.ensures.fields c.site_numbers.ensures) at c.in_ok-write_record.ensures.text);
      next = c.in_ok-write_record.ensures.next;
    }
