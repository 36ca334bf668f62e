use Rattle.std.proofs.Common.{◌++◌, refl, lit≤}
use Rattle.std.specs.List.{flat_map}
use Rattle.csv.specs.Writing.{text_written}
use Rattle.spp_report.specs.AdviceCsv.{changed_record, listed_columns, listed_record, run_columns}
use Rattle.spp_report.specs.Csv.{record_text}
use Rattle.spp_report.proofs.CsvTexts.{plain_fields_by_test, wrote_parts}
use Rattle.spp_report.proofs.advice_table.write_advice.Goals as goal

pub write_columns-requires-clause-plain : goal.write_columns-requires-clause-plain
write_columns-requires-clause-plain g c = record { several = lit≤ tt; plain = plain_fields_by_test (run_columns ++ listed_columns) refl }

pub returns : goal.returns
returns g c =
    let a = c.args.advice.now in
    let written = text_written g.W.Write.contents in
    wrote_parts c.write_runs.result (written c.args.writer.now) (written c.write_columns.new.writer) (written c.write_sites.new.writer) (written c.write_runs.new.writer)
    (record_text (run_columns ++ listed_columns)) (flat_map (listed_record a.figures a.burdens) a.sites.now) (flat_map changed_record a.runs.now)
    c.in_ok-write_columns.ensures.text c.in_ok-write_sites.ensures.text c.write_runs.ensures
