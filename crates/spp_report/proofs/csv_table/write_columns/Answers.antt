use Rattle.spp_report.proofs.CsvTexts.{wrote_record, same_record}
use Rattle.spp_report.proofs.csv_table.write_columns.Goals as goal

pub returns-clause-text : goal.returns-clause-text
returns-clause-text g c =
    wrote_record c.write_fields.result c.map_err.result c.args.writer.now _ _ _ _ c.map_err.ensures.variant c.requires.ready (same_record _ c.requires.plain) c.write_fields.ensures.bytes
