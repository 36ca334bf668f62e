use Rattle.std.proofs.Common.{lit≤, refl}
use Rattle.std.specs.Prelude.{codes, length}
use Rattle.std.specs.Io.KnownBytes.{Appends}
use Rattle.std.specs.List.{flat_map, range_with_len}
use Rattle.csv.specs.Writing.{text_written}
use Rattle.spp_report.specs.Csv.{columns, record_text, named_record, site_record}
use Rattle.spp_report.proofs.CsvTexts.{plain_fields_by_test, wrote_parts}
use Rattle.spp_report.proofs.csv_table.write_tables.Goals as goal

pub write_columns-requires-clause-plain : goal.write_columns-requires-clause-plain
write_columns-requires-clause-plain g c = record { several = lit≤ tt; plain = plain_fields_by_test columns refl }

pub returns : goal.returns
returns g c =
    let trace = c.args.named.now.trace.now in
    let profile = c.args.named.now.profile.now in
    let written = text_written g.W.Write.contents in
    let root : Appends (written c.write_columns.new.writer) (written c.write_rows.new.writer) (named_record (codes "(root)") c.root_row-dag.result c.root_row-path.result c.root_row-burdened_path.result) =
    c.in_ok-write_rows.ensures.text in
    wrote_parts c.write_sites.result (written c.args.writer.now) (written c.write_columns.new.writer) (written c.write_rows.new.writer) (written c.write_sites.new.writer)
    (record_text columns) (named_record (codes "(root)") profile.dag.root profile.path.root profile.burdened_path.root) (flat_map (site_record trace profile) (range_with_len 0 (length trace.sites)))
    c.in_ok-write_columns.ensures.text (rw (c.root_row-dag.ensures.value, c.root_row-path.ensures.value, c.root_row-burdened_path.ensures.value) at root) c.write_sites.ensures
