use Rattle.std.specs.List.{flat_map, range_with_len}
use Rattle.std.specs.Io.KnownBytes.{Appends}
use Rattle.csv.specs.Writing.{text_written}
use Rattle.spp_report.specs.Csv.{site_record}
use Rattle.spp_report.specs.CsvWriters.{AwaitsRecord}
use Rattle.spp_report.proofs.csv_table.write_sites.Given as goal

abbrev pub invariant-loop-site : goal.invariant-loop-site
invariant-loop-site g l = record {
  text : Appends (text_written g.W.Write.contents l.fn.writer) (text_written g.W.Write.contents l.writer) (flat_map (site_record l.trace l.profile) (range_with_len 0 l.site));
  next : AwaitsRecord l.writer;
}
