use Rattle.std.proofs.Common.{take}
use Rattle.std.specs.List.{flat_map}
use Rattle.std.specs.Io.KnownBytes.{Appends}
use Rattle.csv.specs.Writing.{text_written}
use Rattle.spp_report.specs.AdviceCsv.{listed_record}
use Rattle.spp_report.specs.CsvWriters.{AwaitsRecord}
use Rattle.spp_report.proofs.advice_table.write_sites.Given as goal

abbrev pub invariant-loop-site : goal.invariant-loop-site
invariant-loop-site g l = record {
  text : Appends (text_written g.W.Write.contents l.fn.writer) (text_written g.W.Write.contents l.writer) (flat_map (listed_record l.advice.figures l.advice.burdens) (take l.site-index l.advice.sites.now));
  next : AwaitsRecord l.writer;
}
