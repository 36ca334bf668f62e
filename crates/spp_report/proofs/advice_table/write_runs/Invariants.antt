use Rattle.std.proofs.Common.{take}
use Rattle.std.specs.List.{flat_map}
use Rattle.std.specs.Io.KnownBytes.{Appends}
use Rattle.csv.specs.Writing.{text_written}
use Rattle.spp_report.specs.AdviceCsv.{changed_record}
use Rattle.spp_report.specs.CsvWriters.{AwaitsRecord}
use Rattle.spp_report.proofs.advice_table.write_runs.Given as goal

abbrev pub invariant-loop-run : goal.invariant-loop-run
invariant-loop-run g l = record {
  text : Appends (text_written g.W.Write.contents l.fn.writer) (text_written g.W.Write.contents l.writer) (flat_map changed_record (take l.run-index l.advice.runs.now));
  next : AwaitsRecord l.writer;
}
