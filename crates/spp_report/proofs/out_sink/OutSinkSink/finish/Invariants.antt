use Rattle.std.proofs.Common.{◌≡◌, []}
use Rattle.std.specs.Io.KnownBytes.{Appends}
use Rattle.spp_report.proofs.out_sink.OutSinkSink.finish.Given as goal

abbrev pub invariant-loop : goal.invariant-loop
invariant-loop g l = record {
  nothing : Appends (g.W.Write.contents l.fn.self.writer) (g.W.Write.contents l.self.writer) [];
  same : l.self.failures ≡ l.fn.self.failures;
}
