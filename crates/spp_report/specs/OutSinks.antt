-- What clauses name of a sink over a writer.
use Rattle.std.specs.Prelude.{ℕ}
use Rattle.spp_report.specs.declared.out_sink.OutSink.{OutSink}

abbrev pub writer_of : {W : Type 0} → OutSink W → W
writer_of s = s.writer

abbrev pub failures_of : {W : Type 0} → OutSink W → ℕ
failures_of s = s.failures
