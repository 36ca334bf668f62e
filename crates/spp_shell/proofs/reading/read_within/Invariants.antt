use Rattle.std.proofs.Common.{◌≡◌, ◌≤◌, length, take}
use Rattle.spp_shell.proofs.Readings.{SoFar}
use Rattle.spp_shell.proofs.reading.read_within.Given as goal

abbrev pub invariant-loop : goal.invariant-loop
invariant-loop g l = record {
  reads : SoFar g.S.Source.answered l.counter l.fn.source (take l.filled l.bytes.items) l.source;
  within : l.filled ≤ l.most;
  room : l.filled ≤ length l.bytes.items;
  same : g.S.Source.failures l.source ≡ g.S.Source.failures l.fn.source;
}
