use Rattle.std.proofs.Common.{◌≡◌, ◌≤◌, ◌^◌, None, length, take}
use Rattle.spp_shell.specs.Streams.{HasRead}
use Rattle.spp_shell.proofs.reading_on.read_on.Given as goal

abbrev pub invariant-loop-turn : goal.invariant-loop-turn
invariant-loop-turn g l = record {
  read : (s : g.row.S.Denot) → HasRead g.S.Source.answered g.S.Source.failed g.S.Source.failures l.fn.came.reads s (take l.fn.came.filled l.fn.came.bytes.items) l.fn.source
      → HasRead g.S.Source.answered g.S.Source.failed g.S.Source.failures l.turn s (take l.filled l.bytes.items) l.source;
  room : l.filled ≤ length l.bytes.items;
  few : l.filled ≤ 2 ^ 33;
  none : l.fn.header ≡ None → l.header ≡ None;
}
