use Rattle.std.proofs.Common.{◌≡◌, ◌≤◌, ◌+◌, ◌^◌, ◌++◌, ℕ, List, length, take}
use Rattle.spp_shell.specs.Streams.{HasRead}
use Rattle.spp_shell.proofs.block_read.read_block.Given as goal

abbrev pub invariant-loop-turn : goal.invariant-loop-turn
invariant-loop-turn g l = record {
  read : (s : g.row.S.Denot) (xs : List ℕ) → length xs ≡ l.before → HasRead g.S.Source.answered g.S.Source.failed g.S.Source.failures l.fn.came.reads s (xs ++ take l.fn.came.filled l.fn.came.bytes.items) l.fn.source
      → HasRead g.S.Source.answered g.S.Source.failed g.S.Source.failures l.turn s (xs ++ take l.filled l.bytes.items) l.source;
  held : l.filled ≤ length l.bytes.items;
  within : l.before + l.filled ≤ 2 ^ 33;
  grown : l.fn.came.filled ≤ l.filled;
  kept : take l.fn.came.filled l.bytes.items ≡ take l.fn.came.filled l.fn.came.bytes.items;
}
