use Rattle.std.proofs.Common.{◌≡◌, ◌+◌, ◌++◌, ◌^◌, ◌≤◌, List, ℕ, length, take}
use Rattle.spp_text.specs.TextDrafts.{AreWholeLines}
use Rattle.spp_shell.specs.Streams.{HasRead}
use Rattle.spp_shell.specs.TextSoFar.{IsTextSoFar}
use Rattle.spp_shell.proofs.encode_task.encode_input.Given as goal

abbrev pub invariant-loop : goal.invariant-loop
invariant-loop g l = record {
  come : (front : List ℕ) × IsTextSoFar l.so_far front × AreWholeLines front × (length front ≡ l.before)
      × HasRead g.S.Source.answered g.S.Source.failed g.S.Source.failures l.counter l.fn.source (front ++ take l.filled l.bytes.items) l.source;
  held : l.filled ≤ length l.bytes.items;
  within : l.before + l.filled ≤ 2 ^ 33;
}
