use Rattle.std.proofs.Common.{◌≡◌, ◌⊎◌, ◌<◌, ◌+◌, ◌-◌, ◌^◌, ℕ, List, cond, take}
use Rattle.spp_event.specs.declared.version.Version.TheVariants.{Two}
use Rattle.spp_shell.specs.BlockReads.{IsReadTo}
use Rattle.spp_shell.specs.RecordStreams.{HasStreamed}
use Rattle.spp_shell.specs.Streams.{HasRead}
use Rattle.spp_shell.proofs.record_stream.RecordStream.read_rest.Given as goal

abbrev pub invariant-loop-ended : goal.invariant-loop-ended
invariant-loop-ended g l = record {
  read : (s : g.row.S.Denot) (first : g.row.V.Denot) (header xs : List ℕ) → HasRead g.S.Source.answered g.S.Source.failed g.S.Source.failures l.fn.self.reads s xs l.fn.source
      → HasStreamed g.V.Records.seen_by g.V.Records.has_seen first l.fn.self.records l.fn.self.head l.fn.self.events l.fn.self.before header (take l.fn.self.filled l.fn.self.bytes.items) xs
      → (all : List ℕ) × IsReadTo g.S.Source.answered g.S.Source.failed g.S.Source.failures l.stream.reads s all l.source l.ended
      × HasStreamed g.V.Records.seen_by g.V.Records.has_seen first l.stream.records l.stream.head l.stream.events l.stream.before header (take l.stream.filled l.stream.bytes.items) all;
  streamed : (first : g.row.V.Denot) (header xs : List ℕ) → HasStreamed g.V.Records.seen_by g.V.Records.has_seen first l.fn.self.records l.fn.self.head l.fn.self.events l.fn.self.before header (take l.fn.self.filled l.fn.self.bytes.items) xs
      → (all : List ℕ) × HasStreamed g.V.Records.seen_by g.V.Records.has_seen first l.stream.records l.stream.head l.stream.events l.stream.before header (take l.stream.filled l.stream.bytes.items) all;
  head : l.stream.head ≡ l.fn.self.head;
  opens : l.stream.head.version ≡ Two → (l.stream.before ≡ l.stream.head.len) ⊎ (0 < l.stream.filled);
}

-- each block but the last brings more bytes, of which there are at most 2^33
abbrev pub decreases-loop-ended : goal.decreases-loop-ended
decreases-loop-ended g l = cond l.ended 0 (1 + (2 ^ 33 - (l.stream.before + l.stream.filled)))
