use Rattle.std.proofs.Common.{◌≡◌, ◌+◌, ◌*◌, ◌≤◌, ◌++◌, List, length}
use Rattle.spp_event.specs.Recordings.{Record, records_of}
use Rattle.spp_frame.specs.Pieces.{Far}
use Rattle.spp_frame.proofs.record_check.walk.Given as goal

abbrev pub invariant-loop-k : goal.invariant-loop-k
invariant-loop-k g l = record {
  far : (rs : List Record) → length rs ≡ l.at → Far rs (length rs) l.fn.before.depth l.fn.before.work
      → Far (rs ++ records_of g.B.BytesReader.version l.sites l.funcs l.count l.bytes) (l.at + l.k) l.frames.depth l.frames.work;
  deep : l.frames.depth ≤ l.at + l.k;
  small : l.frames.work ≤ 18446744073709551616 * (l.at + l.k);
  next : g.B.BytesReader.stands l.reader l.bytes l.k;
}
