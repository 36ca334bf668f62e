use Rattle.std.proofs.Common.{◌+◌, ℕ}
use Rattle.spp_event.specs.Recordings.{Recording}
use Rattle.spp_part.specs.Parts.{IsSoFar}
use Rattle.spp_part.proofs.RecordParts.{Has}
use Rattle.spp_part.proofs.so_far.ProfileSoFar.read_bytes_by.Given as goal

abbrev pub invariant-loop-k : goal.invariant-loop-k
invariant-loop-k g l = record {
  so_far : (trace : Recording) (i : ℕ) → IsSoFar trace l.burdens i l.fn.self → Has g.B.BytesReader.version l.sites l.funcs l.count l.bytes trace i → IsSoFar trace l.burdens (i + l.k) l.self;
  next : g.B.BytesReader.stands l.reader l.bytes l.k;
}
