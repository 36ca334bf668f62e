use Rattle.std.proofs.Common.{◌≡◌, ◌+◌, ◌<◌, ℕ, suc, sym, subst, ◌∙◌, arith}
use Rattle.spp_event.specs.Recordings.{Recording}
use Rattle.spp_frame.specs.Answers.{IsFaultOf}
use Rattle.spp_frame.specs.declared.profile_fault.ProfileFault.{ProfileFault}
use Rattle.spp_part.specs.Parts.{IsSoFar}
use Rattle.spp_part.proofs.RecordParts.{Has, part_within, part_record, part_event}
use Rattle.spp_part.proofs.Nexts.{handed_on}
use Rattle.spp_part.proofs.so_far.ProfileSoFar.read_bytes_by.Goals as goal

pub read-requires : goal.read-requires
read-requires g c =
    let version = g.B.BytesReader.version in
    let n : ℕ = c.args.count in
    let q = c.requires.so_far in (
      q.0,
      q.1 + c.loop-k.k,
      c.loop-k.invariant.so_far q.0 q.1 q.2 q.3,
      part_event version c.args.sites c.args.funcs n c.args.bytes.now q.0 q.1 q.3 c.loop-k.k (omega (arith, c.loop-k-test.true)) c.read_in.result
          c.read_in.ensures.said c.read_in.ensures.within c.in-Ok.event c.in-Ok.is,
      (let z = part_within version c.args.sites c.args.funcs n c.args.bytes.now q.0 q.1 q.3 in omega (arith, c.loop-k-test.true)),
    )

pub returns-in_err-read-in-Ok-clause-fault : goal.returns-in_err-read-in-Ok-clause-fault
returns-in_err-read-in-Ok-clause-fault g c =
    let version = g.B.BytesReader.version in
    let n : ℕ = c.args.count in
    let k : ℕ = c.loop-k.k in
    let lt : k < n = omega (arith, c.loop-k-test.true) in
    let Wrong : ProfileFault → Type 0 = λ f. (trace : Recording) (i : ℕ) → IsSoFar trace c.args.burdens i c.args.self.now → Has version c.args.sites c.args.funcs n c.args.bytes.now trace i → IsFaultOf trace.records f in
    let fails : Wrong c.in_err-read-in-Ok.field-0.0 = λ trace i so h.
    let at = part_event version c.args.sites c.args.funcs n c.args.bytes.now trace i h k lt c.read_in.result
    c.read_in.ensures.said c.read_in.ensures.within c.in-Ok.event c.in-Ok.is in
    c.in_err-read-in-Ok.ensures.fault trace (i + k) (c.loop-k.invariant.so_far trace i so h) at
    (let z = part_within version c.args.sites c.args.funcs n c.args.bytes.now trace i h in omega arith) in
    handed_on Wrong c.in_err-read-in-Ok.field-0.0 c.from_residual.result c.from_residual.ensures.1 fails

pub returns-in-Err-clause-fault : goal.returns-in-Err-clause-fault
returns-in-Err-clause-fault g c trace i so h =
    let version = g.B.BytesReader.version in
    let n : ℕ = c.args.count in
    let lt : c.loop-k.k < n = omega (arith, c.loop-k-test.true) in
    c.cut_off.ensures trace c.args.burdens (i + c.loop-k.k) (c.loop-k.invariant.so_far trace i so h)
    (let z = part_within version c.args.sites c.args.funcs n c.args.bytes.now trace i h in omega arith)
    (part_record version c.args.sites c.args.funcs n c.args.bytes.now trace i h c.loop-k.k lt ∙ sym c.read_in.ensures.said ∙ c.in-Err.is)

pub loop-k-preserved : goal.loop-k-preserved
loop-k-preserved g c =
    let version = g.B.BytesReader.version in
    let n : ℕ = c.args.count in
    let k : ℕ = c.loop-k.k in
    let lt : k < n = omega (arith, c.loop-k-test.true) in
    record {
      so_far = λ trace i so h.
          let at = part_event version c.args.sites c.args.funcs n c.args.bytes.now trace i h k lt c.read_in.result
          c.read_in.ensures.said c.read_in.ensures.within c.in-Ok.event c.in-Ok.is in
          let then = c.in_ok-read-in-Ok.ensures.so_far trace (i + k) (c.loop-k.invariant.so_far trace i so h) at
          (let z = part_within version c.args.sites c.args.funcs n c.args.bytes.now trace i h in omega arith) in
          subst (λ m. IsSoFar trace c.args.burdens m c.read.new.self) (let z : suc (i + k) ≡ i + (k + 1) = omega arith in z) then;
      next = c.read_in.ensures.next;
    }

pub returns-clause-so_far : goal.returns-clause-so_far
returns-clause-so_far g c trace i so h =
    let version = g.B.BytesReader.version in
    let n : ℕ = c.args.count in
    let end : c.loop-k.k ≡ n = omega (arith, c.loop-k-test.false, c.loop-k.auto.k-end) in
    subst (λ k. IsSoFar trace c.args.burdens (i + k) c.loop-k.self) end (c.loop-k.invariant.so_far trace i so h)
