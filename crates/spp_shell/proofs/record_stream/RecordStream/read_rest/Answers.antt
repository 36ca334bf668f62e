use Rattle.std.proofs.Common.{◌∙◌}
use Rattle.spp_shell.proofs.Inputs.{err_again}
use Rattle.spp_shell.proofs.record_stream.RecordStream.read_rest.Goals as goal

pub go_on-requires-clause-seen : goal.go_on-requires-clause-seen
go_on-requires-clause-seen g c κs within =
    let r = c.requires.seen in
    let q = c.loop-ended.invariant.streamed r.0 r.1 r.2 r.3 in
    (r.0, r.1, q.0, q.1)

pub returns-in_err-went-clause-refused : goal.returns-in_err-went-clause-refused
returns-in_err-went-clause-refused g c = λ s first header xs h p.
    let q = c.loop-ended.invariant.read s first header xs h p in
    err_again _ c.in_err-went.field-0.0 _ c.from_residual.ensures.1 (c.in_err-went.ensures.refused s first header q.0 (q.1.0 c.loop-ended-test.true) q.2)

pub loop-ended-preserved : goal.loop-ended-preserved
loop-ended-preserved g c =
    let e = c.in_ok-went.ensures in
    record {
      read = λ s first header xs h p.
          let q = c.loop-ended.invariant.read s first header xs h p in
          e.read s first header q.0 (q.1.0 c.loop-ended-test.true) q.2;
      streamed = λ first header xs p. (let q = c.loop-ended.invariant.streamed first header xs p in e.streamed first header q.0 q.1);
      head = e.head ∙ c.loop-ended.invariant.head;
      opens = e.opens;
    }

pub returns-clause-read : goal.returns-clause-read
returns-clause-read g c = λ s first header xs h p.
    let q = c.loop-ended.invariant.read s first header xs h p in
    (q.0, q.1.1 c.loop-ended-test.false, q.2)
