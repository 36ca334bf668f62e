use Rattle.std.proofs.Common.{◌≡◌, ◌+◌, ◌<◌, ℕ, List, get_or, drop, length, Ok, Err, sym, ap, ◌∙◌, arith, refl}
use Rattle.std.proofs.lemmas.List.{at_drop_all}
use Rattle.spp_event.specs.declared.records.EventFault.TheVariants.{Truncated}
use Rattle.spp_event.specs.Recordings.{Record, records_of}
use Rattle.spp_event.proofs.RecordPlaces.{length-records_of, record_at-records_of}
use Rattle.spp_piece.specs.Machine.{event, events}
use Rattle.spp_piece.specs.Summary.{failing, summary_ops}
use Rattle.spp_summary.specs.Reading.{so_far}
use Rattle.spp_piece.proofs.EventSteps.{event_fail}
use Rattle.spp_summary.proofs.Steps.{stopped, small_until, event_step, small_step, is_count}
use Rattle.spp_summary.proofs.reading.Reading.of_bytes_by.Goals as goal

pub loop-k-preserved : goal.loop-k-preserved
loop-k-preserved g c =
    let v = c.loop-k.invariant in
    let k = c.loop-k.k in
    let version = g.B.BytesReader.version in
    let n : ℕ = c.args.count in
    let xs : List Record = records_of version c.args.sites c.args.funcs n c.args.bytes.now in
    let all : length xs ≡ n = length-records_of version c.args.sites c.args.funcs n c.args.bytes.now in
    let s = so_far c.loop-k.reading in
    let t = so_far c.read.new.self in
    let o = summary_ops c.args.burdens in
    let at = c.args.first + k in
    let lt : k < n = omega (arith, c.loop-k-test.true) in
    let item : c.read_in.result ≡ get_or xs k (Err Truncated) =
    c.read_in.ensures.said ∙ sym (record_at-records_of version c.args.sites c.args.funcs n c.args.bytes.now k lt) in
    let read : t ≡ event o at (get_or xs k (Err Truncated)) s = c.in_ok-read-in-Ok.ensures.value ∙ ap (λ x. event o at x s) (sym c.in-Ok.is ∙ item) in
    record {
      value = event_step c.args.burdens c.args.first k k xs (Err Truncated) s t (omega arith) refl read ∙ v.value;
      small = small_step c.args.burdens at k (Ok c.in-Ok.event) s t c.in_ok-read-in-Ok.ensures.value (is_count c.args.sites c.args.funcs (Ok c.in-Ok.event) c.in-Ok.ensures.within) v.small;
      sound = c.in_ok-read-in-Ok.ensures.sound;
      laid = c.in_ok-read-in-Ok.ensures.laid;
      next = c.read_in.ensures.next;
    }

pub returns-in-Err : goal.returns-in-Err
returns-in-Err g c =
    let v = c.loop-k.invariant in
    let b = c.args.burdens in
    let k = c.loop-k.k in
    let version = g.B.BytesReader.version in
    let n : ℕ = c.args.count in
    let xs : List Record = records_of version c.args.sites c.args.funcs n c.args.bytes.now in
    let all : length xs ≡ n = length-records_of version c.args.sites c.args.funcs n c.args.bytes.now in
    let s = so_far c.loop-k.reading in
    let at = c.args.first + k in
    let why = c.in-Err.why in
    let t = failing (at, why) s in
    let o = summary_ops b in
    let lt : k < n = omega (arith, c.loop-k-test.true) in
    let item : c.read_in.result ≡ get_or xs k (Err Truncated) =
    c.read_in.ensures.said ∙ sym (record_at-records_of version c.args.sites c.args.funcs n c.args.bytes.now k lt) in
    let failed : t ≡ event o at (Err why) s = sym (event_fail b at why s v.sound) in
    let read : t ≡ event o at (get_or xs k (Err Truncated)) s = failed ∙ ap (λ x. event o at x s) (sym c.in-Err.is ∙ item) in
    record {
      value = sym (stopped b (c.args.first + (k + 1)) (drop (k + 1) xs) (at, why) t refl)
          ∙ event_step b c.args.first k k xs (Err Truncated) s t (omega arith) refl read ∙ v.value;
      laid = v.laid;
      small = small_until b (k + 1) n t (omega arith) (small_step b at k (Err why) s t failed tt v.small);
    }

pub returns : goal.returns
returns g c =
    let v = c.loop-k.invariant in
    let b = c.args.burdens in
    let k = c.loop-k.k in
    let version = g.B.BytesReader.version in
    let n : ℕ = c.args.count in
    let xs : List Record = records_of version c.args.sites c.args.funcs n c.args.bytes.now in
    let len : length xs ≡ n = length-records_of version c.args.sites c.args.funcs n c.args.bytes.now in
    let s = so_far c.loop-k.reading in
    let end : k ≡ n = omega (arith, c.loop-k-test.false, c.loop-k.auto.k-end) in
    let all = at_drop_all (λ zs. events (summary_ops b) (c.args.first + k) zs s) xs k (omega arith) in
    record {
      value = sym all ∙ v.value;
      laid = v.laid;
      small = small_until b k n s (omega arith) v.small;
    }
