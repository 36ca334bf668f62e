use Rattle.std.proofs.Common.{◌≡◌, ◌+◌, ◌<◌, get_or, drop, Ok, Err, sym, ap, ◌∙◌, arith, refl, ℕ, subst}
use Rattle.std.proofs.lemmas.List.{at_drop_all}
use Rattle.spp_event.specs.declared.records.EventFault.TheVariants.{Truncated}
use Rattle.spp_cut.specs.Parts.{records_in}
use Rattle.spp_event.specs.Recordings.{record_at}
use Rattle.spp_piece.specs.Machine.{event, events}
use Rattle.spp_piece.specs.Summary.{failing, summary_ops, summary_of}
use Rattle.spp_summary.specs.Reading.{so_far}
use Rattle.spp_piece.proofs.EventSteps.{event_fail}
use Rattle.spp_summary.proofs.Steps.{stopped, small_until, event_step, small_step, record_in, count_in, is_count}
use Rattle.spp_summary.proofs.reading.Reading.of_part_by.Goals as goal

pub loop-k-preserved : goal.loop-k-preserved
loop-k-preserved g c =
    let v = c.loop-k.invariant in
    let p = c.args.part.now in
    let k = c.loop-k.k in
    let xs = records_in p in
    let s = so_far c.loop-k.reading in
    let t = so_far c.read.new.self in
    let o = summary_ops c.args.burdens in
    let at = c.first-first.result + k in
    let lt : k < p.count = omega (arith, c.count-events.ensures) in
    let all = count_in p c.keeps_limits.ensures.within in
    let item : c.read_at.result ≡ get_or xs k (Err Truncated) =
    c.read_at.ensures.said ∙ ap (λ q. record_at q.trace.records (q.first + k)) c.again-own.ensures ∙ sym (record_in p k (Err Truncated) lt) in
    let read : t ≡ event o at (get_or xs k (Err Truncated)) s = c.in_ok-read-in-Ok.ensures.value ∙ ap (λ x. event o at x s) (sym c.in-Ok.is ∙ item) in
    record {
      value = event_step c.args.burdens c.first-first.result k k xs (Err Truncated) s t (omega arith) refl read ∙ v.value;
      small = small_step c.args.burdens at k (Ok c.in-Ok.event) s t c.in_ok-read-in-Ok.ensures.value (is_count _ _ (Ok c.in-Ok.event) c.in-Ok.ensures.within) v.small;
      sound = c.in_ok-read-in-Ok.ensures.sound;
      laid = c.in_ok-read-in-Ok.ensures.laid;
      next = subst (λ (n : ℕ). g.R.Reader.stands c.read_at.new.events c.again-own.result.trace n) (let e : c.again-own.result.first + k + 1 ≡ c.again-own.result.first + (k + 1) = omega arith in e) c.read_at.ensures.next;
    }

pub returns-in-Err : goal.returns-in-Err
returns-in-Err g c =
    let v = c.loop-k.invariant in
    let p = c.args.part.now in
    let b = c.args.burdens in
    let k = c.loop-k.k in
    let xs = records_in p in
    let s = so_far c.loop-k.reading in
    let at = c.first-first.result + k in
    let why = c.in-Err.why in
    let t = failing (at, why) s in
    let o = summary_ops b in
    let lt : k < p.count = omega (arith, c.count-events.ensures) in
    let all = count_in p c.keeps_limits.ensures.within in
    let item : c.read_at.result ≡ get_or xs k (Err Truncated) =
    c.read_at.ensures.said ∙ ap (λ q. record_at q.trace.records (q.first + k)) c.again-own.ensures ∙ sym (record_in p k (Err Truncated) lt) in
    let failed : t ≡ event o at (Err why) s = sym (event_fail b at why s v.sound) in
    let read : t ≡ event o at (get_or xs k (Err Truncated)) s = failed ∙ ap (λ x. event o at x s) (sym c.in-Err.is ∙ item) in
    record {
      value = sym (stopped b (c.first-first.result + (k + 1)) (drop (k + 1) xs) (at, why) t refl)
          ∙ event_step b c.first-first.result k k xs (Err Truncated) s t (omega arith) refl read ∙ v.value ∙ ap (λ n. summary_of b n xs) c.first-first.ensures;
      laid = v.laid;
      small = small_until b (k + 1) p.count t (omega arith) (small_step b at k (Err why) s t failed tt v.small);
    }

pub returns : goal.returns
returns g c =
    let v = c.loop-k.invariant in
    let p = c.args.part.now in
    let b = c.args.burdens in
    let k = c.loop-k.k in
    let xs = records_in p in
    let s = so_far c.loop-k.reading in
    let end = count_in p c.keeps_limits.ensures.within in
    let all = at_drop_all (λ zs. events (summary_ops b) (c.first-first.result + k) zs s) xs k (omega (arith, c.loop-k-test.false, c.count-events.ensures)) in
    record {
      value = sym all ∙ v.value ∙ ap (λ n. summary_of b n xs) c.first-first.ensures;
      laid = v.laid;
      small = small_until b k p.count s (omega (arith, c.loop-k.auto.k-end, c.count-events.ensures)) v.small;
    }
