use Rattle.std.proofs.Common.{◌≡◌, ◌<◌, length, Ok, Err, sym, ap, ◌∙◌, arith, refl}
use Rattle.spp_event.specs.declared.records.EventFault.TheVariants.{Truncated}
use Rattle.spp_event.specs.Recordings.{record_at}
use Rattle.spp_change.specs.Changed.{innermost, changed_event}
use Rattle.spp_piece.specs.Machine.{event}
use Rattle.spp_piece.specs.Summary.{failing, summary_ops}
use Rattle.spp_summary.specs.Reading.{so_far, sites_in}
use Rattle.spp_summary.proofs.Steps.{small_step, is_count}
use Rattle.spp_summary.proofs.Changes.{changed_step, changed_stop}
use Rattle.spp_summary.proofs.reading.Reading.of_changed_by.Goals as goal

pub loop-k-preserved : goal.loop-k-preserved
loop-k-preserved g c =
    let v = c.loop-k.invariant in
    let r = c.args.trace.now in
    let rs = r.records in
    let b = c.args.burdens in
    let k = c.loop-k.k in
    let s = so_far c.loop-k.reading in
    let t = so_far c.read-in-Ok.new.self in
    let e = c.in-Ok.event in
    let x = c.event-made.result in
    let lt : k < length rs = omega (arith, c.count-events.ensures.count) in
    let is : record_at rs k ≡ Ok e = sym c.read.ensures.said ∙ c.in-Ok.is in
    let change : x ≡ changed_event c.args.change.now (innermost (sites_in s.frames)) e =
    c.event-made.ensures.value ∙ ap (λ by. changed_event c.args.change.now by e) c.innermost.ensures in
    let read : t ≡ event (summary_ops b) k (Ok x) s = c.in_ok-read-in-Ok.ensures.value in
    let fits = c.event-made.ensures.within (length r.sites) (length r.funcs) c.in-Ok.ensures.within in
    record {
      value = changed_step b c.args.change.now k rs (Err Truncated) s t lt v.sound e is (read ∙ ap (λ y. event (summary_ops b) k (Ok y) s) change) ∙ v.value;
      small = small_step b k k (Ok x) s t read (is_count (length r.sites) (length r.funcs) (Ok x) fits) v.small;
      sound = c.in_ok-read-in-Ok.ensures.sound;
      laid = c.in_ok-read-in-Ok.ensures.laid;
      next = c.read.ensures.next;
    }

pub returns-in-Err-clause-value : goal.returns-in-Err-clause-value
returns-in-Err-clause-value g c =
    let v = c.loop-k.invariant in
    let rs = c.args.trace.now.records in
    let k = c.loop-k.k in
    let why = c.in-Err.why in
    let s = so_far c.loop-k.reading in
    let lt : k < length rs = omega (arith, c.count-events.ensures.count) in
    let is : record_at rs k ≡ Err why = sym c.read.ensures.said ∙ c.in-Err.is in
    changed_stop c.args.burdens c.args.change.now k rs (Err Truncated) s (failing (k, why) s) lt v.sound why is refl ∙ v.value
