use Rattle.std.proofs.Common.{◌≡◌, ℕ, ◌<◌, ◌+◌, ◌^◌, List, length, take, map, Ok, subst, sym, ◌∙◌, arith}
use Rattle.spp_event.specs.declared.records.Event.{Event}
use Rattle.spp_event.specs.Recordings.{record_at}
use Rattle.spp_dag.specs.Trace.{weight}
use Rattle.spp_reference.proofs.Lists.{event_more, weights_more}
use Rattle.spp_reference.proofs.answers.events_of.Goals as goal

pub loop-at-preserved : goal.loop-at-preserved
loop-at-preserved c =
    let rs = c.args.trace.now.records in
    let at = c.loop-at.at in
    let es = c.loop-at.events.items in
    let e = c.in-Ok.event in
    let lt : at < length rs = omega (arith, c.count-at-end.ensures.count) in
    let said : record_at rs at ≡ Ok e = sym c.read.ensures.said ∙ c.in-Ok.is in
    let pushed = sym c.in_ok-push-in-Ok.ensures.items in
    record {
      are = subst (λ (xs : List Event). take (at + 1) rs ≡ map (λ x. Ok x) xs) pushed (event_more rs at es e lt said c.loop-at.invariant.are);
      small = subst (λ (xs : List Event). (k : ℕ) → weight xs k < 2 ^ 64) pushed
          (weights_more (length c.args.trace.now.sites) (length c.args.trace.now.funcs) es e c.loop-at.invariant.small c.in-Ok.ensures.within);
      next = c.read.ensures.next;
    }
