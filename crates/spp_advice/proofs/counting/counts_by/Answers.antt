use Rattle.std.proofs.Common.{ℕ, ◌+◌, ◌<◌, List, length, sym, ap, subst, ◌∙◌, arith}
use Rattle.spp_event.specs.Records.{IsEventOf}
use Rattle.spp_event.specs.declared.records.Event.{Event as AnEvent}
use Rattle.spp_event.specs.Recordings.{Record, Recording}
use Rattle.spp_frame.specs.Nesting.{AreEvents}
use Rattle.spp_dag.proofs.EventsOfRecords.{event_is}
use Rattle.spp_advice.specs.Counts.{counts_at, counts_before, is_marked, AreCounts}
use Rattle.spp_advice.proofs.OnPath.{path_counts}
use Rattle.spp_advice.proofs.Counted.{marks_long, counted_next, few_next, long}
use Rattle.spp_advice.proofs.counting.counts_by.Goals as goal

pub count-requires-clause-site : goal.count-requires-clause-site
count-requires-clause-site g c =
    (length c.args.trace.now.funcs, subst (λ (n : ℕ). IsEventOf n (length c.args.trace.now.funcs) c.read_known-event.result) (sym c.loop-at.invariant.sites) c.read_known-event.ensures.within)

pub loop-at-preserved : goal.loop-at-preserved
loop-at-preserved g c =
    let trace : Recording = c.args.trace.now in
    let at : ℕ = c.loop-at.at in
    let e : AnEvent = c.read_known-event.result in
    let within : at < length trace.records = omega (arith, c.count-count.ensures.count, c.loop-at-test.true) in
    let old = λ (site : ℕ). counts_at c.loop-at.counts site in
    let new = λ (site : ℕ). counts_at c.count.new.self site in
    record {
      sites = c.count.ensures.length ∙ c.loop-at.invariant.sites;
      counts = λ es are site. counted_next es (is_marked c.args.marks.now) site at (at + 1) e c.is_on-here.result c.is_on-next.result (old site) (new site) (omega arith) c.is_on-here.ensures c.is_on-next.ensures
          (event_is trace.records es at e are within c.read_known-event.ensures.said) (c.count.ensures.counts site) (c.loop-at.invariant.counts es are site);
      few = λ site. few_next at (at + 1) e c.is_on-here.result c.is_on-next.result site (old site) (new site) (omega arith) (c.count.ensures.counts site) (c.loop-at.invariant.few site);
      next = c.read_known-event.ensures.next;
    }

pub returns : goal.returns
returns g c =
    let rs : List Record = c.args.trace.now.records in
    let marks : List ℕ = c.args.marks.now in
    let counted : (es : List AnEvent) → AreEvents rs es → AreCounts es (is_marked marks) c.loop-at.counts = λ es are site.
    c.loop-at.invariant.counts es are site ∙ ap (counts_before es (is_marked marks) site) (long rs es c.loop-at.at c.count-count.result (omega arith) (omega arith) c.count-count.ensures.count are) in
    record {
      marks = counted;
      path = λ es burdens are h ps path site. counted es are site ∙ path_counts es burdens marks ps (marks_long rs es marks c.requires.bytes are) h path site;
    }
