use Rattle.std.proofs.Common.{◌≡◌, ◌+◌, List, length, refl, sym, ap, ◌∙◌, rules}
use Rattle.spp_dag.specs.declared.choices.Choices.{Choices}
use Rattle.spp_jobs.proofs.Runs.{chosen_count, settled_in}
use Rattle.spp_path.specs.Settled.{burdens_under}
use Rattle.spp_jobs.specs.Paths.{IsSettledOver}
use Rattle.spp_crew.proofs.Halves.{all_can}
use Rattle.spp_crew.proofs.Profiled.{table_of, all_choices}
use Rattle.spp_crew.proofs.marking.marks_under.Goals as goal

pub settle_by_hops-requires : goal.settle_by_hops-requires
settle_by_hops-requires g c =
    let e = c.in_ok-stacks.ensures.entries c.args.burdens (c.deref.ensures.value ∙ c.in_ok-found.ensures.each) in
    let items : c.deref-2.result.now ≡ c.in_ok-choices.field-0.choices.items = (c.deref-2.ensures.value ∙ c.into_vec-choices.ensures.items) in
    let n : length c.deref-2.result.now ≡ length c.args.cut.now.parts =
    ap (λ (cs : List Choices). length cs) items
    ∙ chosen_count e.events c.args.burdens c.args.cut.now.parts c.in_ok-choices.field-0.choices.items (all_choices (table_of c.args.cut.now c.args.burdens) c.parts-count.ensures.cut c.in_ok-choices.field-0 c.in_ok-choices.ensures e.events e.are_events) in
    record { count = e.count ∙ ap (λ m. m + 1) (sym n) }

pub mark_range-requires : goal.mark_range-requires
mark_range-requires g c =
    let e = c.in_ok-stacks.ensures.entries c.args.burdens (c.deref.ensures.value ∙ c.in_ok-found.ensures.each) in
    let settled =
    settled_in c.args.cut.now c.parts-count.ensures.cut c.args.burdens c.in_ok-stacks.stacks e c.args.under c.in_ok-choices.field-0.choices.items c.deref-2.result.now (c.deref-2.ensures.value ∙ c.into_vec-choices.ensures.items)
    (all_choices (table_of c.args.cut.now c.args.burdens) c.parts-count.ensures.cut c.in_ok-choices.field-0 c.in_ok-choices.ensures) c.in_ok-settled.settled c.in_ok-settled.ensures.settled c.args.cut.now.trace refl in
    let over : IsSettledOver c.args.cut.now c.in_ok-stacks.stacks c.in_ok-settled.settled = record {
      entries = (c.args.burdens, e);
      stacks = c.in_ok-settled.ensures.stacks;
      count = c.in_ok-settled.ensures.count;
      settled = (burdens_under c.args.under c.args.burdens, settled);
    } in (
      search rules,
      (
        search rules,
        all_can c.args.cut.now c.in_ok-stacks.stacks c.in_ok-settled.settled c.parts-count.result.now c.parts-count.ensures.parts c.parts-count.ensures.few c.parts-count.ensures.events
            c.args.marks.now c.requires.bytes over,
      ),
    )

pub returns-clause-marks : goal.returns-clause-marks
returns-clause-marks g c es are =
    let e = c.in_ok-stacks.ensures.entries c.args.burdens (c.deref.ensures.value ∙ c.in_ok-found.ensures.each) in
    let settled =
    settled_in c.args.cut.now c.parts-count.ensures.cut c.args.burdens c.in_ok-stacks.stacks e c.args.under c.in_ok-choices.field-0.choices.items c.deref-2.result.now (c.deref-2.ensures.value ∙ c.into_vec-choices.ensures.items)
    (all_choices (table_of c.args.cut.now c.args.burdens) c.parts-count.ensures.cut c.in_ok-choices.field-0 c.in_ok-choices.ensures) c.in_ok-settled.settled c.in_ok-settled.ensures.settled c.args.cut.now.trace refl in
    c.in_ok-mark_range.ensures.marks (burdens_under c.args.under c.args.burdens) settled es are
