use Rattle.std.proofs.Common.{◌+◌, refl, sym, ap, ◌∙◌}
use Rattle.spp_maxplus.specs.State.{unburdened}
use Rattle.spp_path.specs.declared.settled.Under.TheVariants as under
use Rattle.spp_jobs.proofs.Runs.{chosen_count, settled_in}
use Rattle.spp_crew.proofs.Profiled.{if_ok, pathed_told}
use Rattle.spp_crew.proofs.profiling.pathed.Goals as goal

pub settle_both-requires : goal.settle_both-requires
settle_both-requires g c =
    let e = c.requires.entries in
    e.count ∙ ap (λ m. m + 1) (sym (chosen_count e.events c.args.burdens c.args.cut.now.parts c.args.choices.now (c.requires.choices e.events e.are_events)))

pub new-job-requires-clause-path : goal.new-job-requires-clause-path
new-job-requires-clause-path g c =
    settled_in c.args.cut.now c.parts-parts.ensures.cut c.args.burdens c.args.stacks.now c.requires.entries under.Zero c.args.choices.now c.args.choices.now refl c.requires.choices
    c.in_ok-path.path c.in_ok-path.ensures.path.settled c.args.cut.now.trace refl

pub new-job-requires-clause-burdened : goal.new-job-requires-clause-burdened
new-job-requires-clause-burdened g c =
    settled_in c.args.cut.now c.parts-parts.ensures.cut c.args.burdens c.args.stacks.now c.requires.entries under.Burdens c.args.choices.now c.args.choices.now refl c.requires.choices
    c.in_ok-path.burdened c.in_ok-path.ensures.burdened.settled c.args.cut.now.trace refl

pub new-job-requires-clause-over : goal.new-job-requires-clause-over
new-job-requires-clause-over g c = record {
  entries = (c.args.burdens, c.requires.entries);
  stacks = c.in_ok-path.ensures.path.stacks;
  count = c.in_ok-path.ensures.path.count;
  settled = (
    unburdened,
    settled_in c.args.cut.now c.parts-parts.ensures.cut c.args.burdens c.args.stacks.now c.requires.entries under.Zero c.args.choices.now c.args.choices.now refl c.requires.choices
        c.in_ok-path.path c.in_ok-path.ensures.path.settled c.args.cut.now.trace refl,
  );
}

pub new-job-requires-clause-burdened_over : goal.new-job-requires-clause-burdened_over
new-job-requires-clause-burdened_over g c = record {
  entries = (c.args.burdens, c.requires.entries);
  stacks = c.in_ok-path.ensures.burdened.stacks;
  count = c.in_ok-path.ensures.burdened.count;
  settled = (
    c.args.burdens,
    settled_in c.args.cut.now c.parts-parts.ensures.cut c.args.burdens c.args.stacks.now c.requires.entries under.Burdens c.args.choices.now c.args.choices.now refl c.requires.choices
        c.in_ok-path.burdened c.in_ok-path.ensures.burdened.settled c.args.cut.now.trace refl,
  );
}

pub returns : goal.returns
returns g c =
    if_ok c.run_round.result
    (λ t v. pathed_told c.args.cut.now c.args.burdens c.new-job.result.cut c.new-job.result.burdens c.parts-parts.ensures.cut c.parts-parts.ensures.few c.new-job.ensures.cut c.new-job.ensures.burdens t v)
    c.run_round.ensures
