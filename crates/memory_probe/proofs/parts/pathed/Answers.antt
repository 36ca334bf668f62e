use Rattle.std.proofs.Common.{◌+◌, refl, sym, ap, ◌∙◌}
use Rattle.spp_maxplus.specs.State.{unburdened}
use Rattle.spp_path.specs.declared.settled.Under.TheVariants as under
use Rattle.spp_jobs.proofs.Runs.{chosen_count, settled_in}
use Rattle.memory_probe.proofs.parts.pathed.Goals as goal

pub settle-requires : goal.settle-requires
settle-requires c =
    let e = c.requires.entries in
    record { count = e.count ∙ ap (λ m. m + 1) (sym (chosen_count e.events c.args.burdens c.args.cut.now.parts c.args.choices.now (c.requires.choices e.events e.are_events))) }

pub settle-requires-2 : goal.settle-requires-2
settle-requires-2 c =
    let e = c.requires.entries in
    record { count = e.count ∙ ap (λ m. m + 1) (sym (chosen_count e.events c.args.burdens c.args.cut.now.parts c.args.choices.now (c.requires.choices e.events e.are_events))) }

pub new-job-requires-clause-path : goal.new-job-requires-clause-path
new-job-requires-clause-path c =
    settled_in c.args.cut.now c.parts-parts.ensures.cut c.args.burdens c.args.stacks.now c.requires.entries under.Zero c.args.choices.now c.args.choices.now refl c.requires.choices
    c.in_ok-path.path c.in_ok-path.ensures.settled c.args.cut.now.trace refl

pub new-job-requires-clause-burdened : goal.new-job-requires-clause-burdened
new-job-requires-clause-burdened c =
    settled_in c.args.cut.now c.parts-parts.ensures.cut c.args.burdens c.args.stacks.now c.requires.entries under.Burdens c.args.choices.now c.args.choices.now refl c.requires.choices
    c.in_ok-burdened.burdened c.in_ok-burdened.ensures.settled c.args.cut.now.trace refl

pub new-job-requires-clause-over : goal.new-job-requires-clause-over
new-job-requires-clause-over c = record {
  entries = (c.args.burdens, c.requires.entries);
  stacks = c.in_ok-path.ensures.stacks;
  count = c.in_ok-path.ensures.count;
  settled = (
    unburdened,
    settled_in c.args.cut.now c.parts-parts.ensures.cut c.args.burdens c.args.stacks.now c.requires.entries under.Zero c.args.choices.now c.args.choices.now refl c.requires.choices
        c.in_ok-path.path c.in_ok-path.ensures.settled c.args.cut.now.trace refl,
  );
}

pub new-job-requires-clause-burdened_over : goal.new-job-requires-clause-burdened_over
new-job-requires-clause-burdened_over c = record {
  entries = (c.args.burdens, c.requires.entries);
  stacks = c.in_ok-burdened.ensures.stacks;
  count = c.in_ok-burdened.ensures.count;
  settled = (
    c.args.burdens,
    settled_in c.args.cut.now c.parts-parts.ensures.cut c.args.burdens c.args.stacks.now c.requires.entries under.Burdens c.args.choices.now c.args.choices.now refl c.requires.choices
        c.in_ok-burdened.burdened c.in_ok-burdened.ensures.settled c.args.cut.now.trace refl,
  );
}
