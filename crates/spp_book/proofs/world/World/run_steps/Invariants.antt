use Rattle.std.proofs.Common.{◌≡◌, ◌+◌, ◌≤◌, vec_len}
use Rattle.std.specs.Prelude.{vec_capacity}
use Rattle.spp_book.specs.Worlds.{MayRun}
use Rattle.spp_book.proofs.Worlds.{AnswersAll}
use Rattle.spp_book.proofs.world.World.run_steps.Given as goal

abbrev pub invariant-loop-step : goal.invariant-loop-step
invariant-loop-step g l =
    let job = l.fn.self.book.name in
    record {
      iterator : (goal.iterator-loop-step g).can_next l.step-iterator × (goal.iterator-loop-step g).is_finite l.step-iterator;
      name : l.self.book.name ≡ l.fn.self.book.name;
      may : MayRun (g.J.Job.parts_of job) (g.J.Job.range_of job) (g.J.Job.is_value job) l.step-iterator.rest.items;
      all : AnswersAll (g.J.Job.parts_of job) (g.J.Job.range_of job) l.fn.self l.fn.steps.items l.answers.items l.self l.step-iterator.rest.items;
      room : vec_len l.answers + l.step-iterator.rest.len ≤ vec_capacity l.answers;
    }
