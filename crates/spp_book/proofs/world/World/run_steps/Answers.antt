use Rattle.std.proofs.Common.{◌++◌, ◌∙◌, [], ap, sym, subst, refl, arith}
use Rattle.std.proofs.lemmas.List.{append-nil}
use Rattle.spp_book.specs.Worlds.{StepIs, MayStep, MayRun, AreSteps}
use Rattle.spp_book.proofs.Worlds.{step_name, one_more, none_left}
use Rattle.spp_book.proofs.world.World.run_steps.Goals as goal

pub loop-step-init : goal.loop-step-init
loop-step-init g c =
    let job = c.args.self.now.book.name in
    let items_are = c.into_iter-step-iterator.ensures.into_iter_gives.0 in
    record {
      iterator = (tt, tt);
      name = refl;
      may = subst (λ xs. MayRun (g.J.Job.parts_of job) (g.J.Job.range_of job) (g.J.Job.is_value job) xs) (sym items_are) c.requires;
      all = λ more t h. subst (λ as'. AreSteps (g.J.Job.parts_of job) (g.J.Job.range_of job) c.args.self.now c.args.steps.items as' t) (sym (ap (λ as'. as' ++ more) c.in-Ok.ensures.items))
          (subst (λ xs. AreSteps (g.J.Job.parts_of job) (g.J.Job.range_of job) c.args.self.now xs more t) items_are h);
      room = omega (arith, c.in-Ok.ensures.len, c.in-Ok.ensures.capacity, c.len.ensures, c.into_iter-step-iterator.ensures.into_iter_gives.1);
    }

pub step-answer-requires-after_bounds : goal.step-answer-requires-after_bounds
step-answer-requires-after_bounds g c κs within =
    let job = c.args.self.now.book.name in
    let here = subst (λ xs. MayRun (g.J.Job.parts_of job) (g.J.Job.range_of job) (g.J.Job.is_value job) xs) c.in-Some.ensures.steps.0 c.loop-step.invariant.may in
    subst (λ n. MayStep (g.J.Job.parts_of n) (g.J.Job.range_of n) (g.J.Job.is_value n) c.in-Some.step) (sym c.loop-step.invariant.name) here.0

pub push_reserved-requires : goal.push_reserved-requires
push_reserved-requires g c = omega (arith, c.loop-step.invariant.room, c.in-Some.ensures.steps.1)

pub loop-step-preserved : goal.loop-step-preserved
loop-step-preserved g c =
    let job = c.args.self.now.book.name in
    let s = c.loop-step.self in
    let mid = c.step-answer.new.self in
    let x = c.in-Some.step in
    let a = c.step-answer.result in
    let is : StepIs (g.J.Job.parts_of job) (g.J.Job.range_of job) s x a mid = subst (λ n. StepIs (g.J.Job.parts_of n) (g.J.Job.range_of n) s x a mid) c.loop-step.invariant.name c.step-answer.ensures in
    let here = subst (λ xs. MayRun (g.J.Job.parts_of job) (g.J.Job.range_of job) (g.J.Job.is_value job) xs) c.in-Some.ensures.steps.0 c.loop-step.invariant.may in
    record {
      iterator = (tt, tt);
      name = step_name (g.J.Job.parts_of job) (g.J.Job.range_of job) s mid x a is ∙ c.loop-step.invariant.name;
      may = here.1;
      all = one_more (g.J.Job.parts_of job) (g.J.Job.range_of job) c.args.self.now s mid c.args.steps.items c.loop-step.step-iterator.rest.items c.next.new.self.rest.items c.loop-step.answers.items c.push_reserved.new.self.items x a
          c.in-Some.ensures.steps.0 is c.push_reserved.ensures.items c.loop-step.invariant.all;
      room = omega (arith, c.loop-step.invariant.room, c.in-Some.ensures.steps.1, c.push_reserved.ensures.len, c.push_reserved.ensures.capacity);
    }

pub returns-clause-run : goal.returns-clause-run
returns-clause-run g c =
    let job = c.args.self.now.book.name in
    let rest = c.loop-step.step-iterator.rest in
    let empty = none_left rest.items (omega (arith, rest.ok.0, c.in-None.ensures.steps.0)) in
    subst (λ as'. AreSteps (g.J.Job.parts_of job) (g.J.Job.range_of job) c.args.self.now c.args.steps.items as' c.loop-step.self) (append-nil c.loop-step.answers.items)
    (c.loop-step.invariant.all [] c.loop-step.self (subst (λ xs. AreSteps (g.J.Job.parts_of job) (g.J.Job.range_of job) c.loop-step.self xs [] c.loop-step.self) (sym empty) refl))
