use Rattle.spp_stack.specs.Machine.{push_by}
use Rattle.spp_stack.proofs.stack_builder.StackBuilder.open.Goals as goal

pub returns-clause-stands : goal.returns-clause-stands
returns-clause-stands c x s =
    c.in_ok-keep.ensures.stands (push_by x.frames c.args.frame.now x.work) (c.in_ok-enter.ensures.stands x s)
