-- The profile is light.
use Rattle.spp_advice.proofs.Light.{profiles_are_light}
use Rattle.advice_tests.proofs.advice.ask.Goals as goal

pub ranked-requires : goal.ranked-requires
ranked-requires c = profiles_are_light c.args.trace.now c.count.ensures.limits c.count.ensures.events _ c.in-Ok.profile c.in-Ok.ensures.path c.in-Ok.ensures.burdened_path

pub weight-a-requires : goal.weight-a-requires
weight-a-requires c = profiles_are_light c.args.trace.now c.count.ensures.limits c.count.ensures.events _ c.in-Ok.profile c.in-Ok.ensures.path c.in-Ok.ensures.burdened_path

pub weight-b-requires : goal.weight-b-requires
weight-b-requires c = profiles_are_light c.args.trace.now c.count.ensures.limits c.count.ensures.events _ c.in-Ok.profile c.in-Ok.ensures.path c.in-Ok.ensures.burdened_path

pub weight-c-requires : goal.weight-c-requires
weight-c-requires c = profiles_are_light c.args.trace.now c.count.ensures.limits c.count.ensures.events _ c.in-Ok.profile c.in-Ok.ensures.path c.in-Ok.ensures.burdened_path

pub weight-d-requires : goal.weight-d-requires
weight-d-requires c = profiles_are_light c.args.trace.now c.count.ensures.limits c.count.ensures.events _ c.in-Ok.profile c.in-Ok.ensures.path c.in-Ok.ensures.burdened_path
