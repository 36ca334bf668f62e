use Rattle.spp_advice.proofs.Left.{spawns_are_left, children_are_left}
use Rattle.spp_advice.proofs.Sites.{costs_add_up}
use Rattle.spp_advice.proofs.Light.{profiles_are_light}
use Rattle.spp_advice.proofs.laws.advice_laws.Goals as goal

pub returns-clause-left : goal.returns-clause-left
returns-clause-left c = spawns_are_left

pub returns-clause-children : goal.returns-clause-children
returns-clause-children c = children_are_left

pub returns-clause-costs : goal.returns-clause-costs
returns-clause-costs c = costs_add_up

pub returns-clause-light : goal.returns-clause-light
returns-clause-light c = profiles_are_light
