use Rattle.std.proofs.Common.{◌<◌}
use Rattle.std.specs.List.{AllByRecursion}
use Rattle.spp_event.proofs.ItemPlaces.{behind}
use Rattle.spp_event.proofs.places.behind_item.Given as goal

-- no item begins behind the place so far
abbrev pub invariant-loop-k : goal.invariant-loop-k
invariant-loop-k l = AllByRecursion (λ b. b < 128) (behind l.body l.place l.k)
