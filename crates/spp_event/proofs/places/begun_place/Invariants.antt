use Rattle.std.proofs.Common.{◌≡◌, ◌+◌, length, take}
use Rattle.spp_event.specs.Items.{items}
use Rattle.spp_event.proofs.places.begun_place.Given as goal

-- so many begin before k, and so many are still passed over
abbrev pub invariant-loop-k : goal.invariant-loop-k
invariant-loop-k l = length (items (take l.k l.body)) + l.left ≡ length (items (take l.from l.body)) + l.others
