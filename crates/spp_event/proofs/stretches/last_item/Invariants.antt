use Rattle.std.proofs.Common.{◌<◌, drop}
use Rattle.std.specs.List.{AllByRecursion}
use Rattle.spp_event.proofs.stretches.last_item.Given as goal

-- no item begins behind
abbrev pub invariant-loop-k : goal.invariant-loop-k
invariant-loop-k l = AllByRecursion (λ b. b < 128) (drop l.k l.bytes)
