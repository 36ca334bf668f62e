use Rattle.std.proofs.Common.{◌≡◌, drop}
use Rattle.spp_event.specs.NameKeys.{key_on, name_key}
use Rattle.spp_event.proofs.name_keys.key_of.Given as goal

-- with the bytes that are left it comes to the number of the name
abbrev pub invariant-loop-k : goal.invariant-loop-k
invariant-loop-k l = key_on l.key (drop l.k l.name) ≡ name_key l.name
