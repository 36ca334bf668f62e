use Rattle.std.proofs.Common.{◌≡◌, ◌++◌, map, take}
use Rattle.std.specs.List.{flat_map}
use Rattle.spp_event.specs.Header.{name_spelling}
use Rattle.spp_event.proofs.migrating.push_names.Given as goal

abbrev pub invariant-loop-name : goal.invariant-loop-name
invariant-loop-name l =
    l.bytes.items ≡ l.fn.bytes.items ++ flat_map name_spelling (take l.name-index (map (λ n. n.now) l.names))
