use Rattle.std.proofs.Common.{◌≡◌, ◌≤◌, take}
use Rattle.spp_event.proofs.ItemCounts.{leads}
use Rattle.spp_event.proofs.places.count_few.Given as goal

abbrev pub invariant-loop-k : goal.invariant-loop-k
invariant-loop-k l = record { counted : l.leads ≡ leads (take l.k l.bytes); few : l.leads ≤ l.k }
