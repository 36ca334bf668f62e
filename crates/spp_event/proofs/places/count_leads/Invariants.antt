use Rattle.std.proofs.Common.{◌≡◌, ◌≤◌, ◌*◌, take}
use Rattle.spp_event.proofs.ItemCounts.{leads}
use Rattle.spp_event.proofs.places.count_leads.Given as goal

abbrev pub invariant-loop-block : goal.invariant-loop-block
invariant-loop-block l = record { counted : l.leads ≡ leads (take (l.block * 128) l.bytes); few : l.leads ≤ l.block * 128 }
