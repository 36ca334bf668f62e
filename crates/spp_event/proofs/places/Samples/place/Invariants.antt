use Rattle.std.proofs.Common.{◌+◌, ◌*◌, ◌/◌}
use Rattle.spp_event.specs.Places.{IsItemPlace}
use Rattle.spp_event.proofs.places.Samples.place.Given as goal

abbrev pub invariant-loop : goal.invariant-loop
invariant-loop l = IsItemPlace l.body (l.i-2 / 64 * 64 + l.counter) l.place
