use Rattle.std.proofs.Common.{◌*◌, ◌≤◌}
use Rattle.spp_event.proofs.ItemSamples.{Sampled}
use Rattle.spp_event.proofs.places.Samples.of.Given as goal

abbrev pub invariant-loop-block : goal.invariant-loop-block
invariant-loop-block l = record { noted : Sampled l.body l.places.items l.begun (l.block * 32); most : l.begun ≤ l.most }
