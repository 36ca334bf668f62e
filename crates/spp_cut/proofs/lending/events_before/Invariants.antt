use Rattle.std.proofs.Common.{◌≡◌, take}
use Rattle.spp_cut.specs.Parts.{events_in}
use Rattle.spp_cut.proofs.lending.events_before.Given as goal

-- the events of the parts so far
abbrev pub invariant-loop-part : goal.invariant-loop-part
invariant-loop-part l = l.events ≡ events_in (take l.part-index l.parts)
