use Rattle.std.proofs.Common.{◌≡◌, length, map, take, drop}
use Rattle.spp_cut.specs.Cuts.{AreInOrder, events_before}
use Rattle.spp_cut.proofs.cutting_bytes.positions_of.Given as goal

-- the items before the offsets so far are counted
abbrev pub invariant-loop-offset : goal.invariant-loop-offset
invariant-loop-offset l = record {
  before : l.before ≡ events_before l.trace l.from;
  in_order : AreInOrder l.from (drop l.offset-index l.offsets) (length l.trace.body);
  are : l.positions.items ≡ map (events_before l.trace) (take l.offset-index l.offsets);
}
