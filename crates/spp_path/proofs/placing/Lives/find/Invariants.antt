use Rattle.std.proofs.Common.{◌<◌, Bool, length}
use Rattle.spp_dag.specs.declared.stack.EntryFrame.{EntryFrame}
use Rattle.spp_path.specs.Placing.{AreKnown, Permits, IsOver}
use Rattle.spp_path.proofs.placing.Lives.find.Given as goal

abbrev pub invariant-loop-next : goal.invariant-loop-next
invariant-loop-next l = record {
  there : l.number < length l.self.nodes.now;
  over : (enters : EntryFrame → Bool) → Permits enters l.self.nodes.now l.onward l.top → AreKnown enters l.self → IsOver enters l.self.nodes.now l.top l.number;
}

abbrev pub decreases-loop-next : goal.decreases-loop-next
decreases-loop-next l = l.number
