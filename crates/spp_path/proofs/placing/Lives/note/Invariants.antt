use Rattle.std.proofs.Common.{◌≡◌, ◌<◌, Bool, length}
use Rattle.spp_dag.specs.declared.stack.EntryFrame.{EntryFrame}
use Rattle.spp_path.specs.Placing.{AreFalling, AreKnown, IsOver}
use Rattle.spp_path.proofs.placing.Lives.note.Given as goal

abbrev pub invariant-loop-number : goal.invariant-loop-number
invariant-loop-number l = record {
  there : l.number < length l.self.nodes.now;
  nodes : l.self.nodes ≡ l.initial.self.nodes;
  falling : AreFalling l.self;
  known : (enters : EntryFrame → Bool) → IsOver enters l.initial.self.nodes.now l.top l.live → AreKnown enters l.initial.self → IsOver enters l.self.nodes.now l.number l.live;
  noted : (enters : EntryFrame → Bool) → IsOver enters l.initial.self.nodes.now l.top l.live → AreKnown enters l.initial.self → AreKnown enters l.self;
}

abbrev pub decreases-loop-number : goal.decreases-loop-number
decreases-loop-number l = l.number
