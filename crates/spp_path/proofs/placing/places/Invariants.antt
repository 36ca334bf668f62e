use Rattle.std.proofs.Common.{◌≡◌, Bool, false}
use Rattle.spp_dag.specs.declared.stack.EntryFrame.{EntryFrame}
use Rattle.spp_path.specs.Placing.{AreFalling, AreKnown, Agrees}
use Rattle.spp_path.proofs.MadeStarts.{Built}
use Rattle.spp_path.proofs.placing.places.Given as goal

abbrev pub invariant-loop-k : goal.invariant-loop-k
invariant-loop-k l = record {
  nodes : l.lives.nodes.now ≡ l.entries.nodes;
  falling : AreFalling l.lives;
  known : (enters : EntryFrame → Bool) → Agrees enters l.entries l.onwards → AreKnown enters l.lives;
  structure : AreKnown (λ f. false) l.lives;
  built : Built l.entries l.onwards l.spawns l.k l.before l.starts.items;
}
