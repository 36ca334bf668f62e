use Rattle.std.proofs.Common.{List, length}
use Rattle.spp_dag.specs.declared.stack.EntryFrame.{EntryFrame}
use Rattle.spp_stack.specs.Chain.{IsUnder, HasFrames}
use Rattle.spp_stack.proofs.Linked.{FuncsMarking, count_of}
use Rattle.spp_stack.proofs.stacks.Entry.mark_funcs.Given as goal

abbrev pub invariant-loop-next : goal.invariant-loop-next
invariant-loop-next l =
    record {
      within : IsUnder (length l.self.nodes) l.next;
      marking : (fs : List EntryFrame) → HasFrames l.self fs → FuncsMarking l.self.nodes l.next l.fn.funcs l.funcs fs;
    }

abbrev pub decreases-loop-next : goal.decreases-loop-next
decreases-loop-next l = count_of l.next
