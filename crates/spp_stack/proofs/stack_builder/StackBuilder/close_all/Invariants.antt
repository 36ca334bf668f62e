use Rattle.std.proofs.Common.{◌≡◌, ◌+◌}
use Rattle.spp_piece.specs.Bound.{load_returns}
use Rattle.spp_piece.specs.Summary.{play_returns}
use Rattle.spp_stack.specs.Machine.{Now, entry_ops, IsOpen, peaks}
use Rattle.spp_stack.specs.StackBuilder.{Stands}
use Rattle.spp_stack.proofs.Passing.{Reached}
use Rattle.spp_stack.proofs.stack_builder.StackBuilder.close_all.Given as goal

abbrev pub invariant-loop-unmatched : goal.invariant-loop-unmatched
invariant-loop-unmatched l =
    let returns = l.summary.sum.returns in
    record {
      reached : (x : Now) → Stands l.fn.self x → IsOpen (play_returns (entry_ops l.summary.burdens) returns x).frames
          → Reached l.summary.burdens l.self l.unmatched-iterator (play_returns (entry_ops l.summary.burdens) returns x) (peaks x.frames + load_returns l.summary.burdens returns);
      nodes : l.self.nodes ≡ l.fn.self.nodes;
      work : l.self.work ≡ l.fn.self.work;
    }
