use Rattle.std.proofs.Common.{◌≡◌, ℕ, ◌+◌, ◌≤◌, drop, length, reverse, take}
use Rattle.spp_piece.specs.Summary.{play_frames}
use Rattle.spp_stack.specs.Machine.{Now, entry_ops}
use Rattle.spp_stack.specs.StackBuilder.{Stands, IsKept, AreKept}
use Rattle.spp_stack.proofs.stack_builder.StackBuilder.open_all.Given as goal

-- so many of the frames are open, and the others are left
abbrev pub invariant-loop-frame : goal.invariant-loop-frame
invariant-loop-frame l =
    let frames = l.summary.sum.frames in
    record {
      done : (k : ℕ) × (k ≤ length frames) × (l.frame-iterator ≡ drop k (reverse frames)) × (length l.self.nodes.items ≡ length l.fn.self.nodes.items + k)
          × ((x : Now) → Stands l.fn.self x → Stands l.self (play_frames (entry_ops l.summary.burdens) (reverse (take k (reverse frames))) x));
      kept : IsKept l.self;
      chains : AreKept l.fn.self.nodes.items l.self.nodes.items;
      work : l.self.work ≡ l.fn.self.work;
    }
