use Rattle.std.proofs.Common.{◌≡◌, ◌+◌, ◌≤◌, ◌++◌}
use Rattle.std.specs.VecDeque.{deque_len, deque_capacity}
use Rattle.spp_summary.proofs.lists.chained.Given as goal

abbrev pub invariant-loop-first : goal.invariant-loop-first
invariant-loop-first g l =
    record {
      items : l.left.items ++ l.right.items ≡ l.fn.left.items ++ l.fn.right.items;
      room : deque_len l.left + deque_len l.right ≤ deque_capacity l.left;
    }

abbrev pub decreases-loop-first : goal.decreases-loop-first
decreases-loop-first g l = deque_len l.right

abbrev pub invariant-loop-last : goal.invariant-loop-last
invariant-loop-last g l =
    record {
      items : l.left.items ++ l.right.items ≡ l.fn.left.items ++ l.fn.right.items;
      room : deque_len l.left + deque_len l.right ≤ deque_capacity l.right;
    }

abbrev pub decreases-loop-last : goal.decreases-loop-last
decreases-loop-last g l = deque_len l.left
