use Rattle.std.proofs.Common.{◌≡◌, ◌+◌, ◌≤◌, length, None}
use Rattle.std.specs.VecDeque.{deque_len, deque_capacity}
use Rattle.spp_piece.specs.Bound.{cost, load, load_returns}
use Rattle.spp_summary.specs.Storage.{seen, with_work, IsLaid}
use Rattle.spp_piece.specs.Summary.{summary_ops, play_returns}
use Rattle.spp_summary.proofs.storage.Storage.return_all.Given as goal

abbrev pub invariant-loop-unmatched : goal.invariant-loop-unmatched
invariant-loop-unmatched l =
    let rest = l.returns.items in
    let all = l.fn.returns in
    let first = l.fn.self in
    record {
      value : play_returns (summary_ops l.burdens) rest ((summary_ops l.burdens).along l.pending (with_work (first.before + first.run) (seen l.self))) ≡ play_returns (summary_ops l.burdens) all.items (seen first);
      load : load l.burdens (seen l.self) + cost l.pending + load_returns l.burdens rest ≤ load l.burdens (seen first) + load_returns l.burdens all.items;
      sound : l.self.fault ≡ None;
      laid : IsLaid l.self;
      work : l.self.before + l.self.run ≤ first.before + first.run;
      returns : l.self.returns ≡ first.returns;
      kept : l.returns.kept ≤ all.kept;
      room : l.returns.room ≡ all.room;
      kept_room : l.returns.kept_room ≡ all.kept_room;
      opens_capacity : deque_capacity l.self.opens ≡ deque_capacity first.opens;
      opens_len : deque_len l.self.opens + length all.items ≡ deque_len first.opens + length rest;
      states_capacity : deque_capacity l.self.states ≡ deque_capacity first.states;
      states_len : deque_len l.self.states ≤ deque_len first.states;
    }

abbrev pub decreases-loop-unmatched : goal.decreases-loop-unmatched
decreases-loop-unmatched l = length l.returns.items
