use Rattle.std.specs.Prelude.{◌≡◌, ◌+◌, ◌≤◌, length, vec_capacity}
use Rattle.spp_site.specs.Slots.{rows_alone, IsHinted}
use Rattle.spp_site.proofs.Merging.{IsMerging}
use Rattle.spp_site.proofs.hints.put_all.Given as goal

abbrev pub invariant-loop-entry : goal.invariant-loop-entry
invariant-loop-entry l = record {
  hinted : IsHinted l.hints.items l.rows.items;
  merging : IsMerging (rows_alone l.fn.rows.items) (rows_alone l.more) (rows_alone l.rows.items) l.more l.entry-index;
  count : length l.rows.items ≤ length l.fn.rows.items + l.entry-index;
  capacity : vec_capacity l.rows ≡ vec_capacity l.fn.rows;
}
