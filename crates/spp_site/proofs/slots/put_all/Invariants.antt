use Rattle.std.specs.Prelude.{◌≡◌, ◌+◌, ◌≤◌, length, vec_capacity}
use Rattle.spp_site.specs.Slots.{rows_alone, IsIndexed}
use Rattle.spp_site.proofs.Merging.{IsMerging}
use Rattle.spp_site.proofs.slots.put_all.Given as goal

abbrev pub invariant-loop-entry : goal.invariant-loop-entry
invariant-loop-entry l = record {
  indexed : IsIndexed l.index.items l.rows.items;
  merging : IsMerging (rows_alone l.fn.rows.items) (rows_alone l.more) (rows_alone l.rows.items) l.more l.entry-index;
  reach : length l.index.items ≡ length l.fn.index.items;
  count : length l.rows.items ≤ length l.fn.rows.items + l.entry-index;
  capacity : vec_capacity l.rows ≡ vec_capacity l.fn.rows;
}
