use Rattle.std.proofs.Common.{◌≡◌, ℕ, suc, ◌<◌, length, get_or}
use Rattle.spp_site.specs.Marks.{is_marked}
use Rattle.spp_ways.specs.Pruning.{kept_up_to}
use Rattle.spp_ways.proofs.kept_rows.KeptRows.of.Given as goal

abbrev pub invariant-loop-k : goal.invariant-loop-k
invariant-loop-k l = record {
  kept : l.kept ≡ kept_up_to (is_marked l.fn.marks) l.k;
  many : length l.counts.items ≡ suc l.k;
  counts : (n : ℕ) → n < length l.counts.items → get_or l.counts.items n 0 ≡ kept_up_to (is_marked l.fn.marks) n;
}
