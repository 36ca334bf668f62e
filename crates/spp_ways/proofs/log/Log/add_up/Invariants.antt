use Rattle.std.proofs.Common.{◌≡◌, ℕ, ◌+◌, ◌*◌, Option, length, reverse}
use Rattle.spp_dag.specs.Shares.{plus}
use Rattle.spp_site.specs.Profiles.{key_row}
use Rattle.spp_ways.specs.Logs.{row_in}
use Rattle.spp_ways.proofs.Summing.{all_rows, all_count, AllIn}
use Rattle.spp_ways.proofs.log.Log.add_up.Given as goal

-- the rows of the ways that are left make the sums
abbrev pub invariant-loop-count : goal.invariant-loop-count
invariant-loop-count l = record {
  within : AllIn (length l.self.rows.items) l.left.items;
  sums : (key : Option ℕ) → plus (key_row l.sums key) (all_rows l.burdened (reverse l.self.rows.items) l.left.items key)
      ≡ plus (key_row l.fn.sums key) (row_in l.burdened l.self l.way key);
}

abbrev pub decreases-loop-count : goal.decreases-loop-count
decreases-loop-count l = 2 * all_count l.burdened (reverse l.self.rows.items) l.left.items + length l.left.items
