use Rattle.std.proofs.Common.{◌≡◌, ◌≤◌, ℕ, Option, length, drop}
use Rattle.spp_dag.specs.Shares.{plus}
use Rattle.spp_site.specs.NarrowRows.{narrow_at, known_rows, AreNoted}
use Rattle.spp_site.proofs.noted_table.take_rows.Given as goal

-- the rows of the sites before the index have been taken out
abbrev pub invariant-loop-site : goal.invariant-loop-site
invariant-loop-site l = record {
  noted : AreNoted (drop l.site-index l.noted) l.rows.items;
  small : length l.rows.items ≤ 65536;
  sums : (key : Option ℕ) → plus (known_rows l.taken.items key) (narrow_at l.rows.items key) ≡ narrow_at l.fn.rows.items key;
}
