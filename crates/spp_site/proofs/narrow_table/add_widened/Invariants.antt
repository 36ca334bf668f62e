use Rattle.spp_site.specs.Profiles.{key_row}
use Rattle.spp_site.proofs.NarrowRows.{HasUpTo}
use Rattle.spp_site.proofs.narrow_table.add_widened.Given as goal

-- the rows of the sites before this one have been added
abbrev pub invariant-loop-place : goal.invariant-loop-place
invariant-loop-place l = HasUpTo (key_row l.fn.table) l.rows l.place l.table
