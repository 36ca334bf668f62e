use Rattle.spp_site.specs.Profiles.{key_row}
use Rattle.spp_site.proofs.Keys.{ok_more}
use Rattle.spp_site.proofs.NarrowTables.{table_fits, table_added}
use Rattle.spp_site.proofs.narrow_sums.NarrowSums.absorb.Goals as goal

pub add_to_noted-requires : goal.add_to_noted-requires
add_to_noted-requires c key = table_fits c.self.inside.table c.self.inside.known.items c.args.self.now c.self.view_is (key_row c.args.list.now key) key (c.requires key)

pub returns : goal.returns
returns c = ok_more _ _
    (λ added key. table_added c.self.inside.table c.self.inside.known.items c.args.self.now c.self.view_is c.add_to_noted.new.table (key_row c.args.list.now key) key (added key))
    c.add_to_noted.result c.add_to_noted.ensures
