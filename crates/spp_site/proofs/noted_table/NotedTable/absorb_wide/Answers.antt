use Rattle.std.proofs.Common.{None, Some}
use Rattle.spp_site.specs.Profiles.{key_row}
use Rattle.spp_site.proofs.Keys.{ok_more}
use Rattle.spp_site.proofs.NarrowTables.{wide_key_fits, wide_sum}
use Rattle.spp_site.proofs.noted_table.NotedTable.absorb_wide.Goals as goal

pub absorb-requires-clause-root_fits : goal.absorb-requires-clause-root_fits
absorb-requires-clause-root_fits c = wide_key_fits c.self.inside.wide c.args.self.now c.self.inside.rows.items c.self.view_is (key_row c.args.share.now None) None (c.requires None)

pub absorb-requires-clause-sites_fit : goal.absorb-requires-clause-sites_fit
absorb-requires-clause-sites_fit c s = wide_key_fits c.self.inside.wide c.args.self.now c.self.inside.rows.items c.self.view_is (key_row c.args.share.now (Some s)) (Some s) (c.requires (Some s))

pub returns : goal.returns
returns c = ok_more _ _ (λ sum. wide_sum c.self.inside.wide c.args.self.now c.self.inside.rows.items c.self.view_is c.args.share.now c.absorb.new.self sum) c.absorb.result c.absorb.ensures.sums
