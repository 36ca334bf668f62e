use Rattle.std.proofs.Common.{sym, subst}
use Rattle.spp_dag.specs.Shares.{plus}
use Rattle.spp_site.specs.Rows.{Fits}
use Rattle.spp_site.specs.Table.{Sums, row_at, IsAdded}
use Rattle.spp_site.specs.NarrowTables.{narrow_sums}
use Rattle.spp_site.proofs.Keys.{ok_more}
use Rattle.spp_site.proofs.NarrowTables.{wide_fits, wide_added}
use Rattle.spp_site.proofs.narrow_table.NarrowTable.add_row.Goals as goal

pub add-requires-in-None-clause-fits : goal.add-requires-in-None-clause-fits
add-requires-in-None-clause-fits c =
    wide_fits c.self.inside.wide c.self.inside.rows.items c.args.site c.args.row.now (subst (λ (t : Sums). Fits (plus (row_at t c.args.site) c.args.row.now)) (sym c.self.view_is) c.requires.fits)

pub returns-in-None-clause-added : goal.returns-in-None-clause-added
returns-in-None-clause-added c = ok_more _ _
    (λ added. subst (λ (t : Sums). IsAdded t (narrow_sums c.add-in-None.new.self c.self.inside.rows.items) c.args.site c.args.row.now) c.self.view_is
    (wide_added c.self.inside.wide c.add-in-None.new.self c.self.inside.rows.items c.args.site c.args.row.now added))
    c.add-in-None.result c.add-in-None.ensures.added
