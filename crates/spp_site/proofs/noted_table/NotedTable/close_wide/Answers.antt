use Rattle.std.proofs.Common.{ℕ, sym, subst}
use Rattle.spp_dag.specs.Shares.{plus}
use Rattle.spp_site.specs.Rows.{Fits, frame_row}
use Rattle.spp_site.specs.Table.{Sums, row_at, IsAdded}
use Rattle.spp_site.specs.NarrowTables.{narrow_sums}
use Rattle.spp_site.proofs.Keys.{ok_more}
use Rattle.spp_site.proofs.NarrowTables.{wide_fits, wide_added}
use Rattle.spp_site.proofs.noted_table.NotedTable.close_wide.Goals as goal

pub close-requires-clause-fits : goal.close-requires-clause-fits
close-requires-clause-fits c =
    subst (λ (n : ℕ). Fits (plus (row_at c.self.inside.wide n) (frame_row c.args.frame.now))) (sym c.from.ensures)
    (wide_fits c.self.inside.wide c.self.inside.rows.items c.args.site (frame_row c.args.frame.now) (subst (λ (t : Sums). Fits (plus (row_at t c.args.site) (frame_row c.args.frame.now))) (sym c.self.view_is) c.requires))

pub returns : goal.returns
returns c = ok_more _ _
    (λ added. subst (λ (t : Sums). IsAdded t (narrow_sums c.close.new.self c.self.inside.rows.items) c.args.site (frame_row c.args.frame.now)) c.self.view_is
    (wide_added c.self.inside.wide c.close.new.self c.self.inside.rows.items c.args.site (frame_row c.args.frame.now)
    (subst (λ (n : ℕ). IsAdded c.self.inside.wide c.close.new.self n (frame_row c.args.frame.now)) c.from.ensures added)))
    c.close.result c.close.ensures.added
