use Rattle.std.proofs.Common.{List, None, Some, ap, sym, subst, ◌∙◌}
use Rattle.spp_dag.specs.Shares.{plus}
use Rattle.spp_site.specs.declared.narrow_row.NarrowRow.{NarrowRow}
use Rattle.spp_site.specs.Rows.{Fits}
use Rattle.spp_site.specs.Table.{Sums, IsSum}
use Rattle.spp_site.specs.Profiles.{key_row}
use Rattle.spp_site.specs.NarrowRows.{narrow_at}
use Rattle.spp_site.proofs.Keys.{ok_more}
use Rattle.spp_site.proofs.NarrowTables.{wide_part_fits, narrow_left}
use Rattle.spp_site.proofs.narrow_table.NarrowTable.add_to.Goals as goal

pub absorb-requires-clause-root_fits : goal.absorb-requires-clause-root_fits
absorb-requires-clause-root_fits c =
    subst (λ (w : Sums). Fits (plus (key_row c.args.table.now None) (key_row w None))) (sym c.into_share.ensures)
    (wide_part_fits c.args.table.now c.self.inside.wide c.args.self c.self.inside.rows.items c.self.view_is c.requires None)

pub absorb-requires-clause-sites_fit : goal.absorb-requires-clause-sites_fit
absorb-requires-clause-sites_fit c s =
    subst (λ (w : Sums). Fits (plus (key_row c.args.table.now (Some s)) (key_row w (Some s)))) (sym c.into_share.ensures)
    (wide_part_fits c.args.table.now c.self.inside.wide c.args.self c.self.inside.rows.items c.self.view_is c.requires (Some s))

pub add_widened-requires-clause-fits : goal.add_widened-requires-clause-fits
add_widened-requires-clause-fits c key =
    let sum : IsSum c.args.table.now c.self.inside.wide c.absorb-2.new.self = subst (λ (w : Sums). IsSum c.args.table.now w c.absorb-2.new.self) c.into_share.ensures c.in_ok-absorb.ensures.sums in
    subst (λ (l : List NarrowRow). Fits (plus (key_row c.absorb-2.new.self key) (narrow_at l key))) (sym c.deref.ensures.value)
    (subst Fits (sym (narrow_left c.args.table.now c.self.inside.wide c.args.self c.self.inside.rows.items c.self.view_is c.absorb-2.new.self sum key)) (c.requires key))

pub returns : goal.returns
returns c =
    let sum : IsSum c.args.table.now c.self.inside.wide c.absorb-2.new.self = subst (λ (w : Sums). IsSum c.args.table.now w c.absorb-2.new.self) c.into_share.ensures c.in_ok-absorb.ensures.sums in
    ok_more _ _
    (λ added key. added key ∙ ap (λ (l : List NarrowRow). plus (key_row c.absorb-2.new.self key) (narrow_at l key)) c.deref.ensures.value
    ∙ narrow_left c.args.table.now c.self.inside.wide c.args.self c.self.inside.rows.items c.self.view_is c.absorb-2.new.self sum key)
    c.add_widened.result c.add_widened.ensures
