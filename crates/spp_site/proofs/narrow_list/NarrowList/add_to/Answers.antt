use Rattle.std.proofs.Common.{List, None, Some, ap, sym, subst, ◌∙◌}
use Rattle.spp_dag.specs.Shares.{plus}
use Rattle.spp_site.specs.declared.narrow_row.KnownRow.{KnownRow}
use Rattle.spp_site.specs.Rows.{Fits}
use Rattle.spp_site.specs.Profiles.{key_row}
use Rattle.spp_site.specs.NarrowRows.{known_rows}
use Rattle.spp_site.proofs.Keys.{sum_key, ok_more}
use Rattle.spp_site.proofs.NarrowTables.{list_part_fits, list_left}
use Rattle.spp_site.proofs.narrow_list.NarrowList.add_to.Goals as goal

pub absorb-requires-clause-root_fits : goal.absorb-requires-clause-root_fits
absorb-requires-clause-root_fits c = list_part_fits c.args.table.now c.self.inside.wide c.args.self.now c.self.inside.rows.items c.self.view_is c.requires None

pub absorb-requires-clause-sites_fit : goal.absorb-requires-clause-sites_fit
absorb-requires-clause-sites_fit c s = list_part_fits c.args.table.now c.self.inside.wide c.args.self.now c.self.inside.rows.items c.self.view_is c.requires (Some s)

pub add_widened-requires : goal.add_widened-requires
add_widened-requires c key =
    subst (λ (l : List KnownRow). Fits (plus (key_row c.absorb.new.self key) (known_rows l key))) (sym c.deref.ensures.value)
    (subst Fits (sym (list_left c.args.table.now c.self.inside.wide c.args.self.now c.self.inside.rows.items c.self.view_is c.absorb.new.self
    (sum_key c.args.table.now c.self.inside.wide c.absorb.new.self c.in_ok-absorb.ensures.sums) key)) (c.requires key))

pub returns : goal.returns
returns c = ok_more _ _
    (λ added key. added key ∙ ap (λ (l : List KnownRow). plus (key_row c.absorb.new.self key) (known_rows l key)) c.deref.ensures.value
    ∙ list_left c.args.table.now c.self.inside.wide c.args.self.now c.self.inside.rows.items c.self.view_is c.absorb.new.self
    (sum_key c.args.table.now c.self.inside.wide c.absorb.new.self c.in_ok-absorb.ensures.sums) key)
    c.add_widened.result c.add_widened.ensures
