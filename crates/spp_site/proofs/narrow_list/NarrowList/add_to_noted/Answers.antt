use Rattle.std.proofs.Common.{List, ap, sym, subst, ◌∙◌}
use Rattle.spp_dag.specs.Shares.{plus}
use Rattle.spp_site.specs.declared.narrow_row.KnownRow.{KnownRow}
use Rattle.spp_site.specs.Rows.{Fits}
use Rattle.spp_site.specs.Profiles.{key_row}
use Rattle.spp_site.specs.NarrowRows.{known_rows}
use Rattle.spp_site.proofs.Keys.{ok_more}
use Rattle.spp_site.proofs.NarrowTables.{list_part_fits, list_left}
use Rattle.spp_site.proofs.narrow_list.NarrowList.add_to_noted.Goals as goal

pub absorb_wide-requires : goal.absorb_wide-requires
absorb_wide-requires c = list_part_fits c.args.table.now c.self.inside.wide c.args.self.now c.self.inside.rows.items c.self.view_is c.requires

pub add_known-requires : goal.add_known-requires
add_known-requires c key =
    subst (λ (l : List KnownRow). Fits (plus (key_row c.absorb_wide.new.self key) (known_rows l key))) (sym c.deref.ensures.value)
    (subst Fits (sym (list_left c.args.table.now c.self.inside.wide c.args.self.now c.self.inside.rows.items c.self.view_is c.absorb_wide.new.self c.in_ok-absorb_wide.ensures key)) (c.requires key))

pub returns : goal.returns
returns c = ok_more _ _
    (λ added key. added key ∙ ap (λ (l : List KnownRow). plus (key_row c.absorb_wide.new.self key) (known_rows l key)) c.deref.ensures.value
    ∙ list_left c.args.table.now c.self.inside.wide c.args.self.now c.self.inside.rows.items c.self.view_is c.absorb_wide.new.self c.in_ok-absorb_wide.ensures key)
    c.add_known.result c.add_known.ensures
