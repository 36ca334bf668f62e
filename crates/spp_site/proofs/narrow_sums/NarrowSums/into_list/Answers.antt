use Rattle.std.proofs.Common.{List, ap, sym, subst, ◌∙◌}
use Rattle.spp_dag.specs.Shares.{plus}
use Rattle.spp_site.specs.declared.narrow_row.KnownRow.{KnownRow}
use Rattle.spp_site.specs.Rows.{Fits}
use Rattle.spp_site.specs.Profiles.{key_row}
use Rattle.spp_site.specs.NarrowRows.{known_rows}
use Rattle.spp_site.proofs.NarrowTables.{waiting}
use Rattle.spp_site.proofs.narrow_sums.NarrowSums.into_list.Goals as goal

pub add_known-requires : goal.add_known-requires
add_known-requires c key =
    subst (λ (l : List KnownRow). Fits (plus (key_row c.self.inside.table key) (known_rows l key))) (sym c.deref.ensures.value)
    (subst Fits (sym (waiting c.self.inside.table c.self.inside.known.items c.args.self c.self.view_is key)) (c.requires key))

pub returns : goal.returns
returns c key =
    c.in_ok-parts.ensures.list key ∙ c.in_ok-add_known.ensures key ∙ ap (λ (l : List KnownRow). plus (key_row c.self.inside.table key) (known_rows l key)) c.deref.ensures.value
    ∙ waiting c.self.inside.table c.self.inside.known.items c.args.self c.self.view_is key
