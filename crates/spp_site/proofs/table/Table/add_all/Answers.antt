use Rattle.std.proofs.Common.{◌≡◌, List, sym, ◌∙◌, ap, subst}
use Rattle.spp_dag.specs.Shares.{plus}
use Rattle.spp_site.specs.declared.slots.SiteRow.{SiteRow}
use Rattle.spp_site.specs.Rows.{Fits}
use Rattle.spp_site.specs.Table.{row_at}
use Rattle.spp_site.specs.Slots.{row_in, IsIndexed}
use Rattle.spp_site.proofs.Stored.{row_at-stored, stored_no_zero}
use Rattle.spp_site.proofs.Places.{grown_indexed}
use Rattle.spp_site.proofs.table.Table.add_all.Goals as goal

pub invariant_of-self : goal.invariant_of-self
invariant_of-self c =
    let grown = c.make_room.ensures.grown in
    subst (λ r. IsIndexed c.make_room.new.index.items r) (sym c.make_room.ensures.rows)
    (grown_indexed c.self.inside.index.items c.make_room.new.index.items c.self.inside.rows.items grown.0 c.self.invariant grown.1 c.make_room.ensures.small)

pub returns-in_err-make_room-clause-no_zero_row : goal.returns-in_err-make_room-clause-no_zero_row
returns-in_err-make_room-clause-no_zero_row c = stored_no_zero c.self.inside.root c.make_room.new.rows.items

pub put_all-requires-clause-indexed : goal.put_all-requires-clause-indexed
put_all-requires-clause-indexed c =
    let grown = c.make_room.ensures.grown in
    subst (λ r. IsIndexed c.make_room.new.index.items r) (sym c.make_room.ensures.rows)
    (grown_indexed c.self.inside.index.items c.make_room.new.index.items c.self.inside.rows.items grown.0 c.self.invariant grown.1 c.make_room.ensures.small)

pub put_all-requires-clause-fits : goal.put_all-requires-clause-fits
put_all-requires-clause-fits c = λ s.
    let here : row_at c.args.self.now s ≡ row_in c.make_room.new.rows.items s =
    sym (ap (λ t. row_at t s) c.self.view_is) ∙ row_at-stored c.self.inside.root c.self.inside.rows.items s ∙ ap (λ (r : List SiteRow). row_in r s) (sym c.make_room.ensures.rows) in
    subst (λ r. Fits (plus r (row_in c.args.rows.now s))) here (c.requires.sites_fit s)

pub returns-clause-no_zero_row : goal.returns-clause-no_zero_row
returns-clause-no_zero_row c = stored_no_zero c.add_to.new.row c.put_all.new.rows.items
