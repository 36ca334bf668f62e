use Rattle.std.proofs.Common.{◌≡◌, sym, ◌∙◌, ap, subst}
use Rattle.spp_dag.specs.Shares.{zero_row}
use Rattle.spp_site.specs.Table.{row_at}
use Rattle.spp_site.specs.Slots.{IsIndexed}
use Rattle.spp_dag.proofs.Shares.{same_rows}
use Rattle.spp_site.proofs.Adding.{no_row, found_row}
use Rattle.spp_site.proofs.table.Table.row.Goals as goal

pub returns-in-Some : goal.returns-in-Some
returns-in-Some c =
    let at = c.in-Some.ensures.indexed c.self.inside.rows.items (subst (λ i. IsIndexed i c.self.inside.rows.items) (sym c.deref.ensures.value) c.self.invariant) in
    found_row c.self.inside.root c.self.inside.index.items c.self.inside.rows.items c.self.invariant c.args.site c.in-Some.place at c.index.result.now c.index.ensures
    ∙ ap (λ t. row_at t c.args.site) c.self.view_is

pub returns-in-None : goal.returns-in-None
returns-in-None c =
    let none = c.in-None.ensures.indexed c.self.inside.rows.items (subst (λ i. IsIndexed i c.self.inside.rows.items) (sym c.deref.ensures.value) c.self.invariant) in
    let d = c.default.ensures in
    let zero : c.default.result ≡ zero_row = same_rows c.default.result zero_row d.0 d.1.1.1.0 d.1.0 d.1.1.1.1.0 d.1.1.1.1.1.0 d.1.1.0 d.1.1.1.1.1.1.0 d.1.1.1.1.1.1.1 in
    zero
    ∙ (sym (no_row c.self.inside.root c.self.inside.rows.items c.args.site none) ∙ ap (λ t. row_at t c.args.site) c.self.view_is)
