use Rattle.std.proofs.Common.{◌≡◌, Some, ap, ap₂, subst, ◌∙◌}
use Rattle.spp_dag.specs.declared.row.Row.{Row}
use Rattle.spp_dag.specs.Shares.{plus}
use Rattle.spp_site.specs.Rows.{Fits, frame_row}
use Rattle.spp_site.specs.Table.{Sums, row_at}
use Rattle.spp_site.specs.Profiles.{key_row}
use Rattle.spp_site.specs.NarrowRows.{at_site}
use Rattle.spp_site.proofs.Keys.{own_row, added_key, ok_more}
use Rattle.spp_site.proofs.NarrowTables.{table_fits, table_added, one_waits}
use Rattle.spp_site.proofs.narrow_sums.NarrowSums.close.Goals.{then-len-ge-MANY_KNOWN+in_ok-add_up, else-len-ge-MANY_KNOWN}
use Rattle.spp_site.proofs.narrow_sums.NarrowSums.close.Goals as goal

pub close_wide-requires : goal.close_wide-requires
close_wide-requires c =
    let r : Row = frame_row c.args.frame.now in
    table_fits c.self.inside.table c.self.inside.known.items c.args.self.now c.self.view_is r (Some c.args.site)
    (subst (λ x. Fits (plus (row_at c.args.self.now c.args.site) x)) (own_row c.args.site r) (c.requires (Some c.args.site)))

pub returns-in_default : goal.returns-in_default
returns-in_default c = ok_more _ _
    (λ added key. table_added c.self.inside.table c.self.inside.known.items c.args.self.now c.self.view_is c.close_wide.new.self (at_site c.args.site (frame_row c.args.frame.now) key) key
    (added_key c.self.inside.table c.close_wide.new.self c.args.site (frame_row c.args.frame.now) added key))
    c.close_wide.result c.close_wide.ensures

pub returns : goal.returns
returns c key =
    let same : key_row c.if-len-ge-MANY_KNOWN.self key ≡ key_row c.args.self.now key =
    elim c.if-len-ge-MANY_KNOWN.branch [
      | then-len-ge-MANY_KNOWN+in_ok-add_up w ↦ ap (λ (t : Sums). key_row t key) w.self-is ∙ w.in_ok-add_up.ensures key
      | else-len-ge-MANY_KNOWN w ↦ ap (λ (t : Sums). key_row t key) w.self-is
    ] in
    one_waits c.self-2.inside.table c.self-2.inside.known.items c.if-len-ge-MANY_KNOWN.self c.self-2.view_is c.push.new.self.items (record { row = c.in-Some.row; site = c.args.site }) c.in_ok-push.ensures.items key
    ∙ ap₂ (λ (x r : Row). plus x (at_site c.args.site r key)) same c.in-Some.ensures
