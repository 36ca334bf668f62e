use Rattle.std.proofs.Common.{◌≡◌, ℕ, Bool, cond, ap, ap₂, sym, subst, ◌∙◌}
use Rattle.spp_dag.specs.declared.row.Row.{Row}
use Rattle.spp_dag.specs.Shares.{plus}
use Rattle.spp_site.specs.Rows.{Fits, frame_row}
use Rattle.spp_site.specs.declared.closed_frame.ClosedFrame.{ClosedFrame}
use Rattle.spp_site.specs.Profiles.{key_row}
use Rattle.spp_site.specs.NarrowRows.{at_site}
use Rattle.spp_site.proofs.Rows.{plus-assoc}
use Rattle.spp_ways.specs.declared.log.Merged.{Merged}
use Rattle.spp_ways.specs.declared.log.LogRow.{LogRow}
use Rattle.spp_ways.specs.Logs.{row_on, merged_row, merged_on}
use Rattle.spp_ways.proofs.PathSums.{left_fits}
use Rattle.spp_ways.proofs.log.LogRow.add_to.Goals as goal

pub close-requires : goal.close-requires
close-requires c key =
    let r : LogRow = c.args.self.now in
    let site : c.self.inside.place.site ≡ r.site = ap (λ (x : LogRow). x.site) c.self.view_is in
    let is : row_on c.args.burdened r key ≡ at_site c.self.inside.place.site (frame_row c.closed.result) key =
    ap (λ (m : _). merged_row c.args.burdened r m key) c.in-None.ensures
    ∙ ap₂ (λ (s : ℕ) (x : ClosedFrame). at_site s (frame_row x) key) (sym site) (sym c.closed.ensures) in
    subst (λ (q : Row). Fits (plus (key_row c.args.sums.now key) q)) is (c.requires key)

pub absorb-requires : goal.absorb-requires
absorb-requires c key =
    let on : Bool = c.args.burdened in
    let r : LogRow = c.args.self.now in
    let m : Merged = c.in-Some.merged.now in
    let told = c.in-Some.ensures in
    let s : Row = key_row c.args.sums.now key in
    let is : row_on on r key ≡ merged_on on m key = ap (λ (x : _). merged_row on r x key) told.1 ∙ ap (λ (x : Merged). merged_on on x key) told.2 in
    left_fits (plus s (key_row m.common key)) (key_row (cond on m.burdened m.plain) key)
    (subst Fits (sym (plus-assoc s (key_row m.common key) (key_row (cond on m.burdened m.plain) key))) (subst (λ (q : Row). Fits (plus s q)) is (c.requires key)))
