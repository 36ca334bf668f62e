use Rattle.std.proofs.Common.{sym, ◌∙◌, ap, subst, slice_set}
use Rattle.spp_dag.specs.Shares.{plus}
use Rattle.spp_site.specs.Rows.{Fits, frame_row}
use Rattle.spp_site.specs.Table.{row_at, IsAdded}
use Rattle.spp_site.specs.Slots.{stored, IsIndexed}
use Rattle.spp_site.proofs.Stored.{stored_no_zero}
use Rattle.spp_site.proofs.Adding.{found_site, found_row, summed}
use Rattle.spp_site.proofs.table.Table.close.Goals as goal

pub add_to-requires : goal.add_to-requires
add_to-requires c =
    let at = c.in-Some.ensures.indexed c.self.inside.rows.items (subst (λ i. IsIndexed i c.self.inside.rows.items) (sym c.deref.ensures.value) c.self.invariant) in
    let found = found_row c.self.inside.root c.self.inside.index.items c.self.inside.rows.items c.self.invariant c.args.site c.in-Some.place at c.index_mut.result.now c.index_mut.ensures.value in
    subst (λ r. Fits (plus r (frame_row c.args.frame.now))) (sym (found ∙ ap (λ t. row_at t c.args.site) c.self.view_is)) c.requires.fits

pub returns-in-Some-clause-added : goal.returns-in-Some-clause-added
returns-in-Some-clause-added c =
    let at = c.in-Some.ensures.indexed c.self.inside.rows.items (subst (λ i. IsIndexed i c.self.inside.rows.items) (sym c.deref.ensures.value) c.self.invariant) in
    let found = c.index_mut.result.now in
    let same = found_site c.self.inside.rows.items c.args.site c.in-Some.place at found c.index_mut.ensures.value in
    subst (λ t. IsAdded t (stored c.self.inside.root (slice_set c.self.inside.rows.items c.in-Some.place (record { site = found.site; row = c.add_to.new.row }))) c.args.site (frame_row c.args.frame.now)) c.self.view_is
    (subst (λ s. IsAdded (stored c.self.inside.root c.self.inside.rows.items) (stored c.self.inside.root (slice_set c.self.inside.rows.items c.in-Some.place (record { site = s; row = c.add_to.new.row }))) c.args.site (frame_row c.args.frame.now)) (sym same)
    (summed c.self.inside.rows.items c.args.site c.in-Some.place at found c.index_mut.ensures.value c.self.inside.root
    (frame_row c.args.frame.now) c.add_to.new.row c.add_to.ensures))

pub returns-in-Some-clause-no_zero_row : goal.returns-in-Some-clause-no_zero_row
returns-in-Some-clause-no_zero_row c = stored_no_zero c.self.inside.root (slice_set c.self.inside.rows.items c.in-Some.place (record { site = c.index_mut.result.now.site; row = c.add_to.new.row }))
