use Rattle.std.proofs.Common.{◌+◌, sym, ◌∙◌, subst, arith, slice_set}
use Rattle.spp_dag.specs.Shares.{zero_row, plus}
use Rattle.spp_site.specs.Rows.{Fits}
use Rattle.spp_site.specs.Table.{IsAdded}
use Rattle.spp_site.specs.Slots.{rows_alone, IsIndexed}
use Rattle.spp_site.proofs.Stored.{row_at-stored}
use Rattle.spp_site.proofs.Places.{few_more}
use Rattle.spp_site.proofs.Adding.{found_site, found_row, summed, pushed, placed}
use Rattle.spp_site.proofs.slots.put.Goals as goal

pub add_to-requires : goal.add_to-requires
add_to-requires c =
    let rows = c.args.rows.now.items in
    let at = c.in-Some.ensures.indexed rows (subst (λ i. IsIndexed i rows) (sym c.deref.ensures.value) c.requires.indexed) in
    let found = found_row zero_row c.args.index.now.items rows c.requires.indexed c.args.entry.now.site c.in-Some.place at c.index_mut.result.now c.index_mut.ensures.value in
    subst (λ r. Fits (plus r c.args.entry.now.row)) (sym (found ∙ row_at-stored zero_row rows c.args.entry.now.site)) c.requires.fits

pub returns-in-Some-clause-added : goal.returns-in-Some-clause-added
returns-in-Some-clause-added c =
    let rows = c.args.rows.now.items in
    let entry = c.args.entry.now in
    let at = c.in-Some.ensures.indexed rows (subst (λ i. IsIndexed i rows) (sym c.deref.ensures.value) c.requires.indexed) in
    let found = c.index_mut.result.now in
    let same = found_site rows entry.site c.in-Some.place at found c.index_mut.ensures.value in
    subst (λ s. IsAdded (rows_alone rows) (rows_alone (slice_set rows c.in-Some.place (record { site = s; row = c.add_to.new.row }))) entry.site entry.row) (sym same)
    (summed rows entry.site c.in-Some.place at found c.index_mut.ensures.value zero_row entry.row c.add_to.new.row c.add_to.ensures)

pub overflow_cast-place : goal.overflow_cast-place
overflow_cast-place c =
    let rows = c.args.rows.now.items in
    let free = c.in_default.ensures.indexed rows (subst (λ i. IsIndexed i rows) (sym c.deref.ensures.value) c.requires.indexed) in
    let few = few_more c.args.index.now.items rows c.requires.indexed c.args.entry.now.site c.args.entry.now.row c.requires.reached free in
    omega (arith, few, c.len.ensures)

pub returns-clause-indexed : goal.returns-clause-indexed
returns-clause-indexed c =
    let rows = c.args.rows.now.items in
    let free = c.in_default.ensures.indexed rows (subst (λ i. IsIndexed i rows) (sym c.deref.ensures.value) c.requires.indexed) in
    placed c.args.index.now.items rows c.push_reserved.new.self.items c.args.entry.now.site (c.len.result + 1) c.args.entry.now.row c.requires.indexed c.requires.reached free
    (omega (arith, c.len.ensures, c.args.rows.now.ok.0)) c.push_reserved.ensures.items

pub returns-clause-added : goal.returns-clause-added
returns-clause-added c =
    pushed zero_row c.args.rows.now.items c.push_reserved.new.self.items c.args.entry.now.site c.args.entry.now.row c.push_reserved.ensures.items
