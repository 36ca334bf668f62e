use Rattle.std.proofs.Common.{sym, subst, arith, slice_set}
use Rattle.spp_dag.specs.Shares.{zero_row}
use Rattle.spp_site.specs.Table.{IsAdded}
use Rattle.spp_site.specs.Slots.{rows_alone, IsHinted}
use Rattle.spp_site.proofs.Adding.{found_site, found_fits, summed, pushed}
use Rattle.spp_site.proofs.Hinted.{told_hinted}
use Rattle.spp_site.proofs.hints.put.Goals as goal

pub add_to-requires : goal.add_to-requires
add_to-requires c =
    let rows = c.args.rows.now.items in
    let at = c.in-Some.ensures.hinted rows (subst (λ i. IsHinted i rows) (sym c.deref.ensures.value) c.requires.hinted) in
    found_fits rows c.args.entry.now.site c.in-Some.place at c.index_mut.result.now c.index_mut.ensures.value c.args.entry.now.row c.requires.fits

pub returns-in-Some-clause-added : goal.returns-in-Some-clause-added
returns-in-Some-clause-added c =
    let rows = c.args.rows.now.items in
    let entry = c.args.entry.now in
    let at = c.in-Some.ensures.hinted rows (subst (λ i. IsHinted i rows) (sym c.deref.ensures.value) c.requires.hinted) in
    let found = c.index_mut.result.now in
    let same = found_site rows entry.site c.in-Some.place at found c.index_mut.ensures.value in
    subst (λ s. IsAdded (rows_alone rows) (rows_alone (slice_set rows c.in-Some.place (record { site = s; row = c.add_to.new.row }))) entry.site entry.row) (sym same)
    (summed rows entry.site c.in-Some.place at found c.index_mut.ensures.value zero_row entry.row c.add_to.new.row c.add_to.ensures)

pub returns-then-site-len-clause-hinted : goal.returns-then-site-len-clause-hinted
returns-then-site-len-clause-hinted c =
    told_hinted c.args.hints.now.items c.args.rows.now.items c.push_reserved.new.self.items c.requires.hinted c.args.entry.now.site c.args.entry.now.row c.requires.limit c.push_reserved.ensures.items
    c.in-Ok.place (omega (arith, c.in-Ok.ensures, c.len.ensures)) (omega arith)

pub returns-then-site-len-clause-added : goal.returns-then-site-len-clause-added
returns-then-site-len-clause-added c =
    pushed zero_row c.args.rows.now.items c.push_reserved.new.self.items c.args.entry.now.site c.args.entry.now.row c.push_reserved.ensures.items

pub returns-in_default-clause-added : goal.returns-in_default-clause-added
returns-in_default-clause-added c =
    pushed zero_row c.args.rows.now.items c.push_reserved.new.self.items c.args.entry.now.site c.args.entry.now.row c.push_reserved.ensures.items
