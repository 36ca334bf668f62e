use Rattle.std.proofs.Common.{◌+◌, sym, ◌∙◌, ap, subst, arith, slice_set}
use Rattle.spp_dag.specs.Shares.{plus}
use Rattle.spp_site.specs.Rows.{Fits}
use Rattle.spp_site.specs.Table.{row_at, IsAdded}
use Rattle.spp_site.specs.Slots.{stored, IsIndexed}
use Rattle.spp_site.proofs.Stored.{stored_no_zero}
use Rattle.spp_site.proofs.Places.{grown_indexed, few_more}
use Rattle.spp_site.proofs.Adding.{found_site, found_row, summed, pushed, placed}
use Rattle.spp_site.proofs.table.Table.add.Goals as goal

pub add_to-requires : goal.add_to-requires
add_to-requires c =
    let at = c.in-Some.ensures.indexed c.self.inside.rows.items (subst (λ i. IsIndexed i c.self.inside.rows.items) (sym c.deref.ensures.value) c.self.invariant) in
    let found = found_row c.self.inside.root c.self.inside.index.items c.self.inside.rows.items c.self.invariant c.args.site c.in-Some.place at c.index_mut.result.now c.index_mut.ensures.value in
    subst (λ r. Fits (plus r c.args.row.now)) (sym (found ∙ ap (λ t. row_at t c.args.site) c.self.view_is)) c.requires.fits

pub returns-in-Some-clause-added : goal.returns-in-Some-clause-added
returns-in-Some-clause-added c =
    let at = c.in-Some.ensures.indexed c.self.inside.rows.items (subst (λ i. IsIndexed i c.self.inside.rows.items) (sym c.deref.ensures.value) c.self.invariant) in
    let found = c.index_mut.result.now in
    let same = found_site c.self.inside.rows.items c.args.site c.in-Some.place at found c.index_mut.ensures.value in
    subst (λ t. IsAdded t (stored c.self.inside.root (slice_set c.self.inside.rows.items c.in-Some.place (record { site = found.site; row = c.add_to.new.row }))) c.args.site c.args.row.now) c.self.view_is
    (subst (λ s. IsAdded (stored c.self.inside.root c.self.inside.rows.items) (stored c.self.inside.root (slice_set c.self.inside.rows.items c.in-Some.place (record { site = s; row = c.add_to.new.row }))) c.args.site c.args.row.now) (sym same)
    (summed c.self.inside.rows.items c.args.site c.in-Some.place at found c.index_mut.ensures.value c.self.inside.root
    c.args.row.now c.add_to.new.row c.add_to.ensures))

pub returns-in-Some-clause-no_zero_row : goal.returns-in-Some-clause-no_zero_row
returns-in-Some-clause-no_zero_row c = stored_no_zero c.self.inside.root (slice_set c.self.inside.rows.items c.in-Some.place (record { site = c.index_mut.result.now.site; row = c.add_to.new.row }))

pub returns-in_err-reach-clause-no_zero_row : goal.returns-in_err-reach-clause-no_zero_row
returns-in_err-reach-clause-no_zero_row c = stored_no_zero c.self.inside.root c.self.inside.rows.items

pub overflow_cast-place : goal.overflow_cast-place
overflow_cast-place c =
    let grown = c.in_ok-reach.ensures.grown in
    let h = grown_indexed c.self.inside.index.items c.reach.new.index.items c.self.inside.rows.items grown.0 c.self.invariant grown.1 c.in_ok-reach.ensures.small in
    let free = c.in_default.ensures.indexed c.self.inside.rows.items (subst (λ i. IsIndexed i c.self.inside.rows.items) (sym c.deref.ensures.value) c.self.invariant) in
    let few = few_more c.reach.new.index.items c.self.inside.rows.items h c.args.site c.args.row.now c.in_ok-reach.ensures.reached free in
    omega (arith, few, c.len.ensures)

pub invariant_of-self-in_err-push : goal.invariant_of-self-in_err-push
invariant_of-self-in_err-push c =
    let grown = c.in_ok-reach.ensures.grown in
    subst (λ r. IsIndexed c.reach.new.index.items r) (sym c.in_err-push.ensures.items)
    (grown_indexed c.self.inside.index.items c.reach.new.index.items c.self.inside.rows.items grown.0 c.self.invariant grown.1 c.in_ok-reach.ensures.small)

pub returns-in_err-push-clause-no_zero_row : goal.returns-in_err-push-clause-no_zero_row
returns-in_err-push-clause-no_zero_row c = stored_no_zero c.self.inside.root c.push.new.self.items

pub invariant_of-self-2 : goal.invariant_of-self-2
invariant_of-self-2 c =
    let grown = c.in_ok-reach.ensures.grown in
    let h = grown_indexed c.self.inside.index.items c.reach.new.index.items c.self.inside.rows.items grown.0 c.self.invariant grown.1 c.in_ok-reach.ensures.small in
    let free = c.in_default.ensures.indexed c.self.inside.rows.items (subst (λ i. IsIndexed i c.self.inside.rows.items) (sym c.deref.ensures.value) c.self.invariant) in
    placed c.reach.new.index.items c.self.inside.rows.items c.push.new.self.items c.args.site (c.len.result + 1) c.args.row.now h c.in_ok-reach.ensures.reached free
    (omega (arith, c.len.ensures, c.self.inside.rows.ok.0)) c.in_ok-push.ensures.items

pub returns-clause-added : goal.returns-clause-added
returns-clause-added c =
    subst (λ t. IsAdded t (stored c.self.inside.root c.push.new.self.items) c.args.site c.args.row.now) c.self.view_is
    (pushed c.self.inside.root c.self.inside.rows.items c.push.new.self.items c.args.site c.args.row.now c.in_ok-push.ensures.items)

pub returns-clause-no_zero_row : goal.returns-clause-no_zero_row
returns-clause-no_zero_row c = stored_no_zero c.self.inside.root c.push.new.self.items
