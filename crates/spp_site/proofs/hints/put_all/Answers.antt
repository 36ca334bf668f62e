use Rattle.std.proofs.Common.{◌∙◌, refl, sym, subst, arith, get_or, ap₂}
use Rattle.spp_dag.specs.Shares.{zero_row, plus}
use Rattle.spp_site.specs.Rows.{Fits}
use Rattle.spp_site.specs.Slots.{blank, rows_alone}
use Rattle.spp_site.proofs.Stored.{row_at-stored, stored_no_zero}
use Rattle.spp_site.proofs.Merging.{merging_begin, merging_next, merging_fits}
use Rattle.spp_site.proofs.hints.put_all.Goals as goal

pub loop-entry-init : goal.loop-entry-init
loop-entry-init c =
    let rows = c.args.rows.now.items in
    record {
      hinted = c.requires.hinted;
      merging = merging_begin (rows_alone rows) (rows_alone c.args.more.now) (rows_alone rows) c.args.more.now (row_at-stored zero_row c.args.more.now) refl refl (stored_no_zero zero_row rows);
      count = omega arith;
      capacity = refl;
    }

pub put-requires-clause-fits : goal.put-requires-clause-fits
put-requires-clause-fits c =
    let entry = get_or c.args.more.now c.loop-entry.entry-index blank in
    subst (λ r. Fits (plus r entry.row)) (row_at-stored zero_row c.loop-entry.rows.items entry.site)
    (merging_fits (rows_alone c.args.rows.now.items) (rows_alone c.args.more.now) (rows_alone c.loop-entry.rows.items) c.args.more.now c.loop-entry.entry-index c.loop-entry.invariant.merging c.loop-entry-test.true entry refl
    (λ s. subst (λ r. Fits r) (ap₂ plus (sym (row_at-stored zero_row c.args.rows.now.items s)) (sym (row_at-stored zero_row c.args.more.now s))) (c.requires.fits s)))

pub loop-entry-preserved : goal.loop-entry-preserved
loop-entry-preserved c =
    let i = c.loop-entry.invariant in
    let e = c.put.ensures in
    record {
      hinted = e.hinted;
      merging = merging_next (rows_alone c.args.rows.now.items) (rows_alone c.args.more.now) (rows_alone c.loop-entry.rows.items) c.args.more.now c.loop-entry.entry-index i.merging c.loop-entry-test.true
          (get_or c.args.more.now c.loop-entry.entry-index blank) refl (rows_alone c.put.new.rows.items) e.added (stored_no_zero zero_row c.put.new.rows.items);
      count = omega (arith, e.count, i.count);
      capacity = e.capacity ∙ i.capacity;
    }
