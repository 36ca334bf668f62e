use Rattle.std.proofs.Common.{ℕ, List, Option, get_or, ap, sym, ◌∙◌}
use Rattle.std.proofs.lemmas.Bool.{not-false}
use Rattle.spp_dag.specs.declared.row.Row.{Row}
use Rattle.spp_site.specs.declared.narrow_row.NarrowRow.{NarrowRow}
use Rattle.spp_site.specs.Table.{Sums}
use Rattle.spp_site.specs.Profiles.{key_row}
use Rattle.spp_site.specs.NarrowRows.{zero_narrow}
use Rattle.spp_site.proofs.NarrowRows.{is_none, site_fits, next_up_to, skip_up_to}
use Rattle.spp_site.proofs.narrow_table.add_widened.Goals.{then-ne+in_ok-add, else-ne}
use Rattle.spp_site.proofs.narrow_table.add_widened.Goals as goal

pub add-requires-clause-fits : goal.add-requires-clause-fits
add-requires-clause-fits c = site_fits (key_row c.args.table.now) c.loop-place.table c.args.rows.now c.loop-place.place c.widened.result c.loop-place.invariant c.widened.ensures c.requires.fits

pub loop-place-preserved : goal.loop-place-preserved
loop-place-preserved c =
    let rows : List NarrowRow = c.args.rows.now in
    let k : ℕ = c.loop-place.place in
    let base : Option ℕ → Row = key_row c.args.table.now in
    elim c.if-ne.branch [
      | then-ne+in_ok-add w ↦ λ key.
          ap (λ (t : Sums). key_row t key) w.table-is
          ∙ next_up_to base c.loop-place.table w.add.new.self rows k w.widened.result c.loop-place-test.true c.loop-place.invariant w.widened.ensures w.in_ok-add.ensures.added key
      | else-ne w ↦ λ key.
          ap (λ (t : Sums). key_row t key) w.table-is
          ∙ skip_up_to base c.loop-place.table rows k c.loop-place-test.true c.loop-place.invariant (is_none (get_or rows k zero_narrow) (not-false _ (sym (w.if-ne.ensures)))) key
    ]
