use Rattle.std.proofs.Common.{ℕ, Option, Some, ap, sym, subst, ◌∙◌}
use Rattle.spp_dag.specs.Shares.{plus}
use Rattle.spp_site.specs.Rows.{Fits}
use Rattle.spp_site.specs.Table.{row_at}
use Rattle.spp_site.specs.NarrowRows.{at_site, known_rows}
use Rattle.spp_site.specs.Profiles.{key_row}
use Rattle.spp_pass.specs.OwedRows.{owed_rows}
use Rattle.spp_pass.specs.AsideRows.{aside_row}
use Rattle.spp_pass.proofs.AsideRows.{either, more_table, table_fits}
use Rattle.spp_site.proofs.Keys.{own_row, added_key, ok_more}
use Rattle.spp_pass.proofs.aside.RowsAside.put_row.Goals as goal

pub put-requires : goal.put-requires
put-requires c = record { fits = λ key. subst (λ r. Fits (plus (aside_row c.args.self.now key) (at_site c.args.site r key))) (sym c.in-Some.ensures) (c.requires.fits key) }

pub add_row-requires-clause-fits : goal.add_row-requires-clause-fits
add_row-requires-clause-fits c =
    let key : Option ℕ = Some c.args.site in
    subst (λ r. Fits (plus (row_at c.args.self.now.table c.args.site) r)) (own_row c.args.site c.args.row.now)
    (table_fits (key_row c.args.self.now.table key) (known_rows c.args.self.now.known.items key) (owed_rows c.args.self.now.owed.items key) (at_site c.args.site c.args.row.now key) (c.requires.fits key))

pub invariant_of-self : goal.invariant_of-self
invariant_of-self c =
    either _ _ _ c.add_row.result c.add_row.ensures.added c.add_row.ensures.stays
    (λ added. record { fits = λ key. subst Fits (sym (more_table (key_row c.args.self.now.table key) (key_row c.add_row.new.self key) (known_rows c.args.self.now.known.items key) (owed_rows c.args.self.now.owed.items key) (at_site c.args.site c.args.row.now key) (added_key c.args.self.now.table c.add_row.new.self c.args.site c.args.row.now added key))) (c.requires.fits key) })
    (λ stays. record { fits = λ key. subst (λ r. Fits (plus (plus r (known_rows c.args.self.now.known.items key)) (owed_rows c.args.self.now.owed.items key))) (sym (stays key)) (c.args.self.now.fits key) })

pub returns-in-Some-clause-kept : goal.returns-in-Some-clause-kept
returns-in-Some-clause-kept c = ok_more _ _ (λ told key. told key ∙ ap (λ r. plus (aside_row c.args.self.now key) (at_site c.args.site r key)) c.in-Some.ensures) c.put.result c.put.ensures.kept

pub returns-in-None-clause-kept : goal.returns-in-None-clause-kept
returns-in-None-clause-kept c = ok_more _ _
    (λ added key. more_table (key_row c.args.self.now.table key) (key_row c.add_row.new.self key) (known_rows c.args.self.now.known.items key) (owed_rows c.args.self.now.owed.items key) (at_site c.args.site c.args.row.now key) (added_key c.args.self.now.table c.add_row.new.self c.args.site c.args.row.now added key))
    c.add_row.result c.add_row.ensures.added
