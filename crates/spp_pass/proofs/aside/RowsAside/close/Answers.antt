use Rattle.std.proofs.Common.{ap, sym, subst, ◌∙◌}
use Rattle.spp_dag.specs.Shares.{plus}
use Rattle.spp_site.specs.Rows.{Fits}
use Rattle.spp_site.specs.NarrowRows.{at_site}
use Rattle.spp_pass.specs.AsideRows.{aside_row}
use Rattle.spp_site.proofs.Keys.{ok_more}
use Rattle.spp_pass.proofs.aside.RowsAside.close.Goals as goal

pub put-requires : goal.put-requires
put-requires c = record { fits = λ key. subst (λ r. Fits (plus (aside_row c.args.self.now key) (at_site c.args.site r key))) (sym c.in-Some.ensures) (c.requires.fits key) }

pub put_row-requires-clause-fits : goal.put_row-requires-clause-fits
put_row-requires-clause-fits c = λ key. subst (λ r. Fits (plus (aside_row c.args.self.now key) (at_site c.args.site r key))) (sym c.row.ensures) (c.requires.fits key)

pub returns-in-Some-clause-kept : goal.returns-in-Some-clause-kept
returns-in-Some-clause-kept c = ok_more _ _ (λ told key. told key ∙ ap (λ r. plus (aside_row c.args.self.now key) (at_site c.args.site r key)) c.in-Some.ensures) c.put.result c.put.ensures.kept

pub returns-in-None-clause-kept : goal.returns-in-None-clause-kept
returns-in-None-clause-kept c = ok_more _ _ (λ told key. told key ∙ ap (λ r. plus (aside_row c.args.self.now key) (at_site c.args.site r key)) c.row.ensures) c.put_row.result c.put_row.ensures.kept
