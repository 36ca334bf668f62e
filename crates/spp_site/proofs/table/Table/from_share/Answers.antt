use Rattle.std.proofs.Common.{sym, ◌∙◌, ap, subst}
use Rattle.spp_dag.specs.Shares.{plus}
use Rattle.spp_site.specs.Rows.{Fits}
use Rattle.spp_site.specs.Table.{Sums, row_at}
use Rattle.spp_site.proofs.Rows.{zero-plus}
use Rattle.spp_site.proofs.Small.{empty_row}
use Rattle.spp_site.proofs.Stored.{same_tables}
use Rattle.spp_site.proofs.table.Table.from_share.Goals as goal

pub absorb-requires-clause-root_fits : goal.absorb-requires-clause-root_fits
absorb-requires-clause-root_fits c =
    subst Fits (sym (ap (λ (t : Sums). plus t.root c.args.share.now.root) c.new-table.ensures ∙ zero-plus c.args.share.now.root)) c.requires.root_fits

pub absorb-requires-clause-sites_fit : goal.absorb-requires-clause-sites_fit
absorb-requires-clause-sites_fit c = λ s.
    subst Fits (sym (ap (λ t. plus (row_at t s) (row_at c.args.share.now s)) c.new-table.ensures ∙ ap (λ r. plus r (row_at c.args.share.now s)) (empty_row s) ∙ zero-plus (row_at c.args.share.now s)))
    (c.requires.sites_fit s)

pub returns : goal.returns
returns c =
    let sums = c.in_ok-absorb.ensures.sums in
    same_tables c.absorb.new.self c.args.share.now c.in_ok-absorb.ensures.no_zero_row c.no_row_is_zero.ensures
    (sums.root ∙ ap (λ (t : Sums). plus t.root c.args.share.now.root) c.new-table.ensures ∙ zero-plus c.args.share.now.root)
    (λ s. sums.sites s ∙ ap (λ t. plus (row_at t s) (row_at c.args.share.now s)) c.new-table.ensures ∙ ap (λ r. plus r (row_at c.args.share.now s)) (empty_row s) ∙ zero-plus (row_at c.args.share.now s))
