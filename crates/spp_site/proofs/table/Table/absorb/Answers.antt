use Rattle.std.proofs.Common.{ap, subst, ◌∙◌}
use Rattle.spp_dag.specs.Shares.{plus}
use Rattle.spp_site.specs.Rows.{Fits}
use Rattle.spp_site.specs.Table.{row_at}
use Rattle.spp_site.proofs.Stored.{row_at-stored}
use Rattle.spp_site.proofs.table.Table.absorb.Goals as goal

pub add_all-requires-clause-sites_fit : goal.add_all-requires-clause-sites_fit
add_all-requires-clause-sites_fit c = λ s.
    subst (λ r. Fits (plus (row_at c.args.self.now s) r)) (ap (λ t. row_at t s) c.rows.ensures.same ∙ row_at-stored c.args.share.now.root c.rows.result.now s) (c.requires.sites_fit s)
