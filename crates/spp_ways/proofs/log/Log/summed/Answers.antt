use Rattle.std.proofs.Common.{ℕ, reverse, sym, ap, subst, ◌∙◌}
use Rattle.spp_dag.specs.declared.row.Row.{Row}
use Rattle.spp_dag.specs.Shares.{plus}
use Rattle.spp_site.specs.Rows.{Fits}
use Rattle.spp_site.proofs.Rows.{zero-plus}
use Rattle.spp_ways.specs.Logs.{row_in}
use Rattle.spp_ways.proofs.Staying.{rows_none}
use Rattle.spp_ways.proofs.log.Log.summed.Goals as goal

pub returns-then-way-eq0 : goal.returns-then-way-eq0
returns-then-way-eq0 c key =
    c.none.ensures key ∙ sym (rows_none c.args.burdened (reverse c.args.self.now.rows.items) key)
    ∙ ap (λ (n : ℕ). row_in c.args.burdened c.args.self.now n key) (sym c.if-way-eq0.true)

pub add_up-requires-clause-fits : goal.add_up-requires-clause-fits
add_up-requires-clause-fits c key =
    let r : Row = row_in c.args.burdened c.args.self.now c.args.way key in
    subst Fits (sym (ap (λ x. plus x r) (c.into_sums-sums.ensures key) ∙ zero-plus r)) (c.requires.fits key)

pub into_list-requires : goal.into_list-requires
into_list-requires c key =
    let r : Row = row_in c.args.burdened c.args.self.now c.args.way key in
    subst Fits (sym (c.in_ok-add_up.ensures key ∙ ap (λ x. plus x r) (c.into_sums-sums.ensures key) ∙ zero-plus r)) (c.requires.fits key)

pub returns : goal.returns
returns c key =
    let r : Row = row_in c.args.burdened c.args.self.now c.args.way key in
    c.in_ok-list.ensures key ∙ c.in_ok-add_up.ensures key ∙ ap (λ x. plus x r) (c.into_sums-sums.ensures key) ∙ zero-plus r
