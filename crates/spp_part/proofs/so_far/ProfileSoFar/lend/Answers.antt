use Rattle.std.proofs.Common.{false, ap, sym, ◌∙◌}
use Rattle.spp_dag.specs.declared.row.Row.{Row}
use Rattle.spp_dag.specs.Shares.{plus}
use Rattle.spp_site.proofs.Rows.{zero-plus}
use Rattle.spp_pass.specs.declared.aside.RowsAside.{RowsAside}
use Rattle.spp_pass.specs.AsideRows.{aside_row}
use Rattle.spp_part.proofs.Standing.{same_rest}
use Rattle.spp_part.proofs.so_far.ProfileSoFar.lend.Goals as goal

pub returns-clause-so_far : goal.returns-clause-so_far
returns-clause-so_far c lent trace burdens i so = (
  same_rest trace burdens i false c.args.self.now.counting c.args.self.now.ways so.0 _
      (λ key. ap (λ (a : RowsAside). plus (aside_row a key) (lent key)) (sym c.replace.ensures.value)
      ∙ sym (zero-plus (plus (aside_row c.replace.result key) (lent key)))
      ∙ ap (λ (r : Row). plus r (plus (aside_row c.replace.result key) (lent key))) (sym (c.new.ensures key))
      ∙ ap (λ (a : RowsAside). plus (aside_row a key) (plus (aside_row c.replace.result key) (lent key))) (sym c.replace.ensures.after)),
  so.1,
)
