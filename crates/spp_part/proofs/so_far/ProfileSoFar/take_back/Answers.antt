use Rattle.std.proofs.Common.{false, ap, sym, subst, ◌∙◌}
use Rattle.spp_dag.specs.Shares.{plus}
use Rattle.spp_site.specs.Rows.{Fits}
use Rattle.spp_site.specs.Profiles.{key_row}
use Rattle.spp_pass.specs.declared.aside.RowsAside.{RowsAside}
use Rattle.spp_pass.specs.AsideRows.{aside_row}
use Rattle.spp_site.proofs.Keys.{first_two_fit}
use Rattle.spp_part.proofs.Standing.{all_fit, rest_added}
use Rattle.spp_part.proofs.so_far.ProfileSoFar.take_back.Goals as goal

pub add_aside-requires : goal.add_aside-requires
add_aside-requires c key =
    let q = c.requires in
    subst (λ (a : RowsAside). Fits (plus (key_row c.args.self.now.counting.table key) (aside_row a key))) (sym c.replace-before.ensures.value)
    (first_two_fit (key_row c.args.self.now.counting.table key) (aside_row c.args.self.now.aside key) (plus (aside_row c.args.rows key) (q.0 key))
    (all_fit q.1 q.2 q.3 false c.args.self.now.counting c.args.self.now.ways q.4.0 key))

pub returns : goal.returns
returns c lent trace burdens i so = (
  rest_added trace burdens i false c.args.self.now.counting c.args.self.now.ways so.0 c.replace-before.result _
      (λ key. ap (λ (a : RowsAside). plus (aside_row a key) (plus (aside_row c.args.rows key) (lent key))) (sym c.replace-before.ensures.value)
      ∙ ap (λ (a : RowsAside). plus (aside_row c.replace-before.result key) (plus (aside_row a key) (lent key))) (sym c.replace-before.ensures.after))
      c.add_aside.new.self c.in_ok-add_aside.ensures,
  so.1,
)
