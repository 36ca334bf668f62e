use Rattle.std.proofs.Common.{◌≡◌, List, ap, sym, subst, ◌∙◌}
use Rattle.spp_dag.specs.Shares.{plus}
use Rattle.spp_site.specs.Rows.{Fits}
use Rattle.spp_site.specs.declared.narrow_row.KnownRow.{KnownRow}
use Rattle.spp_pass.specs.declared.owed.OwedCalls.{OwedCalls}
use Rattle.spp_site.specs.NarrowRows.{known_rows}
use Rattle.spp_site.specs.Profiles.{key_row}
use Rattle.spp_pass.specs.OwedRows.{owed_rows}
use Rattle.spp_pass.specs.AsideRows.{aside_row}
use Rattle.spp_pass.proofs.AsideRows.{in_table}
use Rattle.spp_site.proofs.Keys.{left_fits}
use Rattle.spp_pass.proofs.aside.RowsAside.added_up.Goals as goal

pub add_known-requires : goal.add_known-requires
add_known-requires c key =
    subst (λ (l : List KnownRow). Fits (plus (key_row c.args.self.table key) (known_rows l key))) (sym c.deref.ensures.value)
    (left_fits (plus (key_row c.args.self.table key) (known_rows c.args.self.known.items key)) (owed_rows c.args.self.owed.items key) (c.args.self.fits key))

pub add_all-requires : goal.add_all-requires
add_all-requires c key =
    let added = c.in_ok-add_known.ensures key ∙ ap (λ (l : List KnownRow). plus (key_row c.args.self.table key) (known_rows l key)) c.deref.ensures.value in
    subst (λ (l : List OwedCalls). Fits (plus (key_row c.add_known.new.self key) (owed_rows l key))) (sym c.deref-2.ensures.value)
    (subst (λ r. Fits (plus r (owed_rows c.args.self.owed.items key))) (sym added) (c.args.self.fits key))

pub invariant_of-result : goal.invariant_of-result
invariant_of-result c = record {
  fits = λ key.
      let added = c.in_ok-add_known.ensures key ∙ ap (λ (l : List KnownRow). plus (key_row c.args.self.table key) (known_rows l key)) c.deref.ensures.value in
      let all : key_row c.add_all.new.table key ≡ aside_row c.args.self key = c.in_ok-add_all.ensures key ∙ ap (λ (l : List OwedCalls). plus (key_row c.add_known.new.self key) (owed_rows l key)) c.deref-2.ensures.value
      ∙ ap (λ r. plus r (owed_rows c.args.self.owed.items key)) added in
      subst Fits (sym (in_table c.add_all.new.table c.clear.new.self.items c.new.result.items (aside_row c.args.self key) key c.clear.ensures.items c.new.ensures.items all)) (c.args.self.fits key);
}

pub returns-clause-rows : goal.returns-clause-rows
returns-clause-rows c key =
    let added = c.in_ok-add_known.ensures key ∙ ap (λ (l : List KnownRow). plus (key_row c.args.self.table key) (known_rows l key)) c.deref.ensures.value in
    let all : key_row c.add_all.new.table key ≡ aside_row c.args.self key = c.in_ok-add_all.ensures key ∙ ap (λ (l : List OwedCalls). plus (key_row c.add_known.new.self key) (owed_rows l key)) c.deref-2.ensures.value
    ∙ ap (λ r. plus r (owed_rows c.args.self.owed.items key)) added in
    in_table c.add_all.new.table c.clear.new.self.items c.new.result.items (aside_row c.args.self key) key c.clear.ensures.items c.new.ensures.items all
