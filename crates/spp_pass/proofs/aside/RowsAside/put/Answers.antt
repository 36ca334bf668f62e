use Rattle.std.proofs.Common.{ℕ, List, Option, is_ok, refl, sym, subst}
use Rattle.spp_dag.specs.Shares.{plus}
use Rattle.spp_site.specs.Rows.{Fits}
use Rattle.spp_site.specs.declared.narrow_row.KnownRow.{KnownRow}
use Rattle.spp_site.specs.NarrowRows.{known_rows}
use Rattle.spp_site.specs.Profiles.{key_row}
use Rattle.spp_pass.specs.OwedRows.{owed_rows}
use Rattle.spp_pass.proofs.AsideRows.{either_known, more_known}
use Rattle.spp_pass.proofs.aside.RowsAside.put.Goals as goal

pub invariant_of-self : goal.invariant_of-self
invariant_of-self c =
    let ks : List KnownRow = c.args.self.now.known.items in
    let one : KnownRow = record { row = c.args.row; site = c.args.site } in
    either_known (λ (l : List KnownRow). record { fits : (key : Option ℕ) → Fits (plus (plus (key_row c.args.self.now.table key) (known_rows l key)) (owed_rows c.args.self.now.owed.items key)) }) (is_ok c.push.result) ks c.push.new.self.items one c.push.ensures.items
    (record { fits = λ key. subst Fits (sym (more_known (key_row c.args.self.now.table key) (owed_rows c.args.self.now.owed.items key) ks _ one refl key)) (c.requires.fits key) })
    (record { fits = c.args.self.now.fits })

pub returns-clause-kept : goal.returns-clause-kept
returns-clause-kept c key =
    more_known (key_row c.args.self.now.table key) (owed_rows c.args.self.now.owed.items key) c.args.self.now.known.items c.push.new.self.items (record { row = c.args.row; site = c.args.site }) c.in_ok-push.ensures.items key
