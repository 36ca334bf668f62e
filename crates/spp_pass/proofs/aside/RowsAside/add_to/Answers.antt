use Rattle.std.proofs.Common.{◌≡◌, ◌+◌, ◌≤◌, ℕ, List, length, drop, get_or, Option, Some, ap, ap₂, sym, subst, ◌∙◌}
use Rattle.spp_dag.specs.declared.row.Row.{Row}
use Rattle.spp_dag.specs.Shares.{plus}
use Rattle.spp_site.specs.Rows.{Fits}
use Rattle.spp_site.specs.Table.{row_at}
use Rattle.spp_site.specs.Profiles.{key_row}
use Rattle.spp_site.proofs.Rows.{first_fits}
use Rattle.spp_site.specs.declared.narrow_row.KnownRow.{KnownRow}
use Rattle.spp_pass.specs.declared.owed.OwedCalls.{OwedCalls}
use Rattle.spp_site.specs.NarrowRows.{at_site, narrow_row, known_rows}
use Rattle.spp_pass.specs.OwedRows.{owed_rows}
use Rattle.spp_pass.specs.AsideRows.{aside_row}
use Rattle.spp_pass.proofs.AsideRows.{but_known, all_but_known}
use Rattle.spp_site.proofs.Keys.{own_row, added_key}
use Rattle.spp_site.proofs.NarrowRows.{no_known, LacksKnown, known_at, known_fits, known_added, known_none}
use Rattle.spp_pass.proofs.aside.RowsAside.add_to.Goals as goal

pub add_all-requires : goal.add_all-requires
add_all-requires c key =
    subst (λ (l : List OwedCalls). Fits (plus (key_row c.args.self.table key) (owed_rows l key))) (sym c.deref.ensures.value)
    (first_fits (key_row c.args.self.table key) (known_rows c.args.self.known.items key) (owed_rows c.args.self.owed.items key) (c.args.self.fits key))

pub add_to-requires : goal.add_to-requires
add_to-requires c key =
    let all : key_row c.add_all.new.table key ≡ plus (key_row c.args.self.table key) (owed_rows c.args.self.owed.items key) =
    c.in_ok-add_all.ensures key ∙ ap (λ (l : List OwedCalls). plus (key_row c.args.self.table key) (owed_rows l key)) c.deref.ensures.value in
    subst (λ r. Fits (plus (key_row c.args.table.now key) r)) (sym all)
    (but_known (key_row c.args.table.now key) (key_row c.args.self.table key) (known_rows c.args.self.known.items key) (owed_rows c.args.self.owed.items key) (c.requires key))

pub loop-one-init : goal.loop-one-init
loop-one-init c key =
    let all : key_row c.add_all.new.table key ≡ plus (key_row c.args.self.table key) (owed_rows c.args.self.owed.items key) =
    c.in_ok-add_all.ensures key ∙ ap (λ (l : List OwedCalls). plus (key_row c.args.self.table key) (owed_rows l key)) c.deref.ensures.value in
    ap (λ r. plus r (known_rows c.args.self.known.items key)) (c.in_ok-add_to.ensures key ∙ ap (plus (key_row c.args.table.now key)) all)
    ∙ all_but_known (key_row c.args.table.now key) (key_row c.args.self.table key) (known_rows c.args.self.known.items key) (owed_rows c.args.self.owed.items key)

pub add-requires-clause-fits : goal.add-requires-clause-fits
add-requires-clause-fits c =
    let ks : List KnownRow = c.deref-one-items.result.now in
    let k : ℕ = c.loop-one.one-index in
    let x : KnownRow = get_or ks k no_known in
    let whole : Option ℕ → Row = λ key. plus (key_row c.args.table.now key) (aside_row c.args.self key) in
    let lacks = known_at (key_row c.loop-one.table) ks k no_known whole c.loop-one-test.true
    (subst (λ (l : List KnownRow). LacksKnown (key_row c.loop-one.table) (drop k l) whole) (sym c.deref-one-items.ensures.value) c.loop-one.invariant) in
    subst Fits (ap₂ (λ (n : ℕ) (r : Row). plus (row_at c.loop-one.table n) r) (sym c.from.ensures) (sym c.widened.ensures))
    (subst (λ r. Fits (plus (row_at c.loop-one.table x.site) r)) (own_row x.site (narrow_row x.row)) (known_fits (key_row c.loop-one.table) x (drop (k + 1) ks) whole lacks c.requires (Some x.site)))

pub loop-one-preserved : goal.loop-one-preserved
loop-one-preserved c =
    let ks : List KnownRow = c.deref-one-items.result.now in
    let k : ℕ = c.loop-one.one-index in
    let x : KnownRow = get_or ks k no_known in
    let whole : Option ℕ → Row = λ key. plus (key_row c.args.table.now key) (aside_row c.args.self key) in
    let lacks = known_at (key_row c.loop-one.table) ks k no_known whole c.loop-one-test.true
    (subst (λ (l : List KnownRow). LacksKnown (key_row c.loop-one.table) (drop k l) whole) (sym c.deref-one-items.ensures.value) c.loop-one.invariant) in
    subst (λ (l : List KnownRow). LacksKnown (key_row c.add.new.self) (drop (k + 1) l) whole) c.deref-one-items.ensures.value
    (known_added (key_row c.loop-one.table) (key_row c.add.new.self) x (drop (k + 1) ks) whole lacks
    (λ key. added_key c.loop-one.table c.add.new.self c.from.result c.widened.result c.in_ok-add.ensures.added key
    ∙ ap₂ (λ (n : ℕ) (r : Row). plus (key_row c.loop-one.table key) (at_site n r key)) c.from.ensures c.widened.ensures))

pub returns : goal.returns
returns c =
    known_none (key_row c.loop-one.table) c.args.self.known.items c.loop-one.one-index (λ key. plus (key_row c.args.table.now key) (aside_row c.args.self key))
    (subst (λ (l : List KnownRow). length l ≤ c.loop-one.one-index) c.deref-one-items.ensures.value c.loop-one-test.false) c.loop-one.invariant
