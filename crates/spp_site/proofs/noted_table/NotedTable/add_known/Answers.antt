use Rattle.std.proofs.Common.{◌+◌, ℕ, List, drop, get_or, Option, Some, subst}
use Rattle.spp_dag.specs.declared.row.Row.{Row}
use Rattle.spp_dag.specs.Shares.{plus}
use Rattle.spp_site.specs.declared.narrow_row.KnownRow.{KnownRow}
use Rattle.spp_site.specs.Rows.{Fits}
use Rattle.spp_site.specs.Table.{row_at}
use Rattle.spp_site.specs.Profiles.{key_row}
use Rattle.spp_site.specs.NarrowRows.{narrow_row, known_rows}
use Rattle.spp_site.proofs.Keys.{own_row, added_key}
use Rattle.spp_site.proofs.NarrowRows.{no_known, known_at, known_fits, known_added, known_none}
use Rattle.spp_site.proofs.noted_table.NotedTable.add_known.Goals as goal

pub add-requires : goal.add-requires
add-requires c =
    let ks : List KnownRow = c.args.known.now in
    let k : ℕ = c.loop-one.one-index in
    let x : KnownRow = get_or ks k no_known in
    let whole : Option ℕ → Row = λ key. plus (key_row c.args.self.now key) (known_rows ks key) in
    subst (λ r. Fits (plus (row_at c.loop-one.self x.site) r)) (own_row x.site (narrow_row x.row))
    (known_fits (key_row c.loop-one.self) x (drop (k + 1) ks) whole (known_at (key_row c.loop-one.self) ks k no_known whole c.loop-one-test.true c.loop-one.invariant) c.requires (Some x.site))

pub loop-one-preserved : goal.loop-one-preserved
loop-one-preserved c =
    let ks : List KnownRow = c.args.known.now in
    let k : ℕ = c.loop-one.one-index in
    let x : KnownRow = get_or ks k no_known in
    let whole : Option ℕ → Row = λ key. plus (key_row c.args.self.now key) (known_rows ks key) in
    known_added (key_row c.loop-one.self) (key_row c.add.new.self) x (drop (k + 1) ks) whole
    (known_at (key_row c.loop-one.self) ks k no_known whole c.loop-one-test.true c.loop-one.invariant)
    (added_key c.loop-one.self c.add.new.self x.site (narrow_row x.row) c.in_ok-add.ensures)

pub returns : goal.returns
returns c = known_none (key_row c.loop-one.self) c.args.known.now c.loop-one.one-index (λ key. plus (key_row c.args.self.now key) (known_rows c.args.known.now key)) c.loop-one-test.false c.loop-one.invariant
