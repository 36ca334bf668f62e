use Rattle.std.proofs.Common.{◌≡◌, ◌<◌, ℕ, List, Option, Some, length, set, sym, ap₂, subst}
use Rattle.spp_dag.specs.declared.row.Row.{Row}
use Rattle.spp_dag.specs.Shares.{plus}
use Rattle.spp_site.specs.declared.narrow_row.NarrowRow.{NarrowRow}
use Rattle.spp_site.specs.Rows.{Fits}
use Rattle.spp_site.specs.Table.{Sums, row_at, IsAdded}
use Rattle.spp_site.specs.Profiles.{key_row}
use Rattle.spp_site.specs.NarrowRows.{narrow_row, AreNoted}
use Rattle.spp_site.specs.NarrowTables.{narrow_sums}
use Rattle.spp_site.proofs.Keys.{added_from, ok_more}
use Rattle.spp_site.proofs.NarrowRows.{found_at}
use Rattle.spp_site.proofs.NarrowTables.{same_narrow, put_narrow, wide_fits, wide_added}
use Rattle.spp_site.proofs.Noted.{noted_same}
use Rattle.spp_site.proofs.noted_table.NotedTable.add.Goals as goal

pub invariant_of-self : goal.invariant_of-self
invariant_of-self c =
    (c.reach_site.ensures.small, noted_same c.self.inside.noted.items c.self.inside.rows.items c.reach_site.new.rows.items c.reach_site.ensures.same c.self.invariant.1)

pub note-requires-clause-noted : goal.note-requires-clause-noted
note-requires-clause-noted c =
    subst (λ (l : List NarrowRow). AreNoted c.self.inside.noted.items l) (sym c.deref.ensures.value)
    (noted_same c.self.inside.noted.items c.self.inside.rows.items c.reach_site.new.rows.items c.reach_site.ensures.same c.self.invariant.1)

pub returns-in-Some : goal.returns-in-Some
returns-in-Some c =
    let wide : Sums = c.self.inside.wide in
    let rows : List NarrowRow = c.reach_site.new.rows.items in
    let more : Row = narrow_row c.args.row.now in
    let same : (key : Option ℕ) → key_row (narrow_sums wide rows) key ≡ key_row c.args.self.now key =
    same_narrow wide c.self.inside.rows.items rows c.args.self.now c.self.view_is c.reach_site.ensures.same in
    let lt : c.from-at.result < length rows = subst (λ (k : ℕ). k < length rows) (sym c.from-at.ensures) c.in_ok-reach_site.ensures.room in
    let found = found_at rows c.from-at.result c.index.result.now lt c.index.ensures in
    let put : IsAdded (narrow_sums wide rows) (narrow_sums wide (set rows c.from-at.result c.in-Some.sum)) c.from-at.result more =
    put_narrow wide rows c.from-at.result c.index.result.now c.in-Some.sum more lt found c.in-Some.ensures in
    added_from c.args.self.now (narrow_sums wide rows) (narrow_sums wide (set rows c.from-at.result c.in-Some.sum)) c.args.site more same
    (subst (λ (k : ℕ). IsAdded (narrow_sums wide rows) (narrow_sums wide (set rows c.from-at.result c.in-Some.sum)) k more) c.from-at.ensures put)

pub add-requires-clause-fits : goal.add-requires-clause-fits
add-requires-clause-fits c =
    let wide : Sums = c.self.inside.wide in
    let rows : List NarrowRow = c.reach_site.new.rows.items in
    let more : Row = narrow_row c.args.row.now in
    let same : (key : Option ℕ) → key_row (narrow_sums wide rows) key ≡ key_row c.args.self.now key =
    same_narrow wide c.self.inside.rows.items rows c.args.self.now c.self.view_is c.reach_site.ensures.same in
    subst Fits (ap₂ (λ (n : ℕ) (r : Row). plus (row_at wide n) r) (sym c.from.ensures) (sym c.widened.ensures))
    (wide_fits wide rows c.args.site more (subst (λ r. Fits (plus r more)) (sym (same (Some c.args.site))) c.requires))

pub returns : goal.returns
returns c =
    let wide : Sums = c.self.inside.wide in
    let rows : List NarrowRow = c.reach_site.new.rows.items in
    let more : Row = narrow_row c.args.row.now in
    let same : (key : Option ℕ) → key_row (narrow_sums wide rows) key ≡ key_row c.args.self.now key =
    same_narrow wide c.self.inside.rows.items rows c.args.self.now c.self.view_is c.reach_site.ensures.same in
    ok_more _ _
    (λ added. added_from c.args.self.now (narrow_sums wide rows) (narrow_sums c.add.new.self rows) c.args.site more same
    (wide_added wide c.add.new.self rows c.args.site more
    (subst (λ (k : ℕ). IsAdded wide c.add.new.self k more) c.from.ensures (subst (λ (r : Row). IsAdded wide c.add.new.self c.from.result r) c.widened.ensures added))))
    c.add.result c.add.ensures.added
