use Rattle.std.proofs.Common.{◌≡◌, ◌<◌, ℕ, Option, Some, length, set, sym, ap, ap₂, subst, ◌∙◌, arith}
use Rattle.spp_dag.specs.declared.row.Row.{Row}
use Rattle.spp_dag.specs.Shares.{plus}
use Rattle.spp_site.specs.declared.narrow_table.NarrowTable.TheInside.{Inside}
use Rattle.spp_site.specs.Rows.{Fits}
use Rattle.spp_site.specs.Table.{Sums, row_at, IsAdded}
use Rattle.spp_site.specs.Profiles.{key_row}
use Rattle.spp_site.specs.NarrowRows.{narrow_row}
use Rattle.spp_site.specs.NarrowTables.{narrow_sums}
use Rattle.spp_site.proofs.Keys.{added_from, ok_more, err_more, on_err}
use Rattle.spp_site.proofs.NarrowRows.{found_at}
use Rattle.spp_site.proofs.NarrowTables.{same_narrow, put_narrow, wide_fits, wide_added}
use Rattle.spp_site.proofs.narrow_table.NarrowTable.add.Goals.{then-at-len+in_ok-reach, else-at-len}
use Rattle.spp_site.proofs.narrow_table.NarrowTable.add.Goals as goal

pub returns-in_err-reach-clause-stays : goal.returns-in_err-reach-clause-stays
returns-in_err-reach-clause-stays c =
    on_err _ (same_narrow c.self.inside.wide c.self.inside.rows.items c.reach.new.rows.items c.args.self.now c.self.view_is c.in_err-reach.ensures.same) c.from_residual.result

pub returns-in-Some-clause-added : goal.returns-in-Some-clause-added
returns-in-Some-clause-added c =
    let here : Inside = c.if-at-len.self-inside in
    let same : (key : Option ℕ) → key_row (narrow_sums here.wide here.rows.items) key ≡ key_row c.args.self.now key =
    elim c.if-at-len.branch [
      | then-at-len+in_ok-reach w ↦ λ key. ap (λ (i : Inside). key_row (narrow_sums i.wide i.rows.items) key) w.self-inside-is
          ∙ same_narrow c.self.inside.wide c.self.inside.rows.items w.reach.new.rows.items c.args.self.now c.self.view_is w.in_ok-reach.ensures.same key
      | else-at-len w ↦ λ key. ap (λ (i : Inside). key_row (narrow_sums i.wide i.rows.items) key) w.self-inside-is ∙ ap (λ (t : Sums). key_row t key) c.self.view_is
    ] in
    let lt : c.from-at.result < length here.rows.items =
    elim c.if-at-len.branch [
      | then-at-len+in_ok-reach w ↦ subst (λ (i : Inside). c.from-at.result < length i.rows.items) (sym w.self-inside-is) (let z : c.from-at.result < length w.reach.new.rows.items = omega (arith, w.in_ok-reach.ensures.room) in z)
      | else-at-len w ↦ subst (λ (i : Inside). c.from-at.result < length i.rows.items) (sym w.self-inside-is) (let z : c.from-at.result < length c.self.inside.rows.items = omega (arith, w.if-at-len.false, c.len.ensures, c.self.inside.rows.ok.0) in z)
    ] in
    let found = found_at here.rows.items c.from-at.result c.index.result.now lt c.index.ensures in
    let put : IsAdded (narrow_sums here.wide here.rows.items) (narrow_sums here.wide (set here.rows.items c.from-at.result c.in-Some.sum)) c.from-at.result (narrow_row c.args.row.now) =
    put_narrow here.wide here.rows.items c.from-at.result c.index.result.now c.in-Some.sum (narrow_row c.args.row.now) lt found c.in-Some.ensures in
    added_from c.args.self.now (narrow_sums here.wide here.rows.items) (narrow_sums here.wide (set here.rows.items c.from-at.result c.in-Some.sum)) c.args.site (narrow_row c.args.row.now) same
    (subst (λ (k : ℕ). IsAdded (narrow_sums here.wide here.rows.items) (narrow_sums here.wide (set here.rows.items c.from-at.result c.in-Some.sum)) k (narrow_row c.args.row.now)) c.from-at.ensures put)

pub add-requires-clause-fits : goal.add-requires-clause-fits
add-requires-clause-fits c =
    let here : Inside = c.if-at-len.self-inside in
    let same : (key : Option ℕ) → key_row (narrow_sums here.wide here.rows.items) key ≡ key_row c.args.self.now key =
    elim c.if-at-len.branch [
      | then-at-len+in_ok-reach w ↦ λ key. ap (λ (i : Inside). key_row (narrow_sums i.wide i.rows.items) key) w.self-inside-is
          ∙ same_narrow c.self.inside.wide c.self.inside.rows.items w.reach.new.rows.items c.args.self.now c.self.view_is w.in_ok-reach.ensures.same key
      | else-at-len w ↦ λ key. ap (λ (i : Inside). key_row (narrow_sums i.wide i.rows.items) key) w.self-inside-is ∙ ap (λ (t : Sums). key_row t key) c.self.view_is
    ] in
    subst Fits (ap₂ (λ (n : ℕ) (r : Row). plus (row_at here.wide n) r) (sym c.from.ensures) (sym c.widened.ensures))
    (wide_fits here.wide here.rows.items c.args.site (narrow_row c.args.row.now) (subst (λ r. Fits (plus r (narrow_row c.args.row.now))) (sym (same (Some c.args.site))) c.requires))

pub returns-clause-added : goal.returns-clause-added
returns-clause-added c =
    let here : Inside = c.if-at-len.self-inside in
    let same : (key : Option ℕ) → key_row (narrow_sums here.wide here.rows.items) key ≡ key_row c.args.self.now key =
    elim c.if-at-len.branch [
      | then-at-len+in_ok-reach w ↦ λ key. ap (λ (i : Inside). key_row (narrow_sums i.wide i.rows.items) key) w.self-inside-is
          ∙ same_narrow c.self.inside.wide c.self.inside.rows.items w.reach.new.rows.items c.args.self.now c.self.view_is w.in_ok-reach.ensures.same key
      | else-at-len w ↦ λ key. ap (λ (i : Inside). key_row (narrow_sums i.wide i.rows.items) key) w.self-inside-is ∙ ap (λ (t : Sums). key_row t key) c.self.view_is
    ] in
    ok_more _ _
    (λ added. added_from c.args.self.now (narrow_sums here.wide here.rows.items) (narrow_sums c.add.new.self here.rows.items) c.args.site (narrow_row c.args.row.now) same
    (wide_added here.wide c.add.new.self here.rows.items c.args.site (narrow_row c.args.row.now)
    (subst (λ (k : ℕ). IsAdded here.wide c.add.new.self k (narrow_row c.args.row.now)) c.from.ensures (subst (λ (r : Row). IsAdded here.wide c.add.new.self c.from.result r) c.widened.ensures added))))
    c.add.result c.add.ensures.added

pub returns-clause-stays : goal.returns-clause-stays
returns-clause-stays c =
    let here : Inside = c.if-at-len.self-inside in
    let same : (key : Option ℕ) → key_row (narrow_sums here.wide here.rows.items) key ≡ key_row c.args.self.now key =
    elim c.if-at-len.branch [
      | then-at-len+in_ok-reach w ↦ λ key. ap (λ (i : Inside). key_row (narrow_sums i.wide i.rows.items) key) w.self-inside-is
          ∙ same_narrow c.self.inside.wide c.self.inside.rows.items w.reach.new.rows.items c.args.self.now c.self.view_is w.in_ok-reach.ensures.same key
      | else-at-len w ↦ λ key. ap (λ (i : Inside). key_row (narrow_sums i.wide i.rows.items) key) w.self-inside-is ∙ ap (λ (t : Sums). key_row t key) c.self.view_is
    ] in
    err_more _ _ (λ stays key. ap (λ (t : Sums). key_row (narrow_sums t here.rows.items) key) stays ∙ same key) c.add.result c.add.ensures.stays
