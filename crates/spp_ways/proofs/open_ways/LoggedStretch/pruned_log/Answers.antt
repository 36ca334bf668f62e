use Rattle.std.proofs.Common.{◌≡◌, ℕ, ◌≤◌, ◌<◌, Bool, List, length, get_or, sym, subst, ap, ◌∙◌, arith}
use Rattle.spp_ways.specs.declared.log.Log.{Log}
use Rattle.spp_ways.specs.declared.log.LogRow.{LogRow}
use Rattle.spp_ways.specs.Logs.{IsLinked}
use Rattle.spp_ways.specs.Stretches.{outer_row, stretch_rows}
use Rattle.spp_ways.specs.Pruning.{marks_of}
use Rattle.spp_ways.proofs.Summing.{link}
use Rattle.spp_ways.proofs.Marking.{row_at, next_kept, next_left, rows_many}
use Rattle.spp_ways.proofs.open_ways.LoggedStretch.pruned_log.Goals.{then-has+in_ok-put_pruned, else-has}
use Rattle.spp_ways.proofs.open_ways.LoggedStretch.pruned_log.Goals as goal

pub put_pruned-requires-clause-linked : goal.put_pruned-requires-clause-linked
put_pruned-requires-clause-linked c =
    let items : List LogRow = c.args.self.now.log.rows.items in
    let rows : List LogRow = stretch_rows c.args.self.now in
    let k : ℕ = c.loop-k.k in
    let x : LogRow = c.index.result.now in
    let some : 1 ≤ k = c.loop-k.auto.k in
    let lt : k < length items = omega (arith, c.len-k-end.ensures, c.loop-k-test.true, c.args.self.now.log.rows.ok.0) in
    let row : get_or rows k outer_row ≡ x = row_at items k x some lt c.index.ensures in
    let many : length rows ≡ length items = rows_many items (omega (arith, lt)) in
    let linked : IsLinked k x = subst (IsLinked k) row (link rows c.requires.linked outer_row k (omega (arith, lt, many))) in
    (k, linked, omega (arith, lt, c.requires.many))

pub loop-k-preserved : goal.loop-k-preserved
loop-k-preserved c =
    let items : List LogRow = c.args.self.now.log.rows.items in
    let rows : List LogRow = stretch_rows c.args.self.now in
    let k : ℕ = c.loop-k.k in
    let m : ℕ → Bool = marks_of c.args.kept.now in
    let some : 1 ≤ k = c.loop-k.auto.k in
    let lt : k < length items = omega (arith, c.len-k-end.ensures, c.loop-k-test.true, c.args.self.now.log.rows.ok.0) in
    elim c.if-has.branch [
      | then-has+in_ok-put_pruned w ↦
          ap (λ (log : Log). log.rows.items) w.log-is ∙ w.in_ok-put_pruned.ensures
          ∙ next_kept m rows k w.index.result.now c.loop-k.log.rows.items (row_at items k w.index.result.now some lt w.index.ensures) (sym c.has.ensures ∙ w.if-has.true) c.loop-k.invariant
      | else-has w ↦ ap (λ (log : Log). log.rows.items) w.log-is ∙ next_left m rows k c.loop-k.log.rows.items (sym c.has.ensures ∙ w.if-has.false) c.loop-k.invariant
    ]
