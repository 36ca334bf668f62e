use Rattle.std.proofs.Common.{◌≡◌, ℕ, suc, ◌-◌, ◌≤◌, ◌<◌, Bool, List, length, get_or, sym, subst, arith}
use Rattle.spp_site.specs.Marks.{is_marked}
use Rattle.spp_ways.specs.declared.log.LogRow.{LogRow}
use Rattle.spp_ways.specs.Logs.{IsLinked}
use Rattle.spp_ways.specs.Stretches.{outer_row, stretch_rows}
use Rattle.spp_ways.specs.Pruning.{AreLinksKept, AreKeptBehind}
use Rattle.spp_ways.proofs.Summing.{link}
use Rattle.spp_ways.proofs.Marking.{marked_from, row_at, rows_many}
use Rattle.spp_ways.proofs.open_ways.LoggedStretch.mark_rows.Goals as goal

pub loop-k-preserved-in-Continue-1 : goal.loop-k-preserved-in-Continue-1
loop-k-preserved-in-Continue-1 c =
    let items : List LogRow = c.args.self.now.log.rows.items in
    let rows : List LogRow = stretch_rows c.args.self.now in
    let k : ℕ = c.loop-k.k - 1 in
    let m : ℕ → Bool = is_marked c.loop-k.marks in
    let more : ℕ → Bool = is_marked c.mark_links.new.marks in
    let x : LogRow = c.index.result.now in
    let some : 1 ≤ k = omega (arith, c.loop-k-test.true) in
    let lt : k < length items = omega (arith, c.loop-k-test.true, c.loop-k.auto.k, c.len-k.ensures, c.args.self.now.log.rows.ok.0) in
    let row : get_or rows k outer_row ≡ x = row_at items k x some lt c.index.ensures in
    let many : length rows ≡ length items = rows_many items (omega (arith, lt)) in
    let linked : IsLinked k x = subst (IsLinked k) row (link rows c.requires.linked outer_row k (omega (arith, lt, many))) in
    let marked = c.in_ok-mark_links.ensures in
    let next : suc k ≡ c.loop-k.k = omega (arith, some) in
    record {
      kept = marked_from m more rows k marked.more (λ y l. marked.others k y linked l) (λ is. subst (AreLinksKept more) (sym row) marked.kept) (subst (AreKeptBehind m rows) (sym next) c.loop-k.invariant.kept);
      more = λ y h. marked.more y (c.loop-k.invariant.more y h);
    }
