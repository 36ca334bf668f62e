use Rattle.std.proofs.Common.{◌≡◌, ◌∙◌, ◌∷◌, ◌++◌, List, Bool, true, false, None, Some, map, filter, ap}
use Rattle.std.specs.Prelude.{ℕ, is_none, not}
use Rattle.std.specs.String.{string_bytes}
use Rattle.spp_report.specs.declared.run.Cells.{Cells}
use Rattle.spp_report.specs.Comparison.{cells_under, row_after}
use Rattle.spp_report.specs.Runs.{told, told_row}
use Rattle.spp_report.proofs.Comparisons.{first_kept, first_left, named_cells, none_under, row_more}
use Rattle.spp_report.proofs.comparison.push_after.Goals as goal

pub loop-name-preserved : goal.loop-name-preserved
loop-name-preserved g c =
    let before = c.args.before.now in
    let name = string_bytes c.in-Some.name.now in
    let new : List ℕ × Cells → Bool = λ site. is_none (cells_under site.0 (told before)) in
    let none : is_none (cells_under name (told before)) ≡ true =
    none_under name c.as_str.result.now before.sites.entries c.contains_key.result c.as_str.ensures.value c.contains_key.ensures ∙ ap not c.if-contains_key.false in
    let rest : filter new (map named_cells c.loop-name.name-iterator) ≡ (name, c.in-Some.cells.now) ∷ filter new (map named_cells c.next.new.self) =
    first_kept new (map named_cells c.loop-name.name-iterator) (map named_cells c.next.new.self) (name, c.in-Some.cells.now) (ap (map named_cells) c.in-Some.ensures.steps) none in
    row_more c.loop-name.rows.items c.push.new.self.items _ (row_after (name, c.in-Some.cells.now)) (map row_after (filter new (map named_cells c.loop-name.name-iterator)))
    (map row_after (filter new (map named_cells c.next.new.self)))
    (map told_row c.args.rows.now.items ++ map row_after (filter new (map named_cells c.args.after.now.sites.entries)))
    c.loop-name.invariant (ap (map row_after) rest) c.in_ok-push.ensures.items
    (λ j. record { name = c.as_str-in-loop-name.ensures.value j; before = None; after = Some c.in-Some.cells.now })

pub loop-name-preserved-then-contains_key : goal.loop-name-preserved-then-contains_key
loop-name-preserved-then-contains_key g c =
    let before = c.args.before.now in
    let name = string_bytes c.in-Some.name.now in
    let new : List ℕ × Cells → Bool = λ site. is_none (cells_under site.0 (told before)) in
    let found : is_none (cells_under name (told before)) ≡ false =
    none_under name c.as_str.result.now before.sites.entries c.contains_key.result c.as_str.ensures.value c.contains_key.ensures ∙ ap not c.if-contains_key.true in
    let rest : filter new (map named_cells c.loop-name.name-iterator) ≡ filter new (map named_cells c.next.new.self) =
    first_left new (map named_cells c.loop-name.name-iterator) (map named_cells c.next.new.self) (name, c.in-Some.cells.now) (ap (map named_cells) c.in-Some.ensures.steps) found in
    rw rest at c.loop-name.invariant
