use Rattle.std.proofs.Common.{◌≡◌, ℕ, ◌*◌, ◌≤◌, Bool, true, false, cond, Option, Some, sym, ap, subst, ◌∙◌, arith}
use Rattle.spp_dag.specs.declared.row.Row.{Row}
use Rattle.spp_dag.specs.Shares.{zero_row}
use Rattle.spp_dag.specs.Steps.{same_key}
use Rattle.spp_site.specs.declared.closed_frame.ClosedFrame.{ClosedFrame}
use Rattle.spp_site.specs.Rows.{Fits, frame_row}
use Rattle.spp_site.specs.Table.{Sums, empty}
use Rattle.spp_site.specs.Profiles.{key_row}
use Rattle.spp_site.specs.NarrowRows.{narrow_row}
use Rattle.spp_site.proofs.Keys.{empty_key, added_key}
use Rattle.spp_site.proofs.Rows.{plus-zero}
use Rattle.spp_site.proofs.RowSums.{Low, low_zero, low_plus, low_fits}
use Rattle.profile_tests.proofs.site.narrow_rows_add_up_by_site.Goals as goal

-- what a small frame adds
frame_low : (b : Bool) (f : ClosedFrame) → f.local ≤ 10 → f.work ≤ 4951760157141521099596496896 → f.span ≤ 4951760157141521099596496896 → Low 1 10 (cond b (frame_row f) zero_row)
frame_low true f l w s =
    let w1 : f.work ≤ 4951760157141521099596496896 * 1 = omega arith in
    let s1 : f.span ≤ 4951760157141521099596496896 * 1 = omega arith in
    record {
      count = omega arith;
      local = l;
      site_count = most f.top_site 1 1 (omega arith);
      site_work = most f.top_site f.work _ w1;
      site_span = most f.top_site f.span _ s1;
      caller_count = most f.top_caller 1 1 (omega arith);
      caller_work = most f.top_caller f.work _ w1;
      caller_span = most f.top_caller f.span _ s1;
    }
  where
    most : (t : Bool) (n m : ℕ) → n ≤ m → cond t n 0 ≤ m
    most true n m h = h
    most false n m h = omega arith
frame_low false f l w s = low_zero 1 10

-- no more than eight small frames
few_fit : (i v : ℕ) (r : Row) → Low i v r → i ≤ 8 → v ≤ 80 → Fits r
few_fit i v r h k l = low_fits i v r zero_row r (plus-zero r) h (omega arith) (omega arith)

-- a table that was just made
made_low : (t : Sums) → t ≡ empty → (key : Option ℕ) → Low 0 0 (key_row t key)
made_low t e key = subst (Low 0 0) (sym (ap (λ (s : Sums). key_row s key) e ∙ empty_key key)) (low_zero 0 0)

row_low : (b : Bool) (i v : ℕ) (r : Row) → Low i v r → Low i v (cond b r zero_row)
row_low true i v r h = h
row_low false i v r h = low_zero i v

abbrev mixed : Row
mixed = record { count = 3; local = 30; site_count = 2; site_work = 20; site_span = 20; caller_count = 1; caller_work = 10; caller_span = 10 }

mixed_low : Low 3 30 mixed
mixed_low = record {
  count = omega arith;
  local = omega arith;
  site_count = omega arith;
  site_work = omega arith;
  site_span = omega arith;
  caller_count = omega arith;
  caller_work = omega arith;
  caller_span = omega arith;
}

pub add-requires : goal.add-requires
add-requires g c =
    let none = λ (key : Option ℕ). let h : Low 0 0 (key_row c.new-narrow.result key) = subst (Low 0 0) (sym (c.new-narrow.ensures key)) (low_zero 0 0) in h in
    let ten : Low 1 10 (narrow_row c.of_numbers-row.result) = subst (Low 1 10) (sym c.of_numbers-row.ensures) (frame_low true (record { local = 10; work = 10; span = 10; top_site = true; top_caller = true }) (omega arith) (omega arith) (omega arith)) in
    few_fit 1 10 _ (low_plus 0 1 0 10 _ _ (none (Some 0)) ten) (omega arith) (omega arith)

pub add_row-requires-clause-fits : goal.add_row-requires-clause-fits
add_row-requires-clause-fits g c =
    let none = λ (key : Option ℕ). let h : Low 0 0 (key_row c.new-narrow.result key) = subst (Low 0 0) (sym (c.new-narrow.ensures key)) (low_zero 0 0) in h in
    let ten : Low 1 10 (narrow_row c.of_numbers-row.result) = subst (Low 1 10) (sym c.of_numbers-row.ensures) (frame_low true (record { local = 10; work = 10; span = 10; top_site = true; top_caller = true }) (omega arith) (omega arith) (omega arith)) in
    let one = λ (key : Option ℕ). let h : Low 1 10 (key_row c.add.new.self key) =
    subst (Low 1 10) (sym (added_key c.new-narrow.result c.add.new.self 0 (narrow_row c.of_numbers-row.result) c.in_ok-add.ensures.added key)) (low_plus 0 1 0 10 _ _ (none key) (row_low (same_key (Some 0) key) 1 10 _ ten)) in h in
    few_fit 4 40 _ (low_plus 1 3 10 30 _ _ (one (Some 65535)) mixed_low) (omega arith) (omega arith)

pub add_known-requires : goal.add_known-requires
add_known-requires g c key =
    let none = λ (key : Option ℕ). let h : Low 0 0 (key_row c.new-narrow.result key) = subst (Low 0 0) (sym (c.new-narrow.ensures key)) (low_zero 0 0) in h in
    let ten : Low 1 10 (narrow_row c.of_numbers-row.result) = subst (Low 1 10) (sym c.of_numbers-row.ensures) (frame_low true (record { local = 10; work = 10; span = 10; top_site = true; top_caller = true }) (omega arith) (omega arith) (omega arith)) in
    let one = λ (key : Option ℕ). let h : Low 1 10 (key_row c.add.new.self key) =
    subst (Low 1 10) (sym (added_key c.new-narrow.result c.add.new.self 0 (narrow_row c.of_numbers-row.result) c.in_ok-add.ensures.added key)) (low_plus 0 1 0 10 _ _ (none key) (row_low (same_key (Some 0) key) 1 10 _ ten)) in h in
    let four = λ (key : Option ℕ). let h : Low 4 40 (key_row c.add_row.new.self key) =
    subst (Low 4 40) (sym (added_key c.add.new.self c.add_row.new.self 65535 mixed c.in_ok-add_row.ensures.added key)) (low_plus 1 3 10 30 _ _ (one key) (row_low (same_key (Some 65535) key) 3 30 mixed mixed_low)) in h in
    let known = λ (key : Option ℕ). low_plus 0 1 0 10 zero_row _ (low_zero 0 0) (row_low (same_key (Some 0) key) 1 10 _ ten) in
    few_fit 5 50 _ (low_plus 4 1 40 10 _ _ (four key) (known key)) (omega arith) (omega arith)

pub add_to-requires : goal.add_to-requires
add_to-requires g c key =
    let none = λ (key : Option ℕ). let h : Low 0 0 (key_row c.new-narrow.result key) = subst (Low 0 0) (sym (c.new-narrow.ensures key)) (low_zero 0 0) in h in
    let ten : Low 1 10 (narrow_row c.of_numbers-row.result) = subst (Low 1 10) (sym c.of_numbers-row.ensures) (frame_low true (record { local = 10; work = 10; span = 10; top_site = true; top_caller = true }) (omega arith) (omega arith) (omega arith)) in
    let one = λ (key : Option ℕ). let h : Low 1 10 (key_row c.add.new.self key) =
    subst (Low 1 10) (sym (added_key c.new-narrow.result c.add.new.self 0 (narrow_row c.of_numbers-row.result) c.in_ok-add.ensures.added key)) (low_plus 0 1 0 10 _ _ (none key) (row_low (same_key (Some 0) key) 1 10 _ ten)) in h in
    let four = λ (key : Option ℕ). let h : Low 4 40 (key_row c.add_row.new.self key) =
    subst (Low 4 40) (sym (added_key c.add.new.self c.add_row.new.self 65535 mixed c.in_ok-add_row.ensures.added key)) (low_plus 1 3 10 30 _ _ (one key) (row_low (same_key (Some 65535) key) 3 30 mixed mixed_low)) in h in
    let known = λ (key : Option ℕ). low_plus 0 1 0 10 zero_row _ (low_zero 0 0) (row_low (same_key (Some 0) key) 1 10 _ ten) in
    let five : Low 5 50 (key_row c.add_known.new.self key) = subst (Low 5 50) (sym (c.in_ok-add_known.ensures key)) (low_plus 4 1 40 10 _ _ (four key) (known key)) in
    few_fit 5 50 _ (low_plus 0 5 0 50 _ _ (made_low c.new-table.result c.new-table.ensures key) five) (omega arith) (omega arith)
