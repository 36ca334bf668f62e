use Rattle.std.proofs.Common.{◌≡◌, ℕ, ◌*◌, ◌≤◌, Bool, true, false, cond, Option, Some, sym, ap, subst, ◌∙◌, arith}
use Rattle.spp_dag.specs.declared.row.Row.{Row}
use Rattle.spp_dag.specs.Shares.{zero_row}
use Rattle.spp_dag.specs.Steps.{same_key}
use Rattle.spp_site.specs.declared.closed_frame.ClosedFrame.{ClosedFrame}
use Rattle.spp_site.specs.Rows.{Fits, frame_row}
use Rattle.spp_site.specs.Table.{Sums, empty}
use Rattle.spp_site.specs.Profiles.{key_row}
use Rattle.spp_site.proofs.Keys.{empty_key}
use Rattle.spp_site.proofs.Rows.{plus-zero}
use Rattle.spp_site.proofs.RowSums.{Low, low_zero, low_plus, low_fits}
use Rattle.profile_tests.proofs.site.narrow_sums_add_up.Goals as goal

-- what a small frame adds
frame_low : (b : Bool) (f : ClosedFrame) → f.local ≤ 10 → f.work ≤ 4951760157141521099596496896 → f.span ≤ 4951760157141521099596496896 → Low 1 10 (cond b (frame_row f) zero_row)
frame_low true f l w s =
    let w1 : f.work ≤ 4951760157141521099596496896 * 1 = omega arith in
    let s1 : f.span ≤ 4951760157141521099596496896 * 1 = omega arith in
    record {
      count = omega arith;
      local = l;
      site_count = most f.top_site 1 1 (omega arith);
      site_work = most f.top_site f.work _ w1;
      site_span = most f.top_site f.span _ s1;
      caller_count = most f.top_caller 1 1 (omega arith);
      caller_work = most f.top_caller f.work _ w1;
      caller_span = most f.top_caller f.span _ s1;
    }
  where
    most : (t : Bool) (n m : ℕ) → n ≤ m → cond t n 0 ≤ m
    most true n m h = h
    most false n m h = omega arith
frame_low false f l w s = low_zero 1 10

-- no more than eight small frames
few_fit : (i v : ℕ) (r : Row) → Low i v r → i ≤ 8 → v ≤ 80 → Fits r
few_fit i v r h k l = low_fits i v r zero_row r (plus-zero r) h (omega arith) (omega arith)

-- a table that was just made
made_low : (t : Sums) → t ≡ empty → (key : Option ℕ) → Low 0 0 (key_row t key)
made_low t e key = subst (Low 0 0) (sym (ap (λ (s : Sums). key_row s key) e ∙ empty_key key)) (low_zero 0 0)

pub add_to-requires : goal.add_to-requires
add_to-requires g c key =
    let small : ClosedFrame = record { local = 1; work = 5; span = 3; top_site = true; top_caller = false } in
    let large : ClosedFrame = record { local = 2; work = 18446744073709551616; span = 7; top_site = true; top_caller = true } in
    let b : Bool = same_key (Some 2000) key in
    let none : Low 0 0 (key_row c.into_sums-sums.result key) = subst (Low 0 0) (sym (c.into_sums-sums.ensures key)) (low_zero 0 0) in
    let one : Low 1 10 (key_row c.close.new.self key) = subst (Low 1 10) (sym (c.in_ok-close.ensures key)) (low_plus 0 1 0 10 _ _ none (frame_low b small (omega arith) (omega arith) (omega arith))) in
    let two : Low 2 20 (key_row c.close-2.new.self key) = subst (Low 2 20) (sym (c.in_ok-close-2.ensures key)) (low_plus 1 1 10 10 _ _ one (frame_low b large (omega arith) (omega arith) (omega arith))) in
    let once : Low 2 20 (key_row c.in_ok-once.once.0 key) = subst (Low 2 20) (sym (c.in_ok-once.ensures key)) two in
    let new : Low 0 0 (key_row c.into_sums-twice.result key) = subst (Low 0 0) (sym (c.into_sums-twice.ensures key)) (low_zero 0 0) in
    let copied : Low 2 20 (key_row c.absorb.new.self key) = subst (Low 2 20) (sym (c.in_ok-absorb.ensures key)) (low_plus 0 2 0 20 _ _ new once) in
    let again : Low 4 40 (key_row c.absorb-2.new.self key) = subst (Low 4 40) (sym (c.in_ok-absorb-2.ensures key)) (low_plus 2 2 20 20 _ _ copied once) in
    let all : Low 4 40 (key_row c.in_ok-both.both.0 key) = subst (Low 4 40) (sym (c.in_ok-both.ensures key)) again in
    few_fit 4 40 _ (low_plus 0 4 0 40 _ _ (made_low c.new-table.result c.new-table.ensures key) all) (omega arith) (omega arith)
