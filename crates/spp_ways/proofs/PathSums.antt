-- Sums on both paths, and parts of them.
use Rattle.std.proofs.Common.{◌≡◌, sym, subst, arith}
use Rattle.spp_dag.specs.declared.row.Row.{Row}
use Rattle.spp_dag.specs.Shares.{plus}
use Rattle.spp_dag.proofs.Shares.{same_rows}
use Rattle.spp_site.specs.Rows.{Fits}

-- what is added to both parts of a sum is added to the sum
pub crossed : (a b c d : Row) → plus (plus a c) (plus b d) ≡ plus (plus a b) (plus c d)
crossed a b c d =
    same_rows (plus (plus a c) (plus b d)) (plus (plus a b) (plus c d)) (omega arith) (omega arith) (omega arith) (omega arith) (omega arith) (omega arith) (omega arith) (omega arith)

-- without the first part
pub rest_fits : (a b c : Row) → Fits (plus (plus a b) c) → Fits (plus b c)
rest_fits a b c h = record {
  count = omega (arith, h.count);
  local = omega (arith, h.local);
  site_count = omega (arith, h.site_count);
  site_work = omega (arith, h.site_work);
  site_span = omega (arith, h.site_span);
  caller_count = omega (arith, h.caller_count);
  caller_work = omega (arith, h.caller_work);
  caller_span = omega (arith, h.caller_span);
}

-- the first of two sums that fit together, and the second
pub left_fits : (a b : Row) → Fits (plus a b) → Fits a
left_fits a b h = record {
  count = omega (arith, h.count);
  local = omega (arith, h.local);
  site_count = omega (arith, h.site_count);
  site_work = omega (arith, h.site_work);
  site_span = omega (arith, h.site_span);
  caller_count = omega (arith, h.caller_count);
  caller_work = omega (arith, h.caller_work);
  caller_span = omega (arith, h.caller_span);
}

pub right_fits : (a b : Row) → Fits (plus a b) → Fits b
right_fits a b h = record {
  count = omega (arith, h.count);
  local = omega (arith, h.local);
  site_count = omega (arith, h.site_count);
  site_work = omega (arith, h.site_work);
  site_span = omega (arith, h.site_span);
  caller_count = omega (arith, h.caller_count);
  caller_work = omega (arith, h.caller_work);
  caller_span = omega (arith, h.caller_span);
}

-- the first parts of two sums that fit together, and the second parts
pub firsts_fit : (a b c d : Row) → Fits (plus (plus a b) (plus c d)) → Fits (plus a c)
firsts_fit a b c d h = left_fits (plus a c) (plus b d) (subst Fits (sym (crossed a b c d)) h)

pub seconds_fit : (a b c d : Row) → Fits (plus (plus a b) (plus c d)) → Fits (plus b d)
seconds_fit a b c d h = right_fits (plus a c) (plus b d) (subst Fits (sym (crossed a b c d)) h)
