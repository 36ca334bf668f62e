-- Sums of rows.
use Rattle.std.proofs.Common.{◌≡◌, ◌+◌, Bool, true, false, cond, refl, arith, ap}
use Rattle.std.proofs.lemmas.Bool.{and_parts, eqb-true}
use Rattle.spp_dag.specs.declared.row.Row.{Row}
use Rattle.spp_dag.specs.Shares.{zero_row, plus}
use Rattle.spp_dag.proofs.Shares.{same_rows}
use Rattle.spp_site.specs.Rows.{Fits, is_zero}

pub plus-zero : (r : Row) → plus r zero_row ≡ r
plus-zero r = same_rows (plus r zero_row) r (omega arith) (omega arith) (omega arith) (omega arith) (omega arith) (omega arith) (omega arith) (omega arith)

pub zero-plus : (r : Row) → plus zero_row r ≡ r
zero-plus r = same_rows (plus zero_row r) r (omega arith) (omega arith) (omega arith) (omega arith) (omega arith) (omega arith) (omega arith) (omega arith)

pub plus-assoc : (a b c : Row) → plus (plus a b) c ≡ plus a (plus b c)
plus-assoc a b c =
    same_rows (plus (plus a b) c) (plus a (plus b c)) (omega arith) (omega arith) (omega arith) (omega arith) (omega arith) (omega arith) (omega arith) (omega arith)

-- the last of three goes before the second
pub plus-swap : (a b c : Row) → plus (plus a b) c ≡ plus (plus a c) b
plus-swap a b c =
    same_rows (plus (plus a b) c) (plus (plus a c) b) (omega arith) (omega arith) (omega arith) (omega arith) (omega arith) (omega arith) (omega arith) (omega arith)

-- the second of three goes before the first
pub plus-over : (a b c : Row) → plus a (plus b c) ≡ plus b (plus a c)
plus-over a b c =
    same_rows (plus a (plus b c)) (plus b (plus a c)) (omega arith) (omega arith) (omega arith) (omega arith) (omega arith) (omega arith) (omega arith) (omega arith)

-- a sum that is zero has no part that isn't
pub zero_part : (a b : Row) → plus a b ≡ zero_row → b ≡ zero_row
zero_part a b h =
    let f1 : a.count + b.count ≡ 0 = ap (λ r. r.count) h in
    let f2 : a.local + b.local ≡ 0 = ap (λ r. r.local) h in
    let f3 : a.site_count + b.site_count ≡ 0 = ap (λ r. r.site_count) h in
    let f4 : a.site_work + b.site_work ≡ 0 = ap (λ r. r.site_work) h in
    let f5 : a.site_span + b.site_span ≡ 0 = ap (λ r. r.site_span) h in
    let f6 : a.caller_count + b.caller_count ≡ 0 = ap (λ r. r.caller_count) h in
    let f7 : a.caller_work + b.caller_work ≡ 0 = ap (λ r. r.caller_work) h in
    let f8 : a.caller_span + b.caller_span ≡ 0 = ap (λ r. r.caller_span) h in
    same_rows b zero_row (omega arith) (omega arith) (omega arith) (omega arith) (omega arith) (omega arith) (omega arith) (omega arith)

-- a row is added where a test passes
pub plus-cond : (t : Bool) (a r : Row) → plus a (cond t r zero_row) ≡ cond t (plus a r) a
plus-cond true a r = refl
plus-cond false a r = plus-zero a

-- a part of a sum that fits
pub part_fits : (a b c d : Row) → Fits (plus a (plus (plus b c) d)) → Fits (plus (plus a b) c)
part_fits a b c d h = record {
  count = omega (arith, h.count);
  local = omega (arith, h.local);
  site_count = omega (arith, h.site_count);
  site_work = omega (arith, h.site_work);
  site_span = omega (arith, h.site_span);
  caller_count = omega (arith, h.caller_count);
  caller_work = omega (arith, h.caller_work);
  caller_span = omega (arith, h.caller_span);
}

-- without a part that nothing is added to
pub first_fits : (a b c : Row) → Fits (plus (plus a b) c) → Fits (plus a c)
first_fits a b c h = record {
  count = omega (arith, h.count);
  local = omega (arith, h.local);
  site_count = omega (arith, h.site_count);
  site_work = omega (arith, h.site_work);
  site_span = omega (arith, h.site_span);
  caller_count = omega (arith, h.caller_count);
  caller_work = omega (arith, h.caller_work);
  caller_span = omega (arith, h.caller_span);
}

pub is_zero-true : (r : Row) → is_zero r ≡ true → r ≡ zero_row
is_zero-true r h =
    let a = and_parts _ _ h in
    let b = and_parts _ _ a.1 in
    let c = and_parts _ _ b.1 in
    let d = and_parts _ _ c.1 in
    let e = and_parts _ _ d.1 in
    let f = and_parts _ _ e.1 in
    let g = and_parts _ _ f.1 in
    same_rows r zero_row (eqb-true r.count 0 a.0) (eqb-true r.local 0 b.0) (eqb-true r.site_count 0 c.0) (eqb-true r.site_work 0 d.0) (eqb-true r.site_span 0 e.0)
    (eqb-true r.caller_count 0 f.0) (eqb-true r.caller_work 0 g.0) (eqb-true r.caller_span 0 g.1)
