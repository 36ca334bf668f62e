-- Rows whose sums are small, so that more can be added to them.
use Rattle.std.proofs.Common.{◌≡◌, ℕ, ◌+◌, ◌≤◌, ◌<◌, ◌^◌, Bool, true, false, cond, arith, sym, ◌∙◌, ap, subst, nat_eq, nat_le, ◌&&◌, unwrap_or}
use Rattle.std.proofs.lemmas.Bool.{and_parts, leb-true}
use Rattle.std.specs.Ordering.{nat_cmp}
use Rattle.std.specs.FinMap.{get-empty}
use Rattle.spp_dag.specs.declared.row.Row.{Row}
use Rattle.spp_dag.specs.Shares.{zero_row, plus}
use Rattle.spp_site.specs.Rows.{Fits}
use Rattle.spp_site.specs.Table.{Sums, row_at, empty, IsAdded}

-- each sum is at most n
pub record IsAtMost (n : ℕ) (r : Row) : Type 0 where
  pub count : r.count ≤ n
  pub local : r.local ≤ n
  pub site_count : r.site_count ≤ n
  pub site_work : r.site_work ≤ n
  pub site_span : r.site_span ≤ n
  pub caller_count : r.caller_count ≤ n
  pub caller_work : r.caller_work ≤ n
  pub caller_span : r.caller_span ≤ n

-- each row of a site is
abbrev pub AreAtMost : ℕ → Sums → Type 0
AreAtMost n t = (s : ℕ) → IsAtMost n (row_at t s)

small_more : (n m : ℕ) (r : Row) → IsAtMost n r → IsAtMost (n + m) r
small_more n m r h = record {
  count = omega (arith, h.count);
  local = omega (arith, h.local);
  site_count = omega (arith, h.site_count);
  site_work = omega (arith, h.site_work);
  site_span = omega (arith, h.site_span);
  caller_count = omega (arith, h.caller_count);
  caller_work = omega (arith, h.caller_work);
  caller_span = omega (arith, h.caller_span);
}

small_plus : (n m : ℕ) (r q : Row) → IsAtMost n r → IsAtMost m q → IsAtMost (n + m) (plus r q)
small_plus n m r q h i = record {
  count = omega (arith, h.count, i.count);
  local = omega (arith, h.local, i.local);
  site_count = omega (arith, h.site_count, i.site_count);
  site_work = omega (arith, h.site_work, i.site_work);
  site_span = omega (arith, h.site_span, i.site_span);
  caller_count = omega (arith, h.caller_count, i.caller_count);
  caller_work = omega (arith, h.caller_work, i.caller_work);
  caller_span = omega (arith, h.caller_span, i.caller_span);
}

pub empty_row : (s : ℕ) → row_at empty s ≡ zero_row
empty_row s = ap (λ o. unwrap_or o zero_row) (get-empty nat_cmp s)

pub small_empty : (t : Sums) → t ≡ empty → AreAtMost 0 t
small_empty t e s =
    subst (λ r. IsAtMost 0 r) (sym (ap (λ t. row_at t s) e ∙ empty_row s)) (record {
      count = omega arith;
      local = omega arith;
      site_count = omega arith;
      site_work = omega arith;
      site_span = omega arith;
      caller_count = omega arith;
      caller_work = omega arith;
      caller_span = omega arith;
    })

-- as they are where nothing but the root's row changed
pub small_kept : (n : ℕ) (old new : Sums) → AreAtMost n old → new.sites ≡ old.sites → AreAtMost n new
small_kept n old new h e s = subst (λ m. IsAtMost n (row_at (record { root = new.root; sites = m }) s)) (sym e) (h s)

pub small_added : (n m : ℕ) (old new : Sums) (site : ℕ) (row : Row) → AreAtMost n old → IsAtMost m row → IsAdded old new site row → AreAtMost (n + m) new
small_added n m old new site row h i a s = subst (λ r. IsAtMost (n + m) r) (sym (a.sites s)) (go (nat_eq s site))
  where
    go : (t : Bool) → IsAtMost (n + m) (cond t (plus (row_at old s) row) (row_at old s))
    go true = small_plus n m (row_at old s) row (h s) i
    go false = small_more n m (row_at old s) (h s)

pub small_fits : (n m : ℕ) (r q : Row) → n + m < 2 ^ 64 → IsAtMost n r → IsAtMost m q → Fits (plus r q)
small_fits n m r q l h i = record {
  count = omega (arith, h.count, i.count);
  local = omega (arith, h.local, i.local);
  site_count = omega (arith, h.site_count, i.site_count);
  site_work = omega (arith, h.site_work, i.site_work);
  site_span = omega (arith, h.site_span, i.site_span);
  caller_count = omega (arith, h.caller_count, i.caller_count);
  caller_work = omega (arith, h.caller_work, i.caller_work);
  caller_span = omega (arith, h.caller_span, i.caller_span);
}

-- a row by its numbers, none of which is over 30
pub small_thirty : (r : Row) → nat_le r.count 30 && (nat_le r.local 30 && (nat_le r.site_count 30 && (nat_le r.site_work 30 && (nat_le r.site_span 30
    && (nat_le r.caller_count 30 && (nat_le r.caller_work 30 && nat_le r.caller_span 30)))))) ≡ true → IsAtMost 30 r
small_thirty r h =
    let a = and_parts _ _ h in
    let b = and_parts _ _ a.1 in
    let c = and_parts _ _ b.1 in
    let d = and_parts _ _ c.1 in
    let e = and_parts _ _ d.1 in
    let f = and_parts _ _ e.1 in
    let g = and_parts _ _ f.1 in
    record {
      count = leb-true r.count 30 a.0;
      local = leb-true r.local 30 b.0;
      site_count = leb-true r.site_count 30 c.0;
      site_work = leb-true r.site_work 30 d.0;
      site_span = leb-true r.site_span 30 e.0;
      caller_count = leb-true r.caller_count 30 f.0;
      caller_work = leb-true r.caller_work 30 g.0;
      caller_span = leb-true r.caller_span 30 g.1;
    }
